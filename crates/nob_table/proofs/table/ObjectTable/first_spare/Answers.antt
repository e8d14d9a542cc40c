use Rattle.nob_table.specs.Table.{Table}
use Rattle.nob_table.proofs.Unheld.{first_spare_of_objects, spare_given}
use Rattle.nob_table.proofs.table.ObjectTable.first_spare.Goals as goal

abbrev table : goal.After-first_spare → Table
table c = record {
  me = c.self.inside.me;
  exported = c.self.inside.objects.exported;
  dirties = c.self.inside.far.dirties;
  objects = c.self.inside.objects.rows;
  kept = c.self.inside.objects.kept;
  counted = c.self.inside.far.counted;
  surrogates = c.self.inside.far.surrogates;
  kept_surrogates = c.self.inside.far.kept;
  export_room = c.self.inside.objects.room;
  surrogate_room = c.self.inside.far.room;
}

pub returns-clause-first : goal.returns-clause-first
returns-clause-first c = rw (← c.self.view_is) (first_spare_of_objects (table c) c.self.invariant c.args.index c.first_spare.result c.first_spare.ensures.first)

pub returns-clause-given : goal.returns-clause-given
returns-clause-given c = rw (← c.self.view_is) (spare_given (table c) c.self.invariant c.args.index c.first_spare.result c.first_spare.ensures.first)
