use Rattle.nob_table.specs.Table.{Table}
use Rattle.nob_table.proofs.Tables.{first_of_table}
use Rattle.nob_table.proofs.table.ObjectTable.first_idle.Goals as goal

pub returns-clause-first : goal.returns-clause-first
returns-clause-first c =
    let t : Table = record {
      me = c.self.inside.me;
      exported = c.self.inside.objects.exported;
      dirties = c.self.inside.far.dirties;
      objects = c.self.inside.objects.rows;
      kept = c.self.inside.objects.kept;
      counted = c.self.inside.far.counted;
      surrogates = c.self.inside.far.surrogates;
      kept_surrogates = c.self.inside.far.kept;
      export_room = c.self.inside.objects.room;
      surrogate_room = c.self.inside.far.room;
    } in
    rw (← c.self.view_is) (first_of_table t c.self.invariant c.args.place c.first_idle.result c.first_idle.ensures)
