use Rattle.nob_table.specs.Table.{Table}
use Rattle.nob_table.proofs.Owners.{known_of, unknown_of}
use Rattle.nob_table.proofs.table.ObjectTable.has_of.Goals as goal

pub returns-clause-found : goal.returns-clause-found
returns-clause-found c is =
    let t : Table = record {
      me = c.self.inside.me;
      exported = c.self.inside.objects.exported;
      dirties = c.self.inside.far.dirties;
      objects = c.self.inside.objects.rows;
      kept = c.self.inside.objects.kept;
      counted = c.self.inside.far.counted;
      surrogates = c.self.inside.far.surrogates;
      kept_surrogates = c.self.inside.far.kept;
      export_room = c.self.inside.objects.room;
      surrogate_room = c.self.inside.far.room;
    } in
    rw (← c.self.view_is) (known_of t c.self.invariant c.args.owner (c.has_of.ensures.found is))

pub returns-clause-none : goal.returns-clause-none
returns-clause-none c is =
    let t : Table = record {
      me = c.self.inside.me;
      exported = c.self.inside.objects.exported;
      dirties = c.self.inside.far.dirties;
      objects = c.self.inside.objects.rows;
      kept = c.self.inside.objects.kept;
      counted = c.self.inside.far.counted;
      surrogates = c.self.inside.far.surrogates;
      kept_surrogates = c.self.inside.far.kept;
      export_room = c.self.inside.objects.room;
      surrogate_room = c.self.inside.far.room;
    } in
    rw (← c.self.view_is) (unknown_of t c.self.invariant c.args.owner (c.has_of.ensures.none is))
