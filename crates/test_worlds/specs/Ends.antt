-- How a run with a death ends.
use Rattle.std.specs.Prelude.{Bool, ◌==◌, List}
use Rattle.nob_model_types.specs.declared.entry.Entry.{Entry}
use Rattle.nob_model.specs.Histories.{history}
use Rattle.nob_model.specs.Tallies.{live_count}
use Rattle.nob_space.specs.Spaces.{Owner}

-- whether no object of a space is live after these entries
abbrev pub has_none : Owner → List Entry → Bool
has_none space L = live_count space.id (history space.id space.n L) == 0
