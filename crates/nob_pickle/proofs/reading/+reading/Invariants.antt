use Rattle.std.proofs.Common.{◌≡◌, ◌+◌, ◌-◌, ◌*◌}
use Rattle.nob_pickle.specs.Shape.{forest}
use Rattle.nob_pickle.specs.Reading.{trees_at, tree_at}
use Rattle.nob_pickle.proofs.Loop.{with_front}
use Rattle.nob_pickle.proofs.reading.+reading.Given as goal

abbrev pub decreases-value_of : goal.decreases-value_of
decreases-value_of l = 4 * l.levels

abbrev pub decreases-value_by : goal.decreases-value_by
decreases-value_by l = 4 * l.levels + 3

abbrev pub decreases-list_of : goal.decreases-list_of
decreases-list_of l = 4 * l.levels + 2

abbrev pub decreases-values_of : goal.decreases-values_of
decreases-values_of l = 4 * l.levels + 1

abbrev pub invariant-values_of-loop : goal.invariant-values_of-loop
invariant-values_of-loop l =
    with_front (forest l.items.items) (trees_at (tree_at l.levels) (l.count - l.counter) l.rest.references l.rest.bytes.now)
    ≡ trees_at (tree_at l.levels) l.count l.initial.rest.references l.initial.rest.bytes.now
