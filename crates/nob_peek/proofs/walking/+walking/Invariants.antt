use Rattle.std.proofs.Common.{◌≡◌, ◌+◌, ◌-◌, ◌*◌}
use Rattle.nob_pickle.specs.Reading.{trees_at, tree_at}
use Rattle.nob_peek.specs.Walking.{behind}
use Rattle.nob_peek.proofs.walking.+walking.Given as goal

abbrev pub decreases-pass : goal.decreases-pass
decreases-pass l = 4 * l.levels

abbrev pub decreases-pass_by : goal.decreases-pass_by
decreases-pass_by l = 4 * l.levels + 3

abbrev pub decreases-pass_list : goal.decreases-pass_list
decreases-pass_list l = 4 * l.levels + 2

abbrev pub decreases-pass_all : goal.decreases-pass_all
decreases-pass_all l = 4 * l.levels + 1

abbrev pub invariant-pass_all-loop : goal.invariant-pass_all-loop
invariant-pass_all-loop l =
    behind (trees_at (tree_at l.levels) (l.count - l.counter) l.rest.references l.rest.bytes.now)
    ≡ behind (trees_at (tree_at l.levels) l.count l.initial.rest.references l.initial.rest.bytes.now)
