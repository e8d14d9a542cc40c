use Rattle.nob_dispatch_lanes.specs.Ends.{got_by}
use Rattle.nob_node.specs.Leaving.{AllCameBack}
use Rattle.nob_node.proofs.leftovers.take_returned.Given as goal

abbrev pub invariant-loop : goal.invariant-loop
invariant-loop g l =
    ((goal.iterator-loop g).can_next l.iterator' × (goal.iterator-loop g).is_finite l.iterator')
    × AllCameBack (got_by l.fn.returns.pass) (got_by l.returns.pass) l.fn.shelf l.shelf
