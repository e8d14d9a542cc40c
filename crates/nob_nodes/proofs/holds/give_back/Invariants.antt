use Rattle.std.proofs.Common.{◌≡◌}
use Rattle.nob_nodes.proofs.holds.give_back.Given as goal

abbrev pub invariant-loop : goal.invariant-loop
invariant-loop g l =
    ((goal.iterator-loop g).can_next l.iterator' × (goal.iterator-loop g).is_finite l.iterator')
    × (l.held ≡ l.fn.hold)
    × (l.node ≡ l.fn.node)
