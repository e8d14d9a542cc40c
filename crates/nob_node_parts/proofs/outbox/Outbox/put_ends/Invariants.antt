use Rattle.std.proofs.Common.{◌≡◌, None}
use Rattle.nob_node_parts.specs.Outboxes.{seat_in}
use Rattle.nob_node_parts.proofs.outbox.Outbox.put_ends.Given as goal

abbrev pub invariant-loop : goal.invariant-loop
invariant-loop g l =
    ((goal.iterator-loop g).can_next l.iterator' × (goal.iterator-loop g).is_finite l.iterator')
    × (l.self.sender ≡ None)
    × (seat_in l.self ≡ seat_in l.fn.self)
