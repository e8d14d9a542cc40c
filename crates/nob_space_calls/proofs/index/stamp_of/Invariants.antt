use Rattle.std.proofs.Common.{◌≡◌}
use Rattle.nob_space_calls.specs.Rows.{first_stamp}
use Rattle.nob_space_calls.proofs.index.stamp_of.Given as goal

abbrev pub invariant-loop-stamp : goal.invariant-loop-stamp
invariant-loop-stamp l =
    (goal.iterator-loop-stamp).can_next l.left × (goal.iterator-loop-stamp).is_finite l.left × (first_stamp l.call l.left ≡ first_stamp l.call l.messages.rows)
