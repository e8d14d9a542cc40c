use Rattle.std.proofs.Common.{◌≡◌}
use Rattle.nob_model_work.specs.Work.{call_after_close}
use Rattle.nob_space_calls.specs.Rows.{changed}
use Rattle.nob_space_calls.proofs.rows.end_calls.Given as goal

abbrev pub invariant-loop-call : goal.invariant-loop-call
invariant-loop-call l =
    (goal.iterator-loop-call).can_next l.left × (goal.iterator-loop-call).is_finite l.left
    × (changed (call_after_close l.peer l.ready.replies) l.left l.calls.rows ≡ changed (call_after_close l.peer l.ready.replies) l.fn.numbers l.fn.calls.rows) × (l.calls.room ≡ l.fn.calls.room)
