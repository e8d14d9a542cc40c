use Rattle.std.proofs.Common.{◌≡◌}
use Rattle.std.specs.List.{list_any}
use Rattle.nob_model_work.specs.Work.{is_reply_from}
use Rattle.nob_space_calls.proofs.ready.is_any_from.Given as goal

abbrev pub invariant-loop-stamp : goal.invariant-loop-stamp
invariant-loop-stamp l =
    (goal.iterator-loop-stamp).can_next l.left × (goal.iterator-loop-stamp).is_finite l.left × (list_any (λ row. is_reply_from l.peer l.call row.1) l.left ≡ list_any (λ row. is_reply_from l.peer l.call row.1) l.messages.rows)
