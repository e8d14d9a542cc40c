use Rattle.std.proofs.Common.{◌≡◌, length, take}
use Rattle.nob_keeper.specs.Desks as desks
use Rattle.nob_model.specs.Next as next
use Rattle.nob_kept.specs.Accounts as accounts
use Rattle.nob_keeper.proofs.held.ready_places.Given as goal

abbrev pub invariant-loop-call : goal.invariant-loop-call
invariant-loop-call l = (length l.places ≡ 32) × desks.AreMarked (λ call. next.reply_ready call (accounts.history_in l.kept)) l.places (take l.call-index l.waiting)
