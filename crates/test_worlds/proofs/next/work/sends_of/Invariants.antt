use Rattle.std.proofs.Common.{◌≡◌, length}
use Rattle.nob_model.specs.Next.{can_send}
use Rattle.nob_space.proofs.Places.{IsWrittenTo}
use Rattle.test_worlds.proofs.next.work.sends_of.Given as goal

abbrev pub invariant-loop-place : goal.invariant-loop-place
invariant-loop-place l = (length l.all ≡ 32) × IsWrittenTo (λ p. can_send l.here.space l.here.n p l.window l.history) l.place l.all
