use Rattle.std.proofs.Common.{◌≡◌, length}
use Rattle.nob_model.specs.Next.{can_act}
use Rattle.nob_space.proofs.Places.{IsWrittenTo}
use Rattle.test_worlds.proofs.next.work.acts_of.Given as goal

abbrev pub invariant-loop-place : goal.invariant-loop-place
invariant-loop-place l = (length l.all ≡ 32) × IsWrittenTo (λ p. can_act l.here.space l.here.n p l.history) l.place l.all
