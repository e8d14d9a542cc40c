use Rattle.std.proofs.Common.{◌≡◌, List, length}
use Rattle.nob_ids.specs.declared.limits.Limits.{Limits}
use Rattle.nob_model_types.specs.declared.deed.Deed.{Deed}
use Rattle.nob_model_history.specs.Histories.{history_of}
use Rattle.nob_model.specs.Next as next
use Rattle.nob_space_state.specs.Parts.{state_of}
use Rattle.nob_space_state.specs.Stands.{Stands}
use Rattle.nob_space.proofs.Places.{IsWrittenTo}
use Rattle.nob_space.proofs.work.sends.Given as goal

abbrev pub invariant-loop-place : goal.invariant-loop-place
invariant-loop-place l = record {
  each : length l.all ≡ 32;
  told : (limits : Limits) (D : List Deed) → Stands l.parts.here.space l.parts.here.n limits (state_of l.parts) D → IsWrittenTo (λ p. next.can_send l.parts.here.space l.parts.here.n p limits.window (history_of l.parts.here.space l.parts.here.n D)) l.place l.all;
}
