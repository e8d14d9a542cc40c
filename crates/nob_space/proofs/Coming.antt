-- What is copied before a TakeReply is what its answer owns.
use Rattle.std.proofs.Common.{◌≡◌, ℕ, true, List, Some, None, Ok, IsOk, is_some, sym, ap, subst, ◌∙◌}
use Rattle.nob_ids.specs.declared.limits.Limits.{Limits}
use Rattle.nob_pickle.specs.declared.value.Value.{Value}
use Rattle.nob_model_types.specs.declared.answer.Answer.{Answer}
use Rattle.nob_model_types.specs.declared.answer.Answer.TheVariants as answers
use Rattle.nob_model_types.specs.declared.event.Event.{Event}
use Rattle.nob_model_types.specs.declared.event.Event.TheVariants as events
use Rattle.nob_model_types.specs.Deeds.{deed_of}
use Rattle.nob_model_types.specs.declared.deed.Deed.{Deed}
use Rattle.nob_model_history.specs.Histories.{history_of}
use Rattle.nob_model.specs.Right.{right_after}
use Rattle.nob_space.specs.declared.twice.Spare.{Spare}
use Rattle.nob_space.specs.declared.twice.Spare.TheVariants as spares
use Rattle.nob_space.specs.Twice.{Fits, IsComing}
use Rattle.nob_space_state.specs.Parts.{State}
use Rattle.nob_space_state.specs.Stands.{Stands}
use Rattle.nob_space_state.specs.Taking.{take_answer}
use Rattle.nob_space_state.proofs.Replies.{take_right}

pub copied_same : (v value : Value) → Some v ≡ Some value → spares.Value v ≡ spares.Value value
copied_same v value same = (let one : v ≡ value = cc in ap (λ (w : Value). spares.Value w) one)

pub none_copied : (value : Value) → None ≡ Some value → ⊥
none_copied value same = cc

module _ {s n : ℕ} {st : State} (call : ℕ) (event : Event) (is : event ≡ events.TakeReply call) where
  -- what is answered to a TakeReply is what the state tells
  takes_there : {limits : Limits} {D : List Deed} → Stands s n limits st D → right_after s n limits (history_of s n D) event ≡ take_answer call st
  unfolding right_after
  takes_there {limits = limits} {D = D} stands = ap (right_after s n limits (history_of s n D)) is ∙ take_right stands call

  pub takes_wanting : {limits : Limits} {D : List Deed} → Stands s n limits st D → IsOk (take_answer call st) → IsOk (right_after s n limits (history_of s n D) event)
  takes_wanting stands there = subst IsOk (sym (takes_there stands)) there

  -- a value that is copied wherever a reply is brought is what the answer owns
  pub takes_fit : (spare : Spare) (answer : Answer) → IsComing s n st event answer → ((status : ℕ) (value : Value) → take_answer call st ≡ Ok (answers.Replied status value) → spare ≡ spares.Value value) → Fits spare answer
  takes_fit spare answer coming told =
      elim answer as (λ (a : Answer). is_some (deed_of (events.TakeReply call) a) ≡ true → take_answer call st ≡ Ok a → Fits spare a) [
        | answers.Exported rep ↦ λ _ _. tt
        | answers.Done ↦ λ _ _. tt
        | answers.Called number ↦ λ _ _. tt
        | answers.Replied status value ↦ λ _ brings. told status value brings
        | answers.Ended ↦ λ _ _. tt
        | answers.Job job ↦ λ own _. absurd (cc)
        | answers.Finished ↦ λ _ _. tt
        | answers.Dropped ↦ λ _ _. tt
        | answers.Acted item ↦ λ _ _. tt
        | answers.Closed reason ↦ λ _ _. tt
        | answers.Settled peer item ↦ λ _ _. tt
        | answers.Cleaned rep ↦ λ _ _. tt
        | answers.Withdrawn ↦ λ _ _. tt
        | answers.Frames frames ↦ λ own _. absurd (cc)
        | answers.Took count ↦ λ _ _. tt
        | answers.Opened number ↦ λ _ _. tt
      ] (subst (λ (e : Event). is_some (deed_of e answer) ≡ true) is coming.own) (sym (takes_there coming.stands) ∙ coming.is_right)
