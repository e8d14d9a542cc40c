-- What a space that answered an event is one of: of a list with one entry more.
use Rattle.std.proofs.Common.{◌≡◌, ◌≤◌, ℕ, List, ◌∷◌, Option, Some, None, Ok, refl, sym, subst}
use Rattle.nob_ids.specs.declared.limits.Limits.{Limits}
use Rattle.nob_ids.specs.declared.reason.Reason.{Reason}
use Rattle.nob_frame.specs.declared.frame.Frame.{Frame}
use Rattle.nob_model_session.specs.declared.entry.Arrived.{Arrived}
use Rattle.nob_model_session.specs.declared.entry.Arrived.TheVariants as arrived
use Rattle.nob_model_types.specs.declared.answer.Answer.{Answer}
use Rattle.nob_model_types.specs.declared.entry.Entry.{Entry}
use Rattle.nob_model_types.specs.declared.event.Event.{Event}
use Rattle.nob_model_types.specs.declared.event.Event.TheVariants as events
use Rattle.nob_model_types.specs.declared.event.Outcome.{Outcome}
use Rattle.nob_model_types.specs.declared.here.Here.{Here}
use Rattle.nob_model_types.specs.Deeds.{deed_of, deeds}
use Rattle.nob_model_types.specs.declared.deed.Deed.{Deed}
use Rattle.nob_space_state.specs.Parts.{State}
use Rattle.nob_space_state.specs.Stands.{Stands}
use Rattle.nob_space_state.specs.Closing.{tick_answer, tick_deed, arrive_answer, arrive_deed}
use Rattle.nob_space_state.specs.Sending.{finish_answer, finish_deed}
use Rattle.nob_space_state.specs.Taking.{answer_of}
use Rattle.nob_space_state.specs.Taking as taking
use Rattle.nob_space_state.specs.declared.finish.ReplyFate.{ReplyFate}
use Rattle.nob_space_state.specs.declared.finish.ReplyFate.TheVariants as fates
use Rattle.nob_space_state.specs.declared.take.CallResult.{CallResult}
use Rattle.nob_space_state.specs.declared.take.CallResult.TheVariants as brought
use Rattle.nob_space.specs.Spaces.{entry_of}

-- what an entry did stands at the front of what its list did
did_first : (s : ℕ) (event : Event) (answer : Answer) (deed : Deed) (L : List Entry) → deed_of event answer ≡ Some deed → deed ∷ deeds L ≡ deeds (entry_of s event (Ok answer) ∷ L)
did_first s event answer deed L is = rw is refl

-- the same space is among as few spaces
pub few_still : {new old : Here} → new ≡ old → old.n ≤ 32 → new.n ≤ 32
few_still same few = subst (λ (here : Here). here.n ≤ 32) (sym same) few

-- what stands for what one event more did is a space's
pub owner_after : {s n : ℕ} {limits : Limits} {state : State} (event : Event) (answer : Answer) (deed : Deed) (L : List Entry) → n ≤ 32 → deed_of event answer ≡ Some deed → Stands s n limits state (deed ∷ deeds L) → (n ≤ 32) × (M : List Entry) × Stands s n limits state (deeds M)
owner_after {s = s} {n = n} {limits = limits} {state = state} event answer deed L few is stands =
    (few, entry_of s event (Ok answer) ∷ L, subst (Stands s n limits state) (did_first s event answer deed L is) stands)

-- what a tick did, by its answer
pub tick_did : (p : ℕ) (closed : Option Reason) → deed_of (events.Tick p) (tick_answer closed) ≡ Some (tick_deed p closed)
tick_did p None = refl
tick_did p (Some reason) = refl

-- what a frame that arrived did, by its answer
pub arrive_did : (frame : Frame) (done : Arrived) → deed_of (events.Arrive frame) (arrive_answer done) ≡ Some (arrive_deed frame done)
arrive_did frame (arrived.Took count) = refl
arrive_did frame (arrived.Closed ending) = refl

-- what the end of a job did, by its answer
pub finish_did : (job : ℕ) (outcome : Outcome) (fate : ReplyFate) → deed_of (events.Finish job outcome) (finish_answer fate) ≡ Some (finish_deed job outcome fate)
finish_did job outcome fates.HandedOn = refl
finish_did job outcome fates.Dropped = refl

-- what taking a reply did, by its answer
pub take_did : (call : ℕ) (got : CallResult) → deed_of (events.TakeReply call) (answer_of got) ≡ Some (taking.deed_of call got)
take_did call (brought.Replied status value) = refl
take_did call brought.Ended = refl
