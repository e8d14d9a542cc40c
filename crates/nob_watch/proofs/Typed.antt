-- What an entry hands on is of its types.
use Rattle.std.proofs.Common.{◌≡◌, ℕ, Some, None, Ok, Err, subst, sym, ap, ◌∙◌}
use Rattle.std.specs.Prelude.{Result}
use Rattle.nob_model_types.specs.declared.answer.Answer.{Answer}
use Rattle.nob_model_types.specs.declared.answer.Answer.TheVariants as answers
use Rattle.nob_model_types.specs.declared.event.Event.{Event}
use Rattle.nob_model_types.specs.declared.event.Event.TheVariants as events
use Rattle.nob_model_types.specs.declared.refusal.Refusal.{Refusal}
use Rattle.nob_model_types.specs.Deeds.{deed_of, deed_by}
use Rattle.nob_model_types.specs.declared.deed.Deed.{Deed}
use Rattle.nob_model_types.specs.declared.deed.Deed.TheVariants as did
use Rattle.nob_model_types.specs.declared.deed.Cause.TheVariants as causes
use Rattle.nob_model_invariant.specs.Typed.{HandsTyped, IsOfTypes}
use Rattle.nob_space.specs.Steps.{HandsOnFitting}
use Rattle.nob_space.specs.Spaces.{entry_of}

-- so does what an answered event did
deed_typed : (event : Event) (answer : Answer) (deed : Deed) → HandsOnFitting event (Ok answer) → deed_of event answer ≡ Some deed → HandsTyped deed
deed_typed events.Export (answers.Exported rep) deed fits is = let same : did.Export rep ≡ deed = cc in subst HandsTyped same tt
deed_typed events.Export _ deed fits is = absurd cc
deed_typed (events.Dup rep) answers.Done deed fits is = let same : did.Dup rep ≡ deed = cc in subst HandsTyped same tt
deed_typed (events.Dup rep) _ deed fits is = absurd cc
deed_typed (events.Release rep) answers.Done deed fits is = let same : did.Release rep ≡ deed = cc in subst HandsTyped same tt
deed_typed (events.Release rep) _ deed fits is = absurd cc
deed_typed (events.Call target method value) (answers.Called call) deed fits is = let same : did.Call target method value call ≡ deed = cc in subst HandsTyped same (fits.0, fits.1, fits.2.typed)
deed_typed (events.Call target method value) _ deed fits is = absurd cc
deed_typed (events.TakeReply call) (answers.Replied status value) deed fits is = let same : did.TakeReply call status value ≡ deed = cc in subst HandsTyped same tt
deed_typed (events.TakeReply call) answers.Ended deed fits is = let same : did.TakeEnd call ≡ deed = cc in subst HandsTyped same tt
deed_typed (events.TakeReply call) _ deed fits is = absurd cc
deed_typed events.Claim (answers.Job job) deed fits is = let same : did.Claim job ≡ deed = cc in subst HandsTyped same tt
deed_typed events.Claim _ deed fits is = absurd cc
deed_typed (events.Finish job outcome) answers.Finished deed fits is = let same : did.Finish job outcome ≡ deed = cc in subst HandsTyped same fits.typed
deed_typed (events.Finish job outcome) answers.Dropped deed fits is = let same : did.DropReply job ≡ deed = cc in subst HandsTyped same tt
deed_typed (events.Finish job outcome) _ deed fits is = absurd cc
deed_typed (events.Act peer) (answers.Acted item) deed fits is = let same : did.Act peer item ≡ deed = cc in subst HandsTyped same tt
deed_typed (events.Act peer) (answers.Closed reason) deed fits is = let same : did.Closing peer reason causes.Item ≡ deed = cc in subst HandsTyped same tt
deed_typed (events.Act peer) _ deed fits is = absurd cc
deed_typed events.Settle (answers.Settled peer item) deed fits is = let same : did.Settle peer item ≡ deed = cc in subst HandsTyped same tt
deed_typed events.Settle _ deed fits is = absurd cc
deed_typed events.Clean (answers.Cleaned rep) deed fits is = let same : did.Clean rep ≡ deed = cc in subst HandsTyped same tt
deed_typed events.Clean _ deed fits is = absurd cc
deed_typed (events.Withdraw index) answers.Withdrawn deed fits is = let same : did.Withdraw index ≡ deed = cc in subst HandsTyped same tt
deed_typed (events.Withdraw index) _ deed fits is = absurd cc
deed_typed (events.Transmit peer) (answers.Frames frames) deed fits is = let same : did.Transmit peer frames ≡ deed = cc in subst HandsTyped same tt
deed_typed (events.Transmit peer) _ deed fits is = absurd cc
deed_typed (events.Arrive frame) (answers.Took count) deed fits is = let same : did.Arrive frame count ≡ deed = cc in subst HandsTyped same tt
deed_typed (events.Arrive frame) (answers.Closed reason) deed fits is = let same : did.Closing frame.from reason (causes.Frame frame) ≡ deed = cc in subst HandsTyped same tt
deed_typed (events.Arrive frame) _ deed fits is = absurd cc
deed_typed (events.Tick peer) answers.Done deed fits is = let same : did.Tick peer ≡ deed = cc in subst HandsTyped same tt
deed_typed (events.Tick peer) (answers.Closed reason) deed fits is = let same : did.Closing peer reason causes.Ticks ≡ deed = cc in subst HandsTyped same tt
deed_typed (events.Tick peer) _ deed fits is = absurd cc
deed_typed (events.Close peer) (answers.Closed reason) deed fits is = let same : did.Closing peer reason causes.Asked ≡ deed = cc in subst HandsTyped same tt
deed_typed (events.Close peer) _ deed fits is = absurd cc
deed_typed (events.Open peer) (answers.Opened number) deed fits is = let same : did.Open peer number ≡ deed = cc in subst HandsTyped same tt
deed_typed (events.Open peer) _ deed fits is = absurd cc

-- an entry of an answered event
pub entry_typed : (s : ℕ) (event : Event) (told : Result Answer Refusal) (answer : Answer) → HandsOnFitting event (Ok answer) → told ≡ Ok answer → IsOfTypes (entry_of s event told)
entry_typed s event told answer fits same = λ deed is. deed_typed event answer deed fits (sym (ap (deed_by event) same) ∙ is)

-- an entry of a refused one
pub entry_refused : (s : ℕ) (event : Event) (told : Result Answer Refusal) (refusal : Refusal) → told ≡ Err refusal → IsOfTypes (entry_of s event told)
entry_refused s event told refusal same = λ deed is. absurd (let none : None ≡ Some deed = sym (ap (deed_by event) same) ∙ is in cc)
