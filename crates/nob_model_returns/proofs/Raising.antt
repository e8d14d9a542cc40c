-- What an entry did once its job numbers are raised: the raised deed, which claims as many jobs, gives the same frames and hands on as much.
use Rattle.std.proofs.Common.{◌≡◌, ℕ, ◌+◌, List, Option, Some, None, Result, Ok, Err, refl, sym, ap, subst, ◌∙◌}
use Rattle.std.specs.List.{Contains, cons_option}
use Rattle.nob_frame.specs.declared.frame.Frame.{Frame}
use Rattle.nob_model_types.specs.declared.event.Event.{Event}
use Rattle.nob_model_types.specs.declared.event.Event.TheVariants as events
use Rattle.nob_model_types.specs.declared.answer.Answer.{Answer}
use Rattle.nob_model_types.specs.declared.answer.Answer.TheVariants as answers
use Rattle.nob_model_types.specs.declared.refusal.Refusal.{Refusal}
use Rattle.nob_model_types.specs.declared.entry.Entry.{Entry}
use Rattle.nob_model_types.specs.declared.deed.Deed.{Deed}
use Rattle.nob_model_types.specs.declared.deed.Deed.TheVariants as did
use Rattle.nob_model_types.specs.Deeds.{deed_of, deed_by, deed_in}
use Rattle.nob_model.specs.Right.{jobs_made}
use Rattle.nob_model_holdings.proofs.Lists.{some_same}
use Rattle.nob_model_jobs.specs.Raised.{raised_event, raised_answer, raised_result, raised_entry}
use Rattle.nob_model_jobs.proofs.Steps.{raised_deed}
use Rattle.nob_model_journal.specs.Journals.{frames_of, transmitted_frames}
use Rattle.nob_model_journal.specs.Runs.{ArrivesGiven}
use Rattle.nob_model_invariant.specs.Typed.{HandsTyped, IsOfTypes}

-- what was done, raised
abbrev pub raised_did : ℕ → Option Deed → Option Deed
raised_did more None = None
raised_did more (Some deed) = Some (raised_deed more deed)

-- a raised event with a raised answer did the raised deed
raised_of : (more : ℕ) (event : Event) (answer : Answer) → deed_of (raised_event more event) (raised_answer more answer) ≡ raised_did more (deed_of event answer)
raised_of more events.Export (answers.Exported rep) = refl
raised_of more (events.Dup rep) answers.Done = refl
raised_of more (events.Release rep) answers.Done = refl
raised_of more (events.Call target method value) (answers.Called call) = refl
raised_of more (events.TakeReply call) (answers.Replied status value) = refl
raised_of more (events.TakeReply call) answers.Ended = refl
raised_of more events.Claim (answers.Job job) = refl
raised_of more (events.Finish job outcome) answers.Finished = refl
raised_of more (events.Finish job outcome) answers.Dropped = refl
raised_of more (events.Act peer) (answers.Acted item) = refl
raised_of more (events.Act peer) (answers.Closed reason) = refl
raised_of more events.Settle (answers.Settled peer item) = refl
raised_of more events.Clean (answers.Cleaned rep) = refl
raised_of more (events.Withdraw index) answers.Withdrawn = refl
raised_of more (events.Transmit peer) (answers.Frames frames) = refl
raised_of more (events.Arrive frame) (answers.Took count) = refl
raised_of more (events.Arrive frame) (answers.Closed reason) = refl
raised_of more (events.Tick peer) answers.Done = refl
raised_of more (events.Tick peer) (answers.Closed reason) = refl
raised_of more (events.Close peer) (answers.Closed reason) = refl
raised_of more (events.Open peer) (answers.Opened number) = refl
raised_of more _ _ = refl

raised_by : (more : ℕ) (event : Event) (result : Result Answer Refusal) → deed_by (raised_event more event) (raised_result more result) ≡ raised_did more (deed_by event result)
raised_by more event (Ok answer) = raised_of more event answer
raised_by more event (Err refusal) = refl

pub raised_in : (more : ℕ) (entry : Entry) → deed_in (raised_entry more entry) ≡ raised_did more (deed_in entry)
raised_in more entry = raised_by more entry.event entry.result

-- ---- jobs

claims_did : (more : ℕ) (found : Option Deed) (D E : List Deed) → jobs_made D ≡ jobs_made E → jobs_made (cons_option (raised_did more found) D) ≡ jobs_made (cons_option found E)
claims_did more None D E same = same
claims_did more (Some (did.Claim job)) D E same = ap (λ (k : ℕ). k + 1) same
claims_did more (Some deed) D E same = same

-- a raised entry claims as many jobs
pub claims_raised : (more : ℕ) (entry : Entry) (D E : List Deed) → jobs_made D ≡ jobs_made E → jobs_made (cons_option (deed_in (raised_entry more entry)) D) ≡ jobs_made (cons_option (deed_in entry) E)
claims_raised more entry D E same = ap (λ (found : Option Deed). jobs_made (cons_option found D)) (raised_in more entry) ∙ claims_did more (deed_in entry) D E same

-- ---- frames

frames_did : (more : ℕ) (found : Option Deed) → frames_of (raised_did more found) ≡ frames_of found
frames_did more None = refl
frames_did more (Some (did.Transmit peer frames)) = refl
frames_did more (Some deed) = refl

-- it gives the same frames
pub frames_raised : (more : ℕ) (entry : Entry) → frames_of (deed_in (raised_entry more entry)) ≡ frames_of (deed_in entry)
frames_raised more entry = ap frames_of (raised_in more entry) ∙ frames_did more (deed_in entry)

-- what it takes was given where the same frames were
pub arrives_raised : (more : ℕ) (event : Event) (J K : List Entry) → transmitted_frames J ≡ transmitted_frames K → ArrivesGiven event J → ArrivesGiven (raised_event more event) K
arrives_raised more (events.Arrive frame) J K same given = subst (λ (frames : List Frame). Contains frames frame) same given
arrives_raised more (events.Finish job outcome) J K same given = tt
arrives_raised more event J K same given = tt

-- ---- types

typed_deed : (more : ℕ) (deed : Deed) → HandsTyped deed → HandsTyped (raised_deed more deed)
typed_deed more (did.Claim job) typed = tt
typed_deed more (did.Finish job outcome) typed = typed
typed_deed more (did.DropReply job) typed = tt
typed_deed more deed typed = typed

typed_did : (more : ℕ) (found : Option Deed) → ((deed : Deed) → found ≡ Some deed → HandsTyped deed) → (deed : Deed) → raised_did more found ≡ Some deed → HandsTyped deed
typed_did more None typed deed is = cc
typed_did more (Some one) typed deed is = subst HandsTyped (some_same (raised_deed more one) deed is) (typed_deed more one (typed one refl))

-- what it hands on is of its types
pub typed_raised : (more : ℕ) (entry : Entry) → IsOfTypes entry → IsOfTypes (raised_entry more entry)
typed_raised more entry typed deed is = typed_did more (deed_in entry) typed deed (sym (raised_in more entry) ∙ is)
