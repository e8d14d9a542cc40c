-- What a space did and the right answers by which it did it.
use Rattle.std.proofs.Common.{◌≡◌, ℕ, List, [], ◌∷◌, Option, Some, None, Result, Ok, Err, refl, sym, ap, subst, ◌∙◌}
use Rattle.std.specs.List.{cons_option}
use Rattle.nob_ids.specs.declared.limits.Limits.{Limits}
use Rattle.nob_model_types.specs.declared.event.Event.{Event}
use Rattle.nob_model_types.specs.declared.event.Event.TheVariants as events
use Rattle.nob_model_types.specs.declared.event.Outcome.{Outcome}
use Rattle.nob_model_types.specs.declared.answer.Answer.{Answer}
use Rattle.nob_model_types.specs.declared.answer.Answer.TheVariants as answers
use Rattle.nob_model_types.specs.declared.refusal.Refusal.{Refusal}
use Rattle.nob_model_types.specs.declared.entry.Entry.{Entry}
use Rattle.nob_model_types.specs.declared.deed.Deed.{Deed}
use Rattle.nob_model_types.specs.declared.deed.Deed.TheVariants as did
use Rattle.nob_model_types.specs.declared.deed.Cause.TheVariants as causes
use Rattle.nob_model_types.specs.Deeds.{deed_of, deed_by, deed_in, deeds}
use Rattle.nob_model_history.specs.Histories.{history_of}
use Rattle.nob_model.specs.Right.{right_after, right}
use Rattle.nob_model.specs.Lists.{AreRight, IsRightDeed, AreRightDeeds}

none_some : {A : Type 0} (x : A) → None ≡ Some x → ⊥
none_some x e = cc

some_same : {A : Type 0} (x y : A) → Some x ≡ Some y → x ≡ y
some_same x y e = cc

-- by the answers to events this is what an event with an answer of its own did
abbrev pub WasAnswered : (Event → Result Answer Refusal) → Deed → Type 0
WasAnswered answer (did.Export rep) = answer events.Export ≡ Ok (answers.Exported rep)
WasAnswered answer (did.Dup rep) = answer (events.Dup rep) ≡ Ok answers.Done
WasAnswered answer (did.Release rep) = answer (events.Release rep) ≡ Ok answers.Done
WasAnswered answer (did.Call target method value call) = answer (events.Call target method value) ≡ Ok (answers.Called call)
WasAnswered answer (did.TakeReply call status value) = answer (events.TakeReply call) ≡ Ok (answers.Replied status value)
WasAnswered answer (did.TakeEnd call) = answer (events.TakeReply call) ≡ Ok answers.Ended
WasAnswered answer (did.Claim job) = answer events.Claim ≡ Ok (answers.Job job)
WasAnswered answer (did.Finish job outcome) = answer (events.Finish job outcome) ≡ Ok answers.Finished
WasAnswered answer (did.DropReply job) = (outcome : Outcome) × (answer (events.Finish job outcome) ≡ Ok answers.Dropped)
WasAnswered answer (did.Act p k) = answer (events.Act p) ≡ Ok (answers.Acted k)
WasAnswered answer (did.Settle p k) = answer events.Settle ≡ Ok (answers.Settled p k)
WasAnswered answer (did.Clean rep) = answer events.Clean ≡ Ok (answers.Cleaned rep)
WasAnswered answer (did.Withdraw index) = answer (events.Withdraw index) ≡ Ok answers.Withdrawn
WasAnswered answer (did.Transmit p frames) = answer (events.Transmit p) ≡ Ok (answers.Frames frames)
WasAnswered answer (did.Arrive frame count) = answer (events.Arrive frame) ≡ Ok (answers.Took count)
WasAnswered answer (did.Tick p) = answer (events.Tick p) ≡ Ok answers.Done
WasAnswered answer (did.Closing p reason causes.Item) = answer (events.Act p) ≡ Ok (answers.Closed reason)
WasAnswered answer (did.Closing p reason (causes.Frame frame)) = (frame.from ≡ p) × (answer (events.Arrive frame) ≡ Ok (answers.Closed reason))
WasAnswered answer (did.Closing p reason causes.Ticks) = answer (events.Tick p) ≡ Ok (answers.Closed reason)
WasAnswered answer (did.Closing p reason causes.Asked) = answer (events.Close p) ≡ Ok (answers.Closed reason)
WasAnswered answer (did.Open p k) = answer (events.Open p) ≡ Ok (answers.Opened k)

answered : (answer : Event → Result Answer Refusal) (event : Event) (own : Answer) (deed : Deed) → deed_of event own ≡ Some deed → answer event ≡ Ok own → WasAnswered answer deed
answered answer events.Export (answers.Exported rep) deed e is = subst (WasAnswered answer) (some_same (did.Export rep) deed e) is
answered answer (events.Dup rep) answers.Done deed e is = subst (WasAnswered answer) (some_same (did.Dup rep) deed e) is
answered answer (events.Release rep) answers.Done deed e is = subst (WasAnswered answer) (some_same (did.Release rep) deed e) is
answered answer (events.Call target method value) (answers.Called call) deed e is = subst (WasAnswered answer) (some_same (did.Call target method value call) deed e) is
answered answer (events.TakeReply call) (answers.Replied status value) deed e is = subst (WasAnswered answer) (some_same (did.TakeReply call status value) deed e) is
answered answer (events.TakeReply call) answers.Ended deed e is = subst (WasAnswered answer) (some_same (did.TakeEnd call) deed e) is
answered answer events.Claim (answers.Job job) deed e is = subst (WasAnswered answer) (some_same (did.Claim job) deed e) is
answered answer (events.Finish job outcome) answers.Finished deed e is = subst (WasAnswered answer) (some_same (did.Finish job outcome) deed e) is
answered answer (events.Finish job outcome) answers.Dropped deed e is = subst (WasAnswered answer) (some_same (did.DropReply job) deed e) (outcome, is)
answered answer (events.Act p) (answers.Acted k) deed e is = subst (WasAnswered answer) (some_same (did.Act p k) deed e) is
answered answer (events.Act p) (answers.Closed reason) deed e is = subst (WasAnswered answer) (some_same (did.Closing p reason causes.Item) deed e) is
answered answer events.Settle (answers.Settled p k) deed e is = subst (WasAnswered answer) (some_same (did.Settle p k) deed e) is
answered answer events.Clean (answers.Cleaned rep) deed e is = subst (WasAnswered answer) (some_same (did.Clean rep) deed e) is
answered answer (events.Withdraw index) answers.Withdrawn deed e is = subst (WasAnswered answer) (some_same (did.Withdraw index) deed e) is
answered answer (events.Transmit p) (answers.Frames frames) deed e is = subst (WasAnswered answer) (some_same (did.Transmit p frames) deed e) is
answered answer (events.Arrive frame) (answers.Took count) deed e is = subst (WasAnswered answer) (some_same (did.Arrive frame count) deed e) is
answered answer (events.Arrive frame) (answers.Closed reason) deed e is = subst (WasAnswered answer) (some_same (did.Closing frame.from reason (causes.Frame frame)) deed e) (refl, is)
answered answer (events.Tick p) answers.Done deed e is = subst (WasAnswered answer) (some_same (did.Tick p) deed e) is
answered answer (events.Tick p) (answers.Closed reason) deed e is = subst (WasAnswered answer) (some_same (did.Closing p reason causes.Ticks) deed e) is
answered answer (events.Close p) (answers.Closed reason) deed e is = subst (WasAnswered answer) (some_same (did.Closing p reason causes.Asked) deed e) is
answered answer (events.Open p) (answers.Opened k) deed e is = subst (WasAnswered answer) (some_same (did.Open p k) deed e) is
answered answer _ _ deed e is = absurd (none_some deed e)

by_answer : (answer : Event → Result Answer Refusal) (event : Event) (result : Result Answer Refusal) (deed : Deed) → deed_by event result ≡ Some deed → answer event ≡ result → WasAnswered answer deed
by_answer answer event (Ok own) deed e is = answered answer event own deed e is
by_answer answer event (Err refusal) deed e is = absurd (none_some deed e)

-- a right deed was the right answer to its event
pub was_answered : (s n : ℕ) (limits : Limits) (deed : Deed) (D : List Deed) → IsRightDeed s n limits deed D → WasAnswered (right_after s n limits (history_of s n D)) deed
was_answered s n limits deed D right = by_answer (right_after s n limits (history_of s n D)) right.0 (right_after s n limits (history_of s n D) right.0) deed right.1 refl

-- ---- entries and deeds

next_deed : (s n : ℕ) (limits : Limits) (event : Event) (found : Option Deed) (D : List Deed) → deed_by event (right_after s n limits (history_of s n D) event) ≡ found → AreRightDeeds s n limits D → AreRightDeeds s n limits (cons_option found D)
next_deed s n limits event (Some deed) D is right = ((event, is), right)
next_deed s n limits event None D is right = right

-- what right entries did are right deeds
pub right_deeds : (s n : ℕ) (limits : Limits) (L : List Entry) → AreRight s n limits L → AreRightDeeds s n limits (deeds L)
right_deeds s n limits [] right = tt
right_deeds s n limits (entry ∷ L) right = next_deed s n limits entry.event (deed_in entry) (deeds L) (ap (deed_by entry.event) (sym right.0)) (right_deeds s n limits L right.1)

-- right deeds are what right entries did
pub right_entries : (s n : ℕ) (limits : Limits) (D : List Deed) → AreRightDeeds s n limits D → (L : List Entry) × AreRight s n limits L × (deeds L ≡ D)
right_entries s n limits [] right = ([], tt, refl)
right_entries s n limits (deed ∷ D) right =
    let before = right_entries s n limits D right.1 in
    let event : Event = right.0.0 in
    let entry : Entry = record { space = s; event = event; result = right_after s n limits (history_of s n D) event } in (
      entry ∷ before.0,
      (ap (λ (deeds_before : List Deed). right_after s n limits (history_of s n deeds_before) event) (sym before.2), before.1),
      ap (λ (found : Option Deed). cons_option found (deeds before.0)) right.0.1 ∙ ap (λ (deeds_before : List Deed). deed ∷ deeds_before) before.2,
    )
