-- What an entry adds to what each space did, and that each space did right.
use Rattle.std.proofs.Common.{◌≡◌, ℕ, Bool, true, false, cond, List, [], ◌∷◌, Option, Some, None, Result, Ok, Err, refl, ap, subst, ◌∙◌, ◌⊎◌, inl, inr}
use Rattle.std.specs.Prelude.{⊤, ◌==◌}
use Rattle.std.specs.List.{Contains, cons_option}
use Rattle.std.proofs.lemmas.Bool.{eqb-true, eq-eqb}
use Rattle.nob_ids.specs.declared.limits.Limits.{Limits}
use Rattle.nob_frame.specs.declared.frame.Frame.{Frame}
use Rattle.nob_model_types.specs.declared.event.Event.{Event}
use Rattle.nob_model_types.specs.declared.event.Event.TheVariants as events
use Rattle.nob_model_types.specs.declared.answer.Answer.{Answer}
use Rattle.nob_model_types.specs.declared.answer.Answer.TheVariants as answers
use Rattle.nob_model_types.specs.declared.refusal.Refusal.{Refusal}
use Rattle.nob_model_types.specs.declared.entry.Entry.{Entry}
use Rattle.nob_model_types.specs.declared.deed.Deed.{Deed}
use Rattle.nob_model_types.specs.declared.deed.Deed.TheVariants as did
use Rattle.nob_model_types.specs.declared.deed.Cause.TheVariants as causes
use Rattle.nob_model_types.specs.Deeds.{deed_of, deed_by, deed_in, deeds}
use Rattle.nob_model.specs.Right.{IsRight}
use Rattle.nob_model.specs.Lists.{AreRight, AreRightDeeds}
use Rattle.nob_model.proofs.Doing.{right_deeds}
use Rattle.nob_model_journal.specs.Journals.{at, deeds_at, transmitted_frames}
use Rattle.nob_model_journal.specs.Runs.{ArrivesGiven, WorldRun}
use Rattle.nob_model_holdings.proofs.Lists.{some_same}

-- ---- one entry more

-- what space s did once an entry more is there: the same, or the deed that the entry did at this space is the newest
abbrev pub Grows : (s : ℕ) → Entry → List Entry → Type 0
Grows s entry J = (deeds_at s (entry ∷ J) ≡ deeds_at s J) ⊎ ((deed : Deed) × (entry.space ≡ s) × (deed_in entry ≡ Some deed) × (deeds_at s (entry ∷ J) ≡ deed ∷ deeds_at s J))

grows_by : (s : ℕ) (entry : Entry) (J : List Entry) (own : Bool) (found : Option Deed) → (entry.space == s) ≡ own → deed_in entry ≡ found → Grows s entry J
grows_by s entry J false found own is = inl (ap (λ b. deeds (cond b (entry ∷ at s J) (at s J))) own)
grows_by s entry J true None own is = inl (ap (λ b. deeds (cond b (entry ∷ at s J) (at s J))) own ∙ ap (λ did_it. cons_option did_it (deeds_at s J)) is)
grows_by s entry J true (Some deed) own is = inr (deed, eqb-true entry.space s own, is, ap (λ b. deeds (cond b (entry ∷ at s J) (at s J))) own ∙ ap (λ did_it. cons_option did_it (deeds_at s J)) is)

pub grows : (s : ℕ) (entry : Entry) (J : List Entry) → Grows s entry J
grows s entry J = grows_by s entry J (entry.space == s) (deed_in entry) refl refl

-- what an entry did is the newest deed of its own space
pub grows_own : (entry : Entry) (J : List Entry) (deed : Deed) → deed_in entry ≡ Some deed → deeds_at entry.space (entry ∷ J) ≡ deed ∷ deeds_at entry.space J
grows_own entry J deed is = ap (λ b. deeds (cond b (entry ∷ at entry.space J) (at entry.space J))) (eq-eqb entry.space entry.space refl) ∙ ap (λ did_it. cons_option did_it (deeds_at entry.space J)) is

-- ---- right deeds

right_if : (s n : ℕ) (limits : Limits) (own : Bool) (entry : Entry) (L : List Entry) → (own ≡ true → IsRight s n limits entry L) → AreRight s n limits L → AreRight s n limits (cond own (entry ∷ L) L)
right_if s n limits true entry L is are = (is refl, are)
right_if s n limits false entry L is are = are

-- the entries of each space are right
right_at : (n : ℕ) (limits : ℕ → Limits) (J : List Entry) → WorldRun n limits J → (s : ℕ) → AreRight s n (limits s) (at s J)
right_at n limits [] run s = tt
right_at n limits (entry ∷ J) run s =
    right_if s n (limits s) (entry.space == s) entry (at s J) (λ own. subst (λ (q : ℕ). IsRight q n (limits q) entry (at q J)) (eqb-true entry.space s own) run.0.is_right) (right_at n limits J run.1 s)

-- and so is what it did
pub right_deeds_at : (n : ℕ) (limits : ℕ → Limits) (J : List Entry) → WorldRun n limits J → (s : ℕ) → AreRightDeeds s n (limits s) (deeds_at s J)
right_deeds_at n limits J run s = right_deeds s n (limits s) (at s J) (right_at n limits J run s)

-- ---- frames that arrived

-- a frame that came in by a deed is one of these
abbrev pub ComesFrom : List Frame → Deed → Type 0
ComesFrom frames (did.Arrive frame count) = Contains frames frame
ComesFrom frames (did.Closing p reason (causes.Frame frame)) = Contains frames frame
ComesFrom frames (_) = ⊤

none_some : {A : Type 0} (x : A) → None ≡ Some x → ⊥
none_some x e = cc

comes_by : (event : Event) (answer : Answer) (J : List Entry) (deed : Deed) → ArrivesGiven event J → deed_of event answer ≡ Some deed → ComesFrom (transmitted_frames J) deed
comes_by events.Export (answers.Exported rep) J deed from e = subst (ComesFrom (transmitted_frames J)) (some_same (did.Export rep) deed e) tt
comes_by (events.Dup rep) answers.Done J deed from e = subst (ComesFrom (transmitted_frames J)) (some_same (did.Dup rep) deed e) tt
comes_by (events.Release rep) answers.Done J deed from e = subst (ComesFrom (transmitted_frames J)) (some_same (did.Release rep) deed e) tt
comes_by (events.Call target method value) (answers.Called call) J deed from e = subst (ComesFrom (transmitted_frames J)) (some_same (did.Call target method value call) deed e) tt
comes_by (events.TakeReply call) (answers.Replied status value) J deed from e = subst (ComesFrom (transmitted_frames J)) (some_same (did.TakeReply call status value) deed e) tt
comes_by (events.TakeReply call) answers.Ended J deed from e = subst (ComesFrom (transmitted_frames J)) (some_same (did.TakeEnd call) deed e) tt
comes_by events.Claim (answers.Job job) J deed from e = subst (ComesFrom (transmitted_frames J)) (some_same (did.Claim job) deed e) tt
comes_by (events.Finish job outcome) answers.Finished J deed from e = subst (ComesFrom (transmitted_frames J)) (some_same (did.Finish job outcome) deed e) tt
comes_by (events.Finish job outcome) answers.Dropped J deed from e = subst (ComesFrom (transmitted_frames J)) (some_same (did.DropReply job) deed e) tt
comes_by (events.Act p) (answers.Acted k) J deed from e = subst (ComesFrom (transmitted_frames J)) (some_same (did.Act p k) deed e) tt
comes_by (events.Act p) (answers.Closed reason) J deed from e = subst (ComesFrom (transmitted_frames J)) (some_same (did.Closing p reason causes.Item) deed e) tt
comes_by events.Settle (answers.Settled p k) J deed from e = subst (ComesFrom (transmitted_frames J)) (some_same (did.Settle p k) deed e) tt
comes_by events.Clean (answers.Cleaned rep) J deed from e = subst (ComesFrom (transmitted_frames J)) (some_same (did.Clean rep) deed e) tt
comes_by (events.Withdraw index) answers.Withdrawn J deed from e = subst (ComesFrom (transmitted_frames J)) (some_same (did.Withdraw index) deed e) tt
comes_by (events.Transmit p) (answers.Frames frames) J deed from e = subst (ComesFrom (transmitted_frames J)) (some_same (did.Transmit p frames) deed e) tt
comes_by (events.Arrive frame) (answers.Took count) J deed from e = subst (ComesFrom (transmitted_frames J)) (some_same (did.Arrive frame count) deed e) from
comes_by (events.Arrive frame) (answers.Closed reason) J deed from e = subst (ComesFrom (transmitted_frames J)) (some_same (did.Closing frame.from reason (causes.Frame frame)) deed e) from
comes_by (events.Tick p) answers.Done J deed from e = subst (ComesFrom (transmitted_frames J)) (some_same (did.Tick p) deed e) tt
comes_by (events.Tick p) (answers.Closed reason) J deed from e = subst (ComesFrom (transmitted_frames J)) (some_same (did.Closing p reason causes.Ticks) deed e) tt
comes_by (events.Close p) (answers.Closed reason) J deed from e = subst (ComesFrom (transmitted_frames J)) (some_same (did.Closing p reason causes.Asked) deed e) tt
comes_by (events.Open p) (answers.Opened k) J deed from e = subst (ComesFrom (transmitted_frames J)) (some_same (did.Open p k) deed e) tt
comes_by _ _ J deed from e = absurd (none_some deed e)

comes_if : (event : Event) (result : Result Answer Refusal) (J : List Entry) (deed : Deed) → ArrivesGiven event J → deed_by event result ≡ Some deed → ComesFrom (transmitted_frames J) deed
comes_if event (Ok answer) J deed from e = comes_by event answer J deed from e
comes_if event (Err refusal) J deed from e = absurd (none_some deed e)

-- a frame that came in by an entry of a run was given before
pub comes : (entry : Entry) (J : List Entry) (deed : Deed) → ArrivesGiven entry.event J → deed_in entry ≡ Some deed → ComesFrom (transmitted_frames J) deed
comes entry J deed from e = comes_if entry.event entry.result J deed from e
