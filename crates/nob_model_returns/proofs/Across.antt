-- A bridge in a journal: whose entries stand there, and that it gives no frame, and hands on what is of its types.
use Rattle.std.proofs.Common.{◌≡◌, ℕ, ◌≤◌, ◌&&◌, Bool, true, false, cond, List, [], ◌∷◌, ◌++◌, Some, Result, Ok, Err, refl, sym, ap, subst, ◌∙◌, arith}
use Rattle.std.specs.Prelude.{◌==◌, ◌<◌, ◌^◌}
use Rattle.std.proofs.lemmas.Bool.{eqb-true, eq-eqb, and_parts}
use Rattle.nob_ids.specs.declared.limits.Limits.{Limits}
use Rattle.nob_frame.specs.declared.frame.Frame.{Frame}
use Rattle.nob_pickle.specs.Shape.{tree}
use Rattle.nob_pickle.specs.Limits.{IsTyped}
use Rattle.nob_pickle.specs.declared.value.Value.{Value}
use Rattle.nob_pickle.specs.declared.value.Value.TheVariants as values
use Rattle.nob_model_types.specs.declared.event.Event.{Event}
use Rattle.nob_model_types.specs.declared.event.Event.TheVariants as events
use Rattle.nob_model_types.specs.declared.answer.Answer.{Answer}
use Rattle.nob_model_types.specs.declared.answer.Answer.TheVariants as answers
use Rattle.nob_model_types.specs.declared.refusal.Refusal.{Refusal}
use Rattle.nob_model_types.specs.declared.entry.Entry.{Entry}
use Rattle.nob_model_types.specs.declared.deed.Deed.{Deed}
use Rattle.nob_model_types.specs.declared.deed.Deed.TheVariants as did
use Rattle.nob_model_types.specs.declared.deed.Cause.TheVariants as causes
use Rattle.nob_model_types.specs.Deeds.{deed_of, deed_by, deed_in}
use Rattle.nob_model.specs.Right.{IsRight}
use Rattle.nob_model.specs.Lists.{AreRight}
use Rattle.nob_model_holdings.proofs.Lists.{some_same}
use Rattle.nob_model_lives.specs.Alone.{is_unit, needs_nobody, AreOfBridge}
use Rattle.nob_model_journal.specs.Journals.{at, frames_of, transmitted_frames}
use Rattle.nob_model_journal.specs.Runs.{ArrivesGiven, WorldRun}
use Rattle.nob_model_invariant.specs.Typed.{HandsTyped, AreOfTypes}

-- an entry of this space is the newest of its own
pub at_own : (s : ℕ) (entry : Entry) (J : List Entry) → (entry.space == s) ≡ true → at s (entry ∷ J) ≡ entry ∷ at s J
at_own s entry J own = ap (λ (b : Bool). cond b (entry ∷ at s J) (at s J)) own

-- and one of another space isn't of this
pub at_other : (s : ℕ) (entry : Entry) (J : List Entry) → (entry.space == s) ≡ false → at s (entry ∷ J) ≡ at s J
at_other s entry J other = ap (λ (b : Bool). cond b (entry ∷ at s J) (at s J)) other

-- a bridge stands at its space
pub bridge_at : (s : ℕ) (bridge K : List Entry) → AreOfBridge s bridge → at s (bridge ++ K) ≡ bridge ++ at s K
bridge_at s [] K are = refl
bridge_at s (entry ∷ bridge) K are = at_own s entry (bridge ++ K) (eq-eqb entry.space s are.0.own) ∙ ap (λ (L : List Entry). entry ∷ L) (bridge_at s bridge K are.1)

-- and at no other
pub bridge_elsewhere : (s q : ℕ) (bridge K : List Entry) → AreOfBridge s bridge → (s == q) ≡ false → at q (bridge ++ K) ≡ at q K
bridge_elsewhere s q [] K are other = refl
bridge_elsewhere s q (entry ∷ bridge) K are other = at_other q entry (bridge ++ K) (ap (λ (r : ℕ). r == q) are.0.own ∙ other) ∙ bridge_elsewhere s q bridge K are.1 other

-- ---- frames

none_given : (deed : Deed) → needs_nobody deed ≡ true → frames_of (Some deed) ≡ []
none_given (did.Transmit peer frames) alone = cc
none_given deed alone = refl

none_more : (frames more : List Frame) → more ≡ [] → frames ++ more ≡ frames
none_more [] more none = none
none_more (frame ∷ frames) more none = ap (λ (rest : List Frame). frame ∷ rest) (none_more frames more none)

-- a bridge gives no frame
pub bridge_frames : (s : ℕ) (bridge K : List Entry) → AreOfBridge s bridge → transmitted_frames (bridge ++ K) ≡ transmitted_frames K
bridge_frames s [] K are = refl
bridge_frames s (entry ∷ bridge) K are = none_more (transmitted_frames (bridge ++ K)) (frames_of (deed_in entry)) (ap frames_of are.0.did_it ∙ none_given are.0.deed are.0.alone) ∙ bridge_frames s bridge K are.1

-- ---- a run

arrives_alone : (frame : Frame) (answer : Answer) (deed : Deed) → deed_of (events.Arrive frame) answer ≡ Some deed → needs_nobody deed ≡ true → ⊥
arrives_alone frame (answers.Took count) deed is alone = let clash : false ≡ true = ap needs_nobody (some_same (did.Arrive frame count) deed is) ∙ alone in cc
arrives_alone frame (answers.Closed reason) deed is alone = let clash : false ≡ true = ap needs_nobody (some_same (did.Closing frame.from reason (causes.Frame frame)) deed is) ∙ alone in cc
arrives_alone frame answer deed is alone = cc

-- an event that did what needs nobody else is no arrival
none_arrives : (event : Event) (result : Result Answer Refusal) (deed : Deed) → deed_by event result ≡ Some deed → needs_nobody deed ≡ true → (J : List Entry) → ArrivesGiven event J
none_arrives (events.Arrive frame) (Ok answer) deed is alone J = absurd (arrives_alone frame answer deed is alone)
none_arrives (events.Arrive frame) (Err refusal) deed is alone J = cc
none_arrives event result deed is alone J = tt

-- a bridge of right entries goes on a run
pub bridge_runs : (n : ℕ) (limits : ℕ → Limits) (s : ℕ) (bridge K : List Entry) → 1 ≤ s → s ≤ n → AreOfBridge s bridge → AreRight s n (limits s) (bridge ++ at s K) → WorldRun n limits K → WorldRun n limits (bridge ++ K)
bridge_runs n limits s [] K first last are right run = run
bridge_runs n limits s (entry ∷ bridge) K first last are right run = (
  record {
    first = subst (λ (q : ℕ). 1 ≤ q) (sym are.0.own) first;
    last = subst (λ (q : ℕ). q ≤ n) (sym are.0.own) last;
    is_right = subst (λ (q : ℕ). IsRight q n (limits q) entry (at q (bridge ++ K))) (sym are.0.own) (subst (λ (L : List Entry). IsRight s n (limits s) entry L) (sym (bridge_at s bridge K are.1)) right.0);
    arrives = none_arrives entry.event entry.result are.0.deed are.0.did_it are.0.alone (bridge ++ K);
  },
  bridge_runs n limits s bridge K first last are.1 right.1 run,
)

-- ---- types

unit_typed : (value : Value) → is_unit value ≡ true → IsTyped (tree value)
unit_typed values.Unit is = tt
unit_typed value is = cc

none_low : (k most : ℕ) → k ≡ 0 → 1 ≤ most → k < most
none_low k most none some = omega (arith, none, some)

alone_typed : (deed : Deed) → needs_nobody deed ≡ true → HandsTyped deed
alone_typed (did.Call target method value call) alone =
    let parts = and_parts (target.index == 0) (method == 0 && is_unit value) alone in
    let more = and_parts (method == 0) (is_unit value) parts.1 in
    (none_low target.index (2 ^ 64) (eqb-true target.index 0 parts.0) (omega arith), none_low method (2 ^ 16) (eqb-true method 0 more.0) (omega arith), unit_typed value more.1)
alone_typed (did.Finish job outcome) alone = cc
alone_typed deed alone = tt

-- what a bridge hands on is of its types
pub bridge_typed : (s : ℕ) (bridge K : List Entry) → AreOfBridge s bridge → AreOfTypes K → AreOfTypes (bridge ++ K)
bridge_typed s [] K are typed = typed
bridge_typed s (entry ∷ bridge) K are typed = ((λ deed is. subst HandsTyped (some_same are.0.deed deed (sym are.0.did_it ∙ is)) (alone_typed are.0.deed are.0.alone)), bridge_typed s bridge K are.1 typed)
