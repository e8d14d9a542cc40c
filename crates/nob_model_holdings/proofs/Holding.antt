-- What is held came in or was exported: something holds of a reference that is held, where it holds of all that came into
-- the hand and of all that messages lend.
use Rattle.std.proofs.Common.{◌≡◌, ℕ, ◌+◌, ◌-◌, ◌≤◌, Bool, true, false, cond, List, [], ◌∷◌, length, map, filter, not, refl, sym, ap, subst, arith, ◌⊎◌, inl, inr}
use Rattle.std.specs.Prelude.{◌==◌, nat_le}
use Rattle.std.specs.List.{AllByRecursion, flat_map}
use Rattle.std.proofs.lemmas.Bool.{eqb-false, not-true, leb-true, leb-false}
use Rattle.nob_ids.specs.Names.{is_same, is_counted}
use Rattle.nob_ids.specs.declared.wire_rep.WireRep.{WireRep}
use Rattle.nob_item.specs.Kinds.{counted_in}
use Rattle.nob_item.specs.declared.item.Item.{Item}
use Rattle.nob_item.specs.declared.item.Item.TheVariants as items
use Rattle.nob_model_types.specs.declared.deed.Deed.{Deed}
use Rattle.nob_model_types.specs.declared.message.Message.{Message}
use Rattle.nob_model_types.specs.declared.message.RefCopy.{RefCopy}
use Rattle.nob_model_work.specs.declared.work.Outstanding.{Outstanding}
use Rattle.nob_model_work.specs.declared.work.Run.{Run}
use Rattle.nob_model_work.specs.Work.{work}
use Rattle.nob_model_history.specs.Histories.{history_of}
use Rattle.nob_model_history.specs.Holds.{times, gains, releases, is_lent, copies_lent, target_lent, loans_of, lent_in, is_held}
use Rattle.nob_model_history.proofs.Turning.{same_ref}
use Rattle.nob_model.proofs.Carrying.{AllOutstanding, Carries, all_carry}
use Rattle.nob_model.proofs.Reopening.{counted_are}
use Rattle.nob_model_holdings.proofs.Lists.{all_append}

-- something holds of each counted reference
abbrev pub OfCounted : (WireRep → Type 0) → WireRep → Type 0
OfCounted P rep = is_counted rep ≡ true → P rep

times_step : (P : WireRep → Type 0) (rep other : WireRep) (rest : ℕ) (b : Bool) (reps : List WireRep) → is_same rep other ≡ b → P other → (1 ≤ length reps → P rep) → 1 ≤ length (cond b (other ∷ reps) reps) → P rep
times_step P rep other rest true reps same its before some = subst P (sym (same_ref rep other same)) its
times_step P rep other rest false reps same its before some = before some

-- what stands in a list at all has what each has
pub times_some : (P : WireRep → Type 0) (rep : WireRep) (reps : List WireRep) → AllByRecursion P reps → 1 ≤ times rep reps → P rep
times_some P rep [] all some = absurd (omega (arith, some))
times_some P rep (other ∷ reps) all some = times_step P rep other 0 (is_same rep other) (filter (is_same rep) reps) refl all.0 (times_some P rep reps all.1) some

-- ---- what is lent

lent_copies : (P : WireRep → Type 0) (copies : List RefCopy) → AllByRecursion P (map (λ copy. copy.rep) copies) → AllByRecursion P (copies_lent copies)
lent_copies P [] all = tt
lent_copies P (copy ∷ copies) all = elim (is_lent copy.loan) as (λ b. AllByRecursion P (map (λ copy. copy.rep) (cond b (copy ∷ filter (λ copy. is_lent copy.loan) copies) (filter (λ copy. is_lent copy.loan) copies)))) [ true ↦ (all.0, lent_copies P copies all.1) | false ↦ lent_copies P copies all.1 ]

-- a message of which it holds: of what it carries and of its target
abbrev pub HoldsOf : (s : ℕ) → (WireRep → Type 0) → Message → Type 0
HoldsOf s P m = AllByRecursion P (counted_in m.item) × AllByRecursion P (target_lent s m.item)

message_lends : (s : ℕ) (P : WireRep → Type 0) (m : Message) → Carries m → HoldsOf s P m → AllByRecursion P (loans_of s m)
message_lends s P m carries its = all_append P (target_lent s m.item) (copies_lent m.copies) its.1 (lent_copies P m.copies (subst (AllByRecursion P) (sym carries) its.0))

all_lend : (s : ℕ) (P : WireRep → Type 0) (ms : List Message) → AllByRecursion Carries ms → AllByRecursion (HoldsOf s P) ms → AllByRecursion P (flat_map (loans_of s) ms)
all_lend s P [] carry its = tt
all_lend s P (m ∷ ms) carry its = all_append P (loans_of s m) (flat_map (loans_of s) ms) (message_lends s P m carry.0 its.0) (all_lend s P ms carry.1 its.1)

runs_lend : (s : ℕ) (P : WireRep → Type 0) (runs : List Run) → AllByRecursion (λ run. Carries run.message) runs → AllByRecursion (λ run. HoldsOf s P run.message) runs → AllByRecursion P (flat_map (λ run. loans_of s run.message) runs)
runs_lend s P [] carry its = tt
runs_lend s P (run ∷ runs) carry its = all_append P (loans_of s run.message) (flat_map (λ run. loans_of s run.message) runs) (message_lends s P run.message carry.0 its.0) (runs_lend s P runs carry.1 its.1)

hand_lends : (s : ℕ) (P : WireRep → Type 0) (W : Outstanding) → AllOutstanding Carries W → AllOutstanding (HoldsOf s P) W → AllByRecursion P (lent_in s W)
hand_lends s P W carry its =
    all_append P (flat_map (loans_of s) W.waiting) _ (all_lend s P W.waiting carry.waiting its.waiting)
    (all_append P (flat_map (loans_of s) W.ready) _ (all_lend s P W.ready carry.ready its.ready)
    (all_append P (flat_map (λ run. loans_of s run.message) W.running) _ (runs_lend s P W.running carry.running its.running) (all_lend s P W.replies carry.replies its.replies)))

-- what holds of every message holds of all that is outstanding
everywhere : (P : Message → Type 0) → ((m : Message) → P m) → (W : Outstanding) → AllOutstanding P W
everywhere P each W = record { waiting = all_of P each W.waiting; ready = all_of P each W.ready; running = all_of (λ (run : Run). P run.message) (λ run. each run.message) W.running; replies = all_of P each W.replies }
  where
    all_of : {X : Type 0} (Q : X → Type 0) → ((x : X) → Q x) → (xs : List X) → AllByRecursion Q xs
    all_of Q each [] = tt
    all_of Q each (x ∷ xs) = (each x, all_of Q each xs)

target_counted : (s : ℕ) (item : Item) → AllByRecursion (λ (rep : WireRep). is_counted rep ≡ true) (target_lent s item)
target_counted s (items.Call call target method value) = elim (target == 0) as (λ (b : Bool). (target == 0) ≡ b → AllByRecursion (λ (rep : WireRep). is_counted rep ≡ true) (cond b [] (record { owner = s; index = target } ∷ []))) [ true ↦ λ e. tt | false ↦ λ e. (ap not e, tt) ] refl
target_counted s (items.Reply call status value) = tt
target_counted s (items.Settle item) = tt
target_counted s (items.Dirty index) = tt
target_counted s (items.DirtyOk index) = tt
target_counted s (items.DirtyNo index) = tt
target_counted s (items.Clean index) = tt

-- all that is lent is counted
pub lent_counted : (s n : ℕ) (D : List Deed) → AllByRecursion (λ (rep : WireRep). is_counted rep ≡ true) (lent_in s (work s n D))
lent_counted s n D = hand_lends s (λ rep. is_counted rep ≡ true) (work s n D) (all_carry s n D) (everywhere (HoldsOf s (λ rep. is_counted rep ≡ true)) (λ m. (counted_are m.item, target_counted s m.item)) (work s n D))

-- ---- what is held

some_left : (gained lent released : ℕ) → ((gained + lent) - released == 0) ≡ false → (1 ≤ gained) ⊎ (1 ≤ lent)
some_left gained lent released left =
    elim (nat_le 1 gained) as (λ (b : Bool). nat_le 1 gained ≡ b → (1 ≤ gained) ⊎ (1 ≤ lent)) [
      | true ↦ λ e. inl (leb-true 1 gained e)
      | false ↦ λ e. inr (let few = leb-false 1 gained e in elim (nat_le 1 lent) as (λ (b : Bool). nat_le 1 lent ≡ b → 1 ≤ lent) [
        | true ↦ λ f. leb-true 1 lent f
        | false ↦ λ f. let none = leb-false 1 lent f in absurd (eqb-false _ _ left (omega (arith, few, none)))
      ] refl)
    ] refl

-- a counted reference that is held has what all in the hand and all that is lent have
pub held_has : (s n : ℕ) (P : WireRep → Type 0) (rep : WireRep) (D : List Deed) → AllByRecursion (OfCounted P) (gains D) → AllOutstanding (HoldsOf s P) (work s n D) → is_counted rep ≡ true → is_held s rep (history_of s n D) ≡ true → P rep
held_has s n P rep D gained lent counted held =
    elim (some_left (times rep (gains D)) (times rep (lent_in s (work s n D))) (times rep (releases D)) (not-true _ held)) [
      | inl some ↦ times_some (OfCounted P) rep (gains D) gained some counted
      | inr some ↦ times_some P rep (lent_in s (work s n D)) (hand_lends s P (work s n D) (all_carry s n D) lent) some
    ]
