-- References of which something holds, and each once where it stands last.
use Rattle.std.proofs.Common.{◌≡◌, Bool, true, false, ◌||◌, cond, List, [], ◌∷◌, filter, refl, sym, ap, subst, ◌∙◌}
use Rattle.std.specs.List.{AllByRecursion, IsDistinct, list_any}
use Rattle.std.proofs.lemmas.Bool.{or_parts}
use Rattle.nob_ids.specs.Names.{is_same}
use Rattle.nob_ids.specs.declared.wire_rep.WireRep.{WireRep}
use Rattle.nob_table_rows.proofs.Same.{same_is}
use Rattle.nob_model_history.specs.Transit.{once_last}

-- what passes a test
pub filter_passes : {A : Type 0} (test : A → Bool) (xs : List A) → AllByRecursion (λ x. test x ≡ true) (filter test xs)
filter_passes test [] = tt
filter_passes {A} test (x ∷ xs) = elim (test x) as (λ b. test x ≡ b → AllByRecursion (λ y. test y ≡ true) (cond b (x ∷ filter test xs) (filter test xs))) [
  | true ↦ λ passes. (passes, filter_passes test xs)
  | false ↦ λ _. filter_passes test xs
] refl

-- what holds of all holds of one among them
pub any_of : (P : WireRep → Type 0) (rep : WireRep) (reps : List WireRep) → AllByRecursion P reps → list_any (is_same rep) reps ≡ true → P rep
any_of P rep [] all there = absurd (cc)
any_of P rep (other ∷ reps) all there = elim (is_same rep other) as (λ b. is_same rep other ≡ b → (b || list_any (is_same rep) reps) ≡ true → P rep) [
  | true ↦ λ same _. subst P (sym (same_is rep other same)) all.0
  | false ↦ λ _ later. any_of P rep reps all.1 later
] refl there

-- ---- each once, where it stands last

-- the same references
pub any_last : (rep : WireRep) (reps : List WireRep) → list_any (is_same rep) (once_last reps) ≡ list_any (is_same rep) reps
any_last rep [] = refl
any_last rep (x ∷ reps) = elim (list_any (is_same x) reps) as (λ b. list_any (is_same x) reps ≡ b → list_any (is_same rep) (cond b (once_last reps) (x ∷ once_last reps)) ≡ (is_same rep x || list_any (is_same rep) reps)) [
  | true ↦ λ there. any_last rep reps ∙ elim (is_same rep x) as (λ b. is_same rep x ≡ b → list_any (is_same rep) reps ≡ (b || list_any (is_same rep) reps)) [
    | true ↦ λ same. ap (λ (w : WireRep). list_any (is_same w) reps) (same_is rep x same) ∙ there
    | false ↦ λ _. refl
  ] refl
  | false ↦ λ _. ap (λ b. is_same rep x || b) (any_last rep reps)
] refl

none_among : (x : WireRep) (reps : List WireRep) → list_any (is_same x) reps ≡ false → AllByRecursion (λ y. is_same x y ≡ false) reps
none_among x [] none = tt
none_among x (y ∷ reps) none = let parts = or_parts (is_same x y) (list_any (is_same x) reps) none in (parts.0, none_among x reps parts.1)

-- no reference stands twice
pub last_distinct : (reps : List WireRep) → IsDistinct is_same (once_last reps)
unfolding IsDistinct
last_distinct [] = tt
last_distinct (x ∷ reps) = elim (list_any (is_same x) reps) as (λ b. list_any (is_same x) reps ≡ b → IsDistinct is_same (cond b (once_last reps) (x ∷ once_last reps))) [
  | true ↦ λ _. last_distinct reps
  | false ↦ λ none. (none_among x (once_last reps) (any_last x reps ∙ none), last_distinct reps)
] refl
