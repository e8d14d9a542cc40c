-- The first element that passes a test, and a list without it.
use Rattle.std.proofs.Common.{◌≡◌, ◌+◌, Bool, true, false, cond, List, [], ◌∷◌, ◌++◌, find, flat_map, Some, if◌then◌else◌, refl, sym, ap, subst, ◌∙◌, arith}
use Rattle.std.proofs.lemmas.Option.{none-some}
use Rattle.nob_ids.specs.declared.wire_rep.WireRep.{WireRep}
use Rattle.nob_model_work.specs.Work.{without_first}
use Rattle.nob_model_history.specs.Holds.{times}
use Rattle.nob_space_state.proofs.Counted.{times_both}
use Rattle.nob_space_state.proofs.Rows.{differ}

pub some_same : {A : Type 0} {x y : A} → Some x ≡ Some y → x ≡ y
some_same e = cc

-- the first that passes a test is the first that passes a narrower one, if it does
pub narrower_first : {A : Type 0} (wide narrow : A → Bool) (xs : List A) (m : A) → ((x : A) → narrow x ≡ true → wide x ≡ true) → find wide xs ≡ Some m → narrow m ≡ true
    → (find narrow xs ≡ Some m) × (without_first narrow xs ≡ without_first wide xs)
narrower_first wide narrow [] m within found passes = absurd (none-some m found)
narrower_first {A} wide narrow (x ∷ xs) m within found passes = elim (wide x) as (λ b. wide x ≡ b → cond b (Some x) (find wide xs) ≡ Some m → (cond (narrow x) (Some x) (find narrow xs) ≡ Some m) × ((if narrow x then xs else x ∷ without_first narrow xs) ≡ (if b then xs else x ∷ without_first wide xs))) [
  | true ↦ λ e here.
      let is : x ≡ m = cc in
      let first : narrow x ≡ true = subst (λ y. narrow y ≡ true) (sym is) passes in
      rw first (here, refl)
  | false ↦ λ e there.
      let later : narrow x ≡ false = elim (narrow x) as (λ b. narrow x ≡ b → b ≡ false) [ true ↦ λ n. absurd (differ (within x n) e) | false ↦ λ n. refl ] refl in
      let rest = narrower_first wide narrow xs m within there passes in
      rw later (rest.0, ap (λ ys. x ∷ ys) rest.1)
] refl found

-- what the first that passes brings to a list, and what the others bring
pub times_without : {A : Type 0} (f : A → List WireRep) (test : A → Bool) (rep : WireRep) (xs : List A) (m : A) → find test xs ≡ Some m
    → times rep (flat_map f xs) ≡ times rep (f m) + times rep (flat_map f (without_first test xs))
times_without f test rep [] m found = absurd (none-some m found)
times_without {A} f test rep (x ∷ xs) m found = elim (test x) as (λ b. cond b (Some x) (find test xs) ≡ Some m → times rep (f x ++ flat_map f xs) ≡ times rep (f m) + times rep (flat_map f (if b then xs else x ∷ without_first test xs))) [
  | true ↦ λ here. times_both rep (f x) (flat_map f xs) ∙ (let is : x ≡ m = cc in ap (λ y. times rep (f y) + times rep (flat_map f xs)) is)
  | false ↦ λ there.
      let first : times rep (f x ++ flat_map f xs) ≡ times rep (f x) + times rep (flat_map f xs) = times_both rep (f x) (flat_map f xs) in
      let rest : times rep (flat_map f xs) ≡ times rep (f m) + times rep (flat_map f (without_first test xs)) = times_without f test rep xs m there in
      let others : times rep (f x ++ flat_map f (without_first test xs)) ≡ times rep (f x) + times rep (flat_map f (without_first test xs)) = times_both rep (f x) (flat_map f (without_first test xs)) in
      omega (arith, first, rest, others)
] found
