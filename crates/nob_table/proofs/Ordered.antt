-- Lists in the order of last Dirties: one reference more behind the last, and some fewer.
use Rattle.std.proofs.Common.{◌≡◌, ℕ, ◌<◌, Bool, true, false, ◌||◌, ◌&&◌, cond, not, List, [], ◌∷◌, ◌++◌, filter, Option, Some, None, IfSome, refl, sym, ap, ◌∙◌, is_some, if◌then◌else◌, true≢false}
use Rattle.std.specs.List.{list_any, AllByRecursion}
use Rattle.nob_ids.specs.declared.wire_rep.WireRep.{WireRep}
use Rattle.nob_ids.specs.Names.{is_same}
use Rattle.nob_table_rows.specs.Order.{IsBefore, IsRising}
use Rattle.nob_table_rows.proofs.Same.{same_refl, same_is, same_laws}
use Rattle.nob_table_rows.proofs.Rising.{all_members, rising_same, rising_push, rising_filter}

any_push : (test : WireRep → Bool) (xs : List WireRep) (y : WireRep) → list_any test (xs ++ y ∷ []) ≡ list_any test xs || test y
any_push test [] y = elim (test y) as (λ b. (b || false) ≡ b) [ true ↦ refl | false ↦ refl ]
any_push test (x ∷ xs) y = elim (test x) as (λ b. (b || list_any test (xs ++ y ∷ [])) ≡ (b || list_any test xs) || test y) [ true ↦ refl | false ↦ any_push test xs y ]

or_true : (b : Bool) → (b || true) ≡ true
or_true true = refl
or_true false = refl

or_false : (b : Bool) → (b || false) ≡ b
or_false true = refl
or_false false = refl

-- a place among members is below one above all
before_all : (o : Option ℕ) (n : ℕ) → is_some o ≡ true → IfSome o (λ p. p < n) → IsBefore o (Some n)
before_all None n has less = absurd (true≢false (sym has))
before_all (Some p) n has less = less

module _ (place place' : WireRep → Option ℕ) (reps : List WireRep) (rising : IsRising place reps) (members : (rep : WireRep) → list_any (is_same rep) reps ≡ is_some (place rep)) where
  -- one more, with a place above all
  pub order_push : (rep : WireRep) (n : ℕ) → ((other : WireRep) → place' other ≡ (if is_same rep other then Some n else place other)) → place rep ≡ None → ((other : WireRep) → IfSome (place other) (λ p. p < n))
      → IsRising place' (reps ++ rep ∷ []) × ((other : WireRep) → list_any (is_same other) (reps ++ rep ∷ []) ≡ is_some (place' other))
  order_push rep n puts none last =
      let apart : (other : WireRep) → list_any (is_same other) reps ≡ true → is_same rep other ≡ false = λ other h.
      elim (is_same rep other) as (λ b. is_same rep other ≡ b → b ≡ false) [
        | true ↦ λ t. absurd (true≢false (sym h ∙ members other ∙ ap (λ (w : WireRep). is_some (place w)) (sym (same_is rep other t)) ∙ ap is_some none))
        | false ↦ λ u. refl
      ] refl in
      let kept : (other : WireRep) → list_any (is_same other) reps ≡ true → place' other ≡ place other = λ other h. puts other ∙ rw (apart other h) refl in
      let here : place' rep ≡ Some n = puts rep ∙ rw (same_refl rep) refl in
      let before : AllByRecursion (λ o. IsBefore (place' o) (place' rep)) reps =
      all_members (λ o. IsBefore (place' o) (place' rep)) reps (λ other h. rw (kept other h, here) (before_all (place other) n (sym (members other) ∙ h) (last other))) in (
        rising_push place' reps rep (rising_same place place' reps kept rising) before,
        λ other. any_push (is_same other) reps rep ∙ elim (is_same rep other) as (λ b. is_same rep other ≡ b → (list_any (is_same other) reps || is_same other rep) ≡ is_some (place' other)) [
          | true ↦ λ t.
              let there : place' other ≡ Some n = puts other ∙ rw t refl in
              let back : is_same other rep ≡ true = sym (same_laws.symm rep other) ∙ t in
              rw (back, there) (or_true (list_any (is_same other) reps))
          | false ↦ λ u.
              let there : place' other ≡ place other = puts other ∙ rw u refl in
              let back : is_same other rep ≡ false = sym (same_laws.symm rep other) ∙ u in
              rw (back, there) (or_false (list_any (is_same other) reps) ∙ members other)
        ] refl,
      )

  any_filter : (test : WireRep → Bool) (rep : WireRep) (xs : List WireRep) → list_any (is_same rep) (filter test xs) ≡ (test rep && list_any (is_same rep) xs)
  any_filter test rep [] = elim (test rep) as (λ b. false ≡ (b && false)) [ true ↦ refl | false ↦ refl ]
  any_filter test rep (x ∷ xs) =
      elim (is_same rep x) as (λ b. is_same rep x ≡ b → list_any (is_same rep) (filter test (x ∷ xs)) ≡ (test rep && (b || list_any (is_same rep) xs))) [
        | true ↦ λ t.
            let at : test x ≡ test rep = ap test (sym (same_is rep x t)) in
            elim (test rep) as (λ b. test rep ≡ b → list_any (is_same rep) (filter test (x ∷ xs)) ≡ (b && true)) [
              | true ↦ λ s. rw (at, s, t) refl
              | false ↦ λ s. let rest : list_any (is_same rep) (filter test xs) ≡ false = any_filter test rep xs ∙ rw s refl in rw (at, s) rest
            ] refl
        | false ↦ λ u.
            elim (test x) as (λ b. list_any (is_same rep) (cond b (x ∷ filter test xs) (filter test xs)) ≡ (test rep && list_any (is_same rep) xs)) [
              | true ↦ rw u (any_filter test rep xs)
              | false ↦ any_filter test rep xs
            ]
      ] refl

  -- without those that are gone
  pub order_filter : (gone : WireRep → Bool) → ((other : WireRep) → place' other ≡ (if gone other then None else place other))
      → IsRising place' (filter (λ other. not (gone other)) reps) × ((other : WireRep) → list_any (is_same other) (filter (λ other'. not (gone other')) reps) ≡ is_some (place' other))
  order_filter gone left =
      let test : WireRep → Bool = λ other. not (gone other) in (
        rising_same place place' (filter test reps) (λ other h.
            elim (gone other) as (λ b. gone other ≡ b → place' other ≡ place other) [
              | true ↦ λ t. absurd (true≢false (sym h ∙ any_filter test other reps ∙ rw t refl))
              | false ↦ λ u. left other ∙ rw u refl
            ] refl) (rising_filter place test reps rising),
        λ other. any_filter test other reps ∙ elim (gone other) as (λ b. gone other ≡ b → (not (gone other) && list_any (is_same other) reps) ≡ is_some (place' other)) [
          | true ↦ λ t. let there : place' other ≡ None = left other ∙ rw t refl in rw (t, there) refl
          | false ↦ λ u. let there : place' other ≡ place other = left other ∙ rw u refl in rw (u, there) (members other)
        ] refl,
      )
