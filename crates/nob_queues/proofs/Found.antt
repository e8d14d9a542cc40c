-- Rows under rising numbers: what stands under a number after a change.
use Rattle.std.proofs.Common.{◌≡◌, ℕ, ◌<◌, ◌≤◌, ◌==◌, true, false, cond, List, [], ◌∷◌, ◌++◌, Option, Some, None, IsSome, inl, inr, refl, sym, ap, ◌∙◌, arith, if◌then◌else◌, eqb-true}
use Rattle.std.proofs.lemmas.Bool.{cases_lt, ne_eqb, eqb-false}
use Rattle.std.proofs.lemmas.Cmp.{nat_eq_equiv}
use Rattle.std.proofs.lemmas.Map.{lookup-set_value}
use Rattle.std.proofs.lemmas.Option.{none-some}
use Rattle.std.specs.List.{AllByRecursion}
use Rattle.std.specs.Map.{remove_entry, set_value}
use Rattle.nob_slots.specs.Slots.{item_at, is_number, IsAbove, IsRising}

one_number : (n x y : ℕ) → is_number n x ≡ true → is_number n y ≡ is_number x y
one_number n x y t = ap (λ (k : ℕ). is_number k y) (eqb-true n x t)

module _ {X : Type 0} where
  -- what is below all of the numbers has nothing
  pub none_under : (n s : ℕ) (rows : List (ℕ × X)) → AllByRecursion (λ row. n < row.0) rows → s ≤ n → item_at rows s ≡ None
  none_under n s [] all le = refl
  none_under n s (row ∷ rows) all le =
      let less : n < row.0 = all.0 in
      let u : is_number s row.0 ≡ false = ne_eqb s row.0 (λ e. omega (arith, e, less, le)) in
      rw u (none_under n s rows all.1 le)

  -- what is above all of the numbers has nothing
  pub none_over : (n s : ℕ) (rows : List (ℕ × X)) → IsAbove rows n → n ≤ s → item_at rows s ≡ None
  none_over n s [] all le = refl
  none_over n s (row ∷ rows) all le =
      let less : row.0 < n = all.0 in
      let u : is_number s row.0 ≡ false = ne_eqb s row.0 (λ e. omega (arith, e, less, le)) in
      rw u (none_over n s rows all.1 le)

  -- a number from which on there is nothing is above all
  pub is_above : (n : ℕ) (rows : List (ℕ × X)) → ((s : ℕ) → n ≤ s → item_at rows s ≡ None) → IsAbove rows n
  is_above n [] none = tt
  is_above n (row ∷ rows) none =
      let here : item_at (row ∷ rows) row.0 ≡ Some row.1 = rw (nat_eq_equiv.refl row.0) refl in
      let less : row.0 < n = elim (cases_lt row.0 n) as (λ _. row.0 < n) [ inl less ↦ less | inr le ↦ absurd (none-some row.1 (sym (none row.0 le) ∙ here)) ] in
      (less, is_above n rows (λ s le. let u : is_number s row.0 ≡ false = ne_eqb s row.0 (λ e. omega (arith, e, less, le)) in rw u at (none s le)))

  -- ---- one more behind the last
  pub pushed_at : (n : ℕ) (x : X) (rows : List (ℕ × X)) (s : ℕ) → IsAbove rows n → item_at (rows ++ (n, x) ∷ []) s ≡ (if n == s then Some x else item_at rows s)
  pushed_at n x [] s above = ap (λ b. cond b (Some x) None) (nat_eq_equiv.symm s n)
  pushed_at n x (row ∷ rows) s above =
      elim (is_number s row.0) as (λ b. is_number s row.0 ≡ b → cond b (Some row.1) (item_at (rows ++ (n, x) ∷ []) s) ≡ (if n == s then Some x else cond b (Some row.1) (item_at rows s))) [
        | true ↦ λ t.
            let same : s ≡ row.0 = eqb-true s row.0 t in
            let less : row.0 < n = above.0 in
            let u : (n == s) ≡ false = ne_eqb n s (λ e. omega (arith, e, less, same)) in
            rw u refl
        | false ↦ λ u. pushed_at n x rows s above.1
      ] refl

  pub pushed_by : {Y : Type 0} (f : Option X → Y) (n : ℕ) (x : X) (rows : List (ℕ × X)) (s : ℕ) → IsAbove rows n → f (item_at (rows ++ (n, x) ∷ []) s) ≡ (if n == s then f (Some x) else f (item_at rows s))
  pushed_by f n x rows s above = ap f (pushed_at n x rows s above) ∙ elim (n == s) as (λ b. f (if b then Some x else item_at rows s) ≡ (if b then f (Some x) else f (item_at rows s))) [ true ↦ refl | false ↦ refl ]

  pub pushed_below : (n k : ℕ) (x : X) (rows : List (ℕ × X)) → n < k → IsAbove rows n → IsAbove (rows ++ (n, x) ∷ []) k
  pushed_below n k x [] less above = (less, tt)
  pushed_below n k x (row ∷ rows) less above = let under : row.0 < n = above.0 in (omega (arith, under, less), pushed_below n k x rows less above.1)

  -- ---- one taken out
  pub removed_at : (n : ℕ) (rows : List (ℕ × X)) (s : ℕ) → IsRising rows → item_at (remove_entry (is_number n) rows) s ≡ (if n == s then None else item_at rows s)
  removed_at n [] s rising = elim (n == s) as (λ b. ◌≡◌ {A = Option X} None (if b then None else None)) [ true ↦ refl | false ↦ refl ]
  removed_at n (row ∷ rows) s rising =
      elim (is_number n row.0) as (λ b. is_number n row.0 ≡ b → item_at (cond b rows (row ∷ remove_entry (is_number n) rows)) s ≡ (if n == s then None else cond (is_number s row.0) (Some row.1) (item_at rows s))) [
        | true ↦ λ t.
            let same : n ≡ row.0 = eqb-true n row.0 t in
            elim (n == s) as (λ b. (n == s) ≡ b → item_at rows s ≡ (if b then None else cond (is_number s row.0) (Some row.1) (item_at rows s))) [
              | true ↦ λ v. let here : n ≡ s = eqb-true n s v in none_under row.0 s rows rising.0 (omega (arith, here, same))
              | false ↦ λ v. let apart : n ≡ s → ⊥ = eqb-false n s v in let u : is_number s row.0 ≡ false = ne_eqb s row.0 (λ e. apart (same ∙ sym e)) in rw u refl
            ] refl
        | false ↦ λ u.
            elim (is_number s row.0) as (λ b. is_number s row.0 ≡ b → cond b (Some row.1) (item_at (remove_entry (is_number n) rows) s) ≡ (if n == s then None else cond b (Some row.1) (item_at rows s))) [
              | true ↦ λ t.
                  let here : s ≡ row.0 = eqb-true s row.0 t in
                  let apart : n ≡ row.0 → ⊥ = eqb-false n row.0 u in
                  let v : (n == s) ≡ false = ne_eqb n s (λ e. apart (e ∙ here)) in
                  rw v refl
              | false ↦ λ v. removed_at n rows s rising.1
            ] refl
      ] refl

  pub removed_by : {Y : Type 0} (f : Option X → Y) (n : ℕ) (rows : List (ℕ × X)) (s : ℕ) → IsRising rows → f (item_at (remove_entry (is_number n) rows) s) ≡ (if n == s then f None else f (item_at rows s))
  removed_by f n rows s rising = ap f (removed_at n rows s rising) ∙ elim (n == s) as (λ b. f (if b then None else item_at rows s) ≡ (if b then f None else f (item_at rows s))) [ true ↦ refl | false ↦ refl ]

  pub all_removed : (P : ℕ × X → Type 0) (n : ℕ) (rows : List (ℕ × X)) → AllByRecursion P rows → AllByRecursion P (remove_entry (is_number n) rows)
  all_removed P n [] all = tt
  all_removed P n (row ∷ rows) all = elim (is_number n row.0) as (λ b. AllByRecursion P (cond b rows (row ∷ remove_entry (is_number n) rows))) [ true ↦ all.1 | false ↦ (all.0, all_removed P n rows all.1) ]

  pub removed_rising : (n : ℕ) (rows : List (ℕ × X)) → IsRising rows → IsRising (remove_entry (is_number n) rows)
  removed_rising n [] rising = tt
  removed_rising n (row ∷ rows) rising = elim (is_number n row.0) as (λ b. IsRising (cond b rows (row ∷ remove_entry (is_number n) rows))) [
    | true ↦ rising.1
    | false ↦ (all_removed (λ other. row.0 < other.0) n rows rising.0, removed_rising n rows rising.1)
  ]

  -- ---- another in the place of one
  pub set_at : (n : ℕ) (rows : List (ℕ × X)) (x : X) (s : ℕ) → IsSome (item_at rows n) → item_at (set_value (is_number n) rows x) s ≡ cond (is_number n s) (Some x) (item_at rows s)
  set_at n rows x s some = lookup-set_value {eq = is_number} nat_eq_equiv (is_number n) (one_number n) s x rows some

  pub set_same : {Y : Type 0} (f : Option X → Y) (n : ℕ) (rows : List (ℕ × X)) (was x : X) (s : ℕ) → item_at rows n ≡ Some was → f (Some x) ≡ f (Some was) → f (item_at (set_value (is_number n) rows x) s) ≡ f (item_at rows s)
  set_same f n rows was x s found same =
      ap f (set_at n rows x s (rw found refl))
      ∙ elim (is_number n s) as (λ b. is_number n s ≡ b → f (cond b (Some x) (item_at rows s)) ≡ f (item_at rows s)) [
        | true ↦ λ t. same ∙ ap f (sym found ∙ ap (item_at rows) (eqb-true n s t))
        | false ↦ λ u. refl
      ] refl

  pub set_by : {Y : Type 0} (f : Option X → Y) (n : ℕ) (rows : List (ℕ × X)) (was x : X) (s : ℕ) → item_at rows n ≡ Some was → f (item_at (set_value (is_number n) rows x) s) ≡ (if n == s then f (Some x) else f (item_at rows s))
  set_by f n rows was x s found =
      ap f (set_at n rows x s (rw found refl))
      ∙ elim (is_number n s) as (λ b. f (cond b (Some x) (item_at rows s)) ≡ (if b then f (Some x) else f (item_at rows s))) [ true ↦ refl | false ↦ refl ]

  -- what isn't there isn't taken out
  pub removed_absent : (n : ℕ) (rows : List (ℕ × X)) → item_at rows n ≡ None → remove_entry (is_number n) rows ≡ rows
  removed_absent n [] none = refl
  removed_absent n (row ∷ rows) none =
      elim (is_number n row.0) as (λ b. cond b (Some row.1) (item_at rows n) ≡ None → cond b rows (row ∷ remove_entry (is_number n) rows) ≡ row ∷ rows) [
        | true ↦ λ e. absurd (none-some row.1 (sym e))
        | false ↦ λ e. ap (λ (rs : List (ℕ × X)). row ∷ rs) (removed_absent n rows e)
      ] none

  -- ---- where a number stands
  pub found_above : (n s : ℕ) (x : X) (rows : List (ℕ × X)) → AllByRecursion (λ row. n < row.0) rows → item_at rows s ≡ Some x → n < s
  found_above n s x rows all found = elim (cases_lt n s) as (λ _. n < s) [ inl less ↦ less | inr le ↦ absurd (none-some x (sym (none_under n s rows all le) ∙ found)) ]

  pub found_behind : (row : ℕ × X) (rows : List (ℕ × X)) (s : ℕ) (x : X) → AllByRecursion (λ other. row.0 < other.0) rows → item_at rows s ≡ Some x → item_at (row ∷ rows) s ≡ Some x
  found_behind row rows s x all found =
      let more : row.0 < s = found_above row.0 s x rows all found in
      let u : is_number s row.0 ≡ false = ne_eqb s row.0 (λ e. omega (arith, e, more)) in
      rw u found
