-- Items of keys: what a queue of keys stands for, after a change of the keys or of what the slab has.
use Rattle.std.proofs.Common.{◌≡◌, ℕ, ◌<◌, true, false, cond, List, [], ◌∷◌, ◌++◌, length, map, Option, Some, None, IsSome, slice_get, refl, sym, ap, subst, ◌∙◌, arith, eqb-true, true≢false}
use Prim.Native.Nat.{zero, suc}
use Rattle.std.proofs.lemmas.Cmp.{nat_eq_equiv}
use Rattle.std.proofs.lemmas.Option.{same_Some}
use Rattle.std.specs.List.{AllByRecursion}
use Rattle.std.specs.Map.{remove_entry, set_value}
use Rattle.nob_slots.specs.Slots.{SlotList, item_at, is_number, IsRising}
use Rattle.nob_queues.specs.Queues.{queue_or_none, row_if}
use Rattle.nob_queues.specs.Keys.{item_of, queue_of, rows_of, with_row}
use Rattle.nob_queues.proofs.Found.{found_above, found_behind}

-- ---- rows under rising numbers
module _ {X : Type 0} where
  pub item_here : (row : ℕ × X) (rows : List (ℕ × X)) → item_at (row ∷ rows) row.0 ≡ Some row.1
  item_here row rows = rw (nat_eq_equiv.refl row.0) refl

  -- what holds of what stands under each number holds of each row
  pub all_found : (P : ℕ → X → Type 0) (rows : List (ℕ × X)) → IsRising rows → ((n : ℕ) (x : X) → item_at rows n ≡ Some x → P n x) → AllByRecursion (λ row. P row.0 row.1) rows
  all_found P [] rising each = tt
  all_found P (row ∷ rows) rising each =
      (each row.0 row.1 (item_here row rows), all_found P rows rising.1 (λ n x found. each n x (found_behind row rows n x rising.0 found)))

-- what there is, if there is something
pub some_is : {X : Type 0} (o : Option X) → IsSome o → (x : X) × (o ≡ Some x)
some_is None some = absurd (true≢false (sym some))
some_is (Some x) some = (x, refl)

module _ {T : Type 0} where
  -- ---- the queue at a place
  pub queue_is : (slots : List (Option T)) (queues : List (SlotList ℕ)) (q : ℕ) → queue_or_none (slice_get (map (queue_of slots) queues) q) ≡ queue_of slots (queue_or_none (slice_get queues q))
  queue_is slots [] q = refl
  queue_is slots (keys ∷ queues) zero = refl
  queue_is slots (keys ∷ queues) (suc q) = queue_is slots queues q

  -- each key has an item
  abbrev pub AllThere : List (Option T) → List (ℕ × ℕ) → Type 0
  AllThere slots keys = AllByRecursion (λ row. IsSome (item_of slots row.1)) keys

  -- the item of a key that there may be
  abbrev pub item_or : List (Option T) → Option ℕ → Option T
  item_or slots None = None
  item_or slots (Some key) = item_of slots key

  row_is : (slots : List (Option T)) (row : ℕ × ℕ) (keys : List (ℕ × ℕ)) (x : T) → item_of slots row.1 ≡ Some x → rows_of slots (row ∷ keys) ≡ (row.0, x) ∷ rows_of slots keys
  row_is slots row keys x found = ap (λ (o : Option T). with_row row.0 o (rows_of slots keys)) found

  -- ---- another slab with the same items under the keys
  pub rows_same : (slots slots' : List (Option T)) (keys : List (ℕ × ℕ)) → AllByRecursion (λ row. item_of slots' row.1 ≡ item_of slots row.1) keys → rows_of slots' keys ≡ rows_of slots keys
  rows_same slots slots' [] all = refl
  rows_same slots slots' (row ∷ keys) all =
      ap (λ (o : Option T). with_row row.0 o (rows_of slots' keys)) all.0
      ∙ ap (λ (rs : List (ℕ × T)). with_row row.0 (item_of slots row.1) rs) (rows_same slots slots' keys all.1)

  -- ---- what stands under a number
  pub item_in : (slots : List (Option T)) (keys : List (ℕ × ℕ)) (n : ℕ) → AllThere slots keys → item_at (rows_of slots keys) n ≡ item_or slots (item_at keys n)
  item_in slots [] n all = refl
  item_in slots (row ∷ keys) n all =
      let found = some_is (item_of slots row.1) all.0 in
      ap (λ (rs : List (ℕ × T)). item_at rs n) (row_is slots row keys found.0 found.1)
      ∙ elim (is_number n row.0) as (λ b. cond b (Some found.0) (item_at (rows_of slots keys) n) ≡ item_or slots (cond b (Some row.1) (item_at keys n))) [
        | true ↦ sym found.1
        | false ↦ item_in slots keys n all.1
      ]

  -- ---- as many, below the same numbers, and rising as the keys
  pub length_in : (slots : List (Option T)) (keys : List (ℕ × ℕ)) → AllThere slots keys → length (rows_of slots keys) ≡ length keys
  length_in slots [] all = refl
  length_in slots (row ∷ keys) all =
      let found = some_is (item_of slots row.1) all.0 in
      ap length (row_is slots row keys found.0 found.1) ∙ ap (λ (n : ℕ). suc n) (length_in slots keys all.1)

  pub all_in : (P : ℕ → Type 0) (slots : List (Option T)) (keys : List (ℕ × ℕ)) → AllByRecursion (λ row. P row.0) keys → AllByRecursion (λ row. P row.0) (rows_of slots keys)
  all_in P slots [] all = tt
  all_in P slots (row ∷ keys) all =
      elim (item_of slots row.1) as (λ (o : Option T). AllByRecursion (λ (r : ℕ × T). P r.0) (with_row row.0 o (rows_of slots keys))) [
        | None ↦ all_in P slots keys all.1
        | Some x ↦ (all.0, all_in P slots keys all.1)
      ]

  pub all_out : (P : ℕ → Type 0) (slots : List (Option T)) (keys : List (ℕ × ℕ)) → AllThere slots keys → AllByRecursion (λ row. P row.0) (rows_of slots keys) → AllByRecursion (λ row. P row.0) keys
  all_out P slots [] there all = tt
  all_out P slots (row ∷ keys) there all =
      let found = some_is (item_of slots row.1) there.0 in
      let both = subst (λ (rs : List (ℕ × T)). AllByRecursion (λ (r : ℕ × T). P r.0) rs) (row_is slots row keys found.0 found.1) all in
      (both.0, all_out P slots keys there.1 both.1)

  pub rising_in : (slots : List (Option T)) (keys : List (ℕ × ℕ)) → IsRising keys → IsRising (rows_of slots keys)
  rising_in slots [] rising = tt
  rising_in slots (row ∷ keys) rising =
      elim (item_of slots row.1) as (λ (o : Option T). IsRising (with_row row.0 o (rows_of slots keys))) [
        | None ↦ rising_in slots keys rising.1
        | Some x ↦ (all_in (λ n. row.0 < n) slots keys rising.0, rising_in slots keys rising.1)
      ]

  -- ---- one key more behind the last
  pub pushed_in : (slots : List (Option T)) (n key : ℕ) (keys : List (ℕ × ℕ)) → rows_of slots (keys ++ (n, key) ∷ []) ≡ rows_of slots keys ++ row_if n (item_of slots key)
  pushed_in slots n key [] = elim (item_of slots key) as (λ (o : Option T). with_row n o [] ≡ row_if n o) [ None ↦ refl | Some x ↦ refl ]
  pushed_in slots n key (row ∷ keys) =
      elim (item_of slots row.1) as (λ (o : Option T). with_row row.0 o (rows_of slots (keys ++ (n, key) ∷ [])) ≡ with_row row.0 o (rows_of slots keys) ++ row_if n (item_of slots key)) [
        | None ↦ pushed_in slots n key keys
        | Some x ↦ ap (λ (rs : List (ℕ × T)). (row.0, x) ∷ rs) (pushed_in slots n key keys)
      ]

  -- ---- a key taken out
  pub removed_in : (slots : List (Option T)) (n : ℕ) (keys : List (ℕ × ℕ)) → AllThere slots keys → rows_of slots (remove_entry (is_number n) keys) ≡ remove_entry (is_number n) (rows_of slots keys)
  removed_in slots n [] all = refl
  removed_in slots n (row ∷ keys) all =
      let found = some_is (item_of slots row.1) all.0 in
      elim (is_number n row.0) as (λ b. rows_of slots (cond b keys (row ∷ remove_entry (is_number n) keys)) ≡ cond b (rows_of slots keys) ((row.0, found.0) ∷ remove_entry (is_number n) (rows_of slots keys))) [
        | true ↦ refl
        | false ↦ row_is slots row (remove_entry (is_number n) keys) found.0 found.1 ∙ ap (λ (rs : List (ℕ × T)). (row.0, found.0) ∷ rs) (removed_in slots n keys all.1)
      ]
      ∙ sym (ap (λ (rs : List (ℕ × T)). remove_entry (is_number n) rs) (row_is slots row keys found.0 found.1))

  -- ---- another item under the key of a number
  pub written_in : (slots slots' : List (Option T)) (n key : ℕ) (x : T) (keys : List (ℕ × ℕ)) → IsRising keys → item_at keys n ≡ Some key → item_of slots' key ≡ Some x → ((m k : ℕ) → item_at keys m ≡ Some k → (n ≡ m → ⊥) → item_of slots' k ≡ item_of slots k) → AllThere slots keys → rows_of slots' keys ≡ set_value (is_number n) (rows_of slots keys) x
  written_in slots slots' n key x [] rising found new others all = refl
  written_in slots slots' n key x (row ∷ keys) rising found new others all =
      let was = some_is (item_of slots row.1) all.0 in
      elim (is_number n row.0) as (λ b. is_number n row.0 ≡ b → cond b (Some row.1) (item_at keys n) ≡ Some key → rows_of slots' (row ∷ keys) ≡ cond b ((row.0, x) ∷ rows_of slots keys) ((row.0, was.0) ∷ set_value (is_number n) (rows_of slots keys) x)) [
        | true ↦ λ t here.
            let same : n ≡ row.0 = eqb-true n row.0 t in
            row_is slots' row keys x (ap (item_of slots') (same_Some row.1 key here) ∙ new)
            ∙ ap (λ (rs : List (ℕ × T)). (row.0, x) ∷ rs) (rows_same slots slots' keys (all_found (λ m k. item_of slots' k ≡ item_of slots k) keys rising.1
            (λ m k stands. others m k (found_behind row keys m k rising.0 stands) (λ e. let more : row.0 < m = found_above row.0 m k keys rising.0 stands in omega (arith, more, e, same)))))
        | false ↦ λ u here.
            row_is slots' row keys was.0 (others row.0 row.1 (item_here row keys) (λ e. true≢false (sym (ap (is_number n) (sym e) ∙ nat_eq_equiv.refl n) ∙ u)) ∙ was.1)
            ∙ ap (λ (rs : List (ℕ × T)). (row.0, was.0) ∷ rs) (written_in slots slots' n key x keys rising.1 here new (λ m k stands. others m k (found_behind row keys m k rising.0 stands)) all.1)
      ] refl found
      ∙ sym (ap (λ (rs : List (ℕ × T)). set_value (is_number n) rs x) (row_is slots row keys was.0 was.1))
