-- Queues of keys after a change: each key still has an item, none stands twice, and no item stands nowhere.
use Rattle.std.proofs.Common.{◌≡◌, ◌⊎◌, ℕ, ◌+◌, ◌==◌, true, false, cond, List, [], ◌∷◌, ◌++◌, length, count_by, Option, Some, None, IsSome, is_some, slice_get, inl, inr, refl, sym, ap, subst, ◌∙◌, arith, if◌then◌else◌, eqb-true, true≢false}
use Prim.Native.Nat.{zero, suc}
use lib.ListN.{set}
use Rattle.std.proofs.lemmas.Bool.{cases_eq}
use Rattle.std.proofs.lemmas.Cmp.{nat_eq_equiv}
use Rattle.std.proofs.lemmas.Option.{none-some, same_Some}
use Rattle.std.specs.Map.{remove_entry, set_value}
use Rattle.nob_slots.specs.Slots.{SlotList, item_at, is_number, IsAbove, IsRising}
use Rattle.nob_slots.proofs.Flat.{get_set_other, get_set_same, length_push}
use Rattle.nob_slots.proofs.Rising.{rising_push}
use Rattle.nob_queues.specs.Queues.{queue_or_none, row_if}
use Rattle.nob_queues.specs.Keys.{AreKept, Stands, item_of, key_count, keys_at, rows_of}
use Rattle.nob_queues.proofs.Found.{pushed_at, removed_at, removed_rising}
use Rattle.nob_queues.proofs.Keyed.{AllThere, all_found, item_in, item_or, pushed_in, removed_in, rows_same, some_is, written_in}

-- ---- how many keys there are
pub one_less : {X : Type 0} (n : ℕ) (rows : List (ℕ × X)) (x : X) → item_at rows n ≡ Some x → length (remove_entry (is_number n) rows) + 1 ≡ length rows
one_less n [] x found = absurd (none-some x found)
one_less n (row ∷ rows) x found =
    elim (is_number n row.0) as (λ b. cond b (Some row.1) (item_at rows n) ≡ Some x → length (cond b rows (row ∷ remove_entry (is_number n) rows)) + 1 ≡ length (row ∷ rows)) [
      | true ↦ λ e. omega arith
      | false ↦ λ e. omega (arith, one_less n rows x e)
    ] found

count_set : (queues : List (SlotList ℕ)) (q : ℕ) (old new : SlotList ℕ) → slice_get queues q ≡ Some old → key_count (set queues q new) + length old.rows ≡ key_count queues + length new.rows
count_set [] q old new got = absurd (none-some old got)
count_set (keys ∷ queues) zero old new got = let e = ap (λ (k : SlotList ℕ). length k.rows) (same_Some keys old got) in omega (arith, e)
count_set (keys ∷ queues) (suc q) old new got = omega (arith, count_set queues q old new got)

-- ---- one queue that changes
module _ (queues : List (SlotList ℕ)) (q : ℕ) (old : SlotList ℕ) (got : slice_get queues q ≡ Some old) where
  was : keys_at queues q ≡ old.rows
  was = ap (λ (o : Option (SlotList ℕ)). (queue_or_none o).rows) got

  module _ (new : SlotList ℕ) where
    at_here : keys_at (set queues q new) q ≡ new.rows
    at_here = ap (λ (o : Option (SlotList ℕ)). (queue_or_none o).rows) (get_set_same queues q old new got)

    at_other : (p : ℕ) → (p ≡ q → ⊥) → keys_at (set queues q new) p ≡ keys_at queues p
    at_other p ne = ap (λ (o : Option (SlotList ℕ)). (queue_or_none o).rows) (get_set_other queues q p new ne)

    -- where the queue has one key more
    module _ (n key : ℕ) (rows : new.rows ≡ old.rows ++ (n, key) ∷ []) (above : IsAbove old.rows n) where
      stood : (p m k : ℕ) → Stands (set queues q new) p m k → Stands queues p m k ⊎ ((p ≡ q) × (m ≡ n) × (k ≡ key))
      stood p m k stands = elim (cases_eq p q) as (λ _. Stands queues p m k ⊎ ((p ≡ q) × (m ≡ n) × (k ≡ key))) [
        | inl e ↦
            let at : item_at (old.rows ++ (n, key) ∷ []) m ≡ Some k =
            ap (λ (rs : List (ℕ × ℕ)). item_at rs m) (sym rows ∙ sym at_here ∙ ap (keys_at (set queues q new)) (sym e)) ∙ stands in
            elim (n == m) as (λ b. (n == m) ≡ b → (if b then Some key else item_at old.rows m) ≡ Some k → Stands queues p m k ⊎ ((p ≡ q) × (m ≡ n) × (k ≡ key))) [
              | true ↦ λ t w. inr (e, sym (eqb-true n m t), sym (same_Some key k w))
              | false ↦ λ u w. inl (ap (λ (rs : List (ℕ × ℕ)). item_at rs m) (ap (keys_at queues) e ∙ was) ∙ w)
            ] refl (sym (pushed_at n key old.rows m above) ∙ at)
        | inr ne ↦ inl (ap (λ (rs : List (ℕ × ℕ)). item_at rs m) (sym (at_other p ne)) ∙ stands)
      ]

      rising_more : ((p : ℕ) → IsRising (keys_at queues p)) → (p : ℕ) → IsRising (keys_at (set queues q new) p)
      rising_more rising p = elim (cases_eq p q) as (λ _. IsRising (keys_at (set queues q new) p)) [
        | inl e ↦ subst (λ (rs : List (ℕ × ℕ)). IsRising rs) (sym (ap (keys_at (set queues q new)) e ∙ at_here ∙ rows)) (rising_push old.rows (n, key) (subst (λ (rs : List (ℕ × ℕ)). IsRising rs) was (rising q)) above)
        | inr ne ↦ subst (λ (rs : List (ℕ × ℕ)). IsRising rs) (sym (at_other p ne)) (rising p)
      ]

      count_more : key_count (set queues q new) ≡ key_count queues + 1
      count_more = omega (arith, count_set queues q old new got, ap (λ (rs : List (ℕ × ℕ)). length rs) rows, length_push old.rows (n, key))

    -- where the queue has one key less
    module _ (n : ℕ) (rows : new.rows ≡ remove_entry (is_number n) old.rows) (rising : IsRising old.rows) where
      left : (p m k : ℕ) → Stands (set queues q new) p m k → Stands queues p m k × ((p ≡ q) → (m ≡ n) → ⊥)
      left p m k stands = elim (cases_eq p q) as (λ _. Stands queues p m k × ((p ≡ q) → (m ≡ n) → ⊥)) [
        | inl e ↦
            let at : item_at (remove_entry (is_number n) old.rows) m ≡ Some k =
            ap (λ (rs : List (ℕ × ℕ)). item_at rs m) (sym rows ∙ sym at_here ∙ ap (keys_at (set queues q new)) (sym e)) ∙ stands in
            elim (n == m) as (λ b. (n == m) ≡ b → (if b then None else item_at old.rows m) ≡ Some k → Stands queues p m k × ((p ≡ q) → (m ≡ n) → ⊥)) [
              | true ↦ λ t w. absurd (none-some k w)
              | false ↦ λ u w. (
                ap (λ (rs : List (ℕ × ℕ)). item_at rs m) (ap (keys_at queues) e ∙ was) ∙ w,
                λ _ same. true≢false (sym (ap (λ (i : ℕ). n == i) same ∙ nat_eq_equiv.refl n) ∙ u),
              )
            ] refl (sym (removed_at n old.rows m rising) ∙ at)
        | inr ne ↦ (ap (λ (rs : List (ℕ × ℕ)). item_at rs m) (sym (at_other p ne)) ∙ stands, λ e _. ne e)
      ]

      rising_less : ((p : ℕ) → IsRising (keys_at queues p)) → (p : ℕ) → IsRising (keys_at (set queues q new) p)
      rising_less all p = elim (cases_eq p q) as (λ _. IsRising (keys_at (set queues q new) p)) [
        | inl e ↦ subst (λ (rs : List (ℕ × ℕ)). IsRising rs) (sym (ap (keys_at (set queues q new)) e ∙ at_here ∙ rows)) (removed_rising n old.rows rising)
        | inr ne ↦ subst (λ (rs : List (ℕ × ℕ)). IsRising rs) (sym (at_other p ne)) (all p)
      ]

      count_less : (key : ℕ) → item_at old.rows n ≡ Some key → key_count (set queues q new) + 1 ≡ key_count queues
      count_less key found = omega (arith, count_set queues q old new got, ap (λ (rs : List (ℕ × ℕ)). length rs) rows, one_less n old.rows key found)

-- ---- what holds before and after
module _ {T : Type 0} (slots : List (Option T)) (queues : List (SlotList ℕ)) (kept : AreKept slots queues) where
  -- of another queue of the same keys
  pub kept_same : (q : ℕ) (old new : SlotList ℕ) → slice_get queues q ≡ Some old → new.rows ≡ old.rows → AreKept slots (set queues q new)
  kept_same q old new got rows =
      let same : (p : ℕ) → keys_at (set queues q new) p ≡ keys_at queues p = λ p. elim (cases_eq p q) as (λ _. keys_at (set queues q new) p ≡ keys_at queues p) [
        | inl e ↦ ap (keys_at (set queues q new)) e ∙ at_here queues q old got new ∙ rows ∙ sym (was queues q old got) ∙ ap (keys_at queues) (sym e)
        | inr ne ↦ at_other queues q old got new p ne
      ] in
      let before : (p m k : ℕ) → Stands (set queues q new) p m k → Stands queues p m k = λ p m k stands. ap (λ (rs : List (ℕ × ℕ)). item_at rs m) (sym (same p)) ∙ stands in
      record {
        rising = λ p. subst (λ (rs : List (ℕ × ℕ)). IsRising rs) (sym (same p)) (kept.rising p);
        there = λ p m k stands. kept.there p m k (before p m k stands);
        once = λ p m r s k first second. kept.once p m r s k (before p m k first) (before r s k second);
        all = omega (arith, kept.all, count_set queues q old new got, ap (λ (rs : List (ℕ × ℕ)). length rs) rows);
      }

  -- of a queue that is there
  module _ (q : ℕ) (old : SlotList ℕ) (got : slice_get queues q ≡ Some old) where
    pub rising_here : IsRising old.rows
    rising_here = subst (λ (rs : List (ℕ × ℕ)). IsRising rs) (was queues q old got) (kept.rising q)

    pub stands_here : (n key : ℕ) → item_at old.rows n ≡ Some key → Stands queues q n key
    stands_here n key found = ap (λ (rs : List (ℕ × ℕ)). item_at rs n) (was queues q old got) ∙ found

    pub all_there : AllThere slots old.rows
    all_there = all_found (λ n k. IsSome (item_of slots k)) old.rows rising_here (λ n k found. kept.there q n k (stands_here n k found))

    -- what has a key has an item, and the other way round
    pub some_here : (n : ℕ) → IsSome (item_at old.rows n) → IsSome (item_at (rows_of slots old.rows) n)
    some_here n some =
        let key = some_is (item_at old.rows n) some in
        subst (λ (o : Option T). IsSome o) (sym (item_in slots old.rows n all_there ∙ ap (item_or slots) key.1)) (kept.there q n key.0 (stands_here n key.0 key.1))

    pub some_key : (n : ℕ) → IsSome (item_at (rows_of slots old.rows) n) → IsSome (item_at old.rows n)
    some_key n some =
        elim (item_at old.rows n) as (λ (o : Option ℕ). item_at (rows_of slots old.rows) n ≡ item_or slots o → IsSome o) [
          | None ↦ λ e. absurd (true≢false (sym (subst (λ (o : Option T). IsSome o) e some)))
          | Some k ↦ λ e. refl
        ] (item_in slots old.rows n all_there)

    -- ---- an item more, under a key that had none
    module _ (slots' : List (Option T)) (n key : ℕ) (x : T) (new : SlotList ℕ) (rows : new.rows ≡ old.rows ++ (n, key) ∷ []) (above : IsAbove old.rows n) (vacant : item_of slots key ≡ None) (changed : item_of slots' key ≡ Some x) (others : (k : ℕ) → (k ≡ key → ⊥) → item_of slots' k ≡ item_of slots k) where
      apart : (p m k : ℕ) → Stands queues p m k → k ≡ key → ⊥
      apart p m k stands e = let some = some_is (item_of slots k) (kept.there p m k stands) in none-some some.0 (sym vacant ∙ ap (item_of slots) (sym e) ∙ some.1)

      pub kept_pushed : count_by is_some slots' ≡ count_by is_some slots + 1 → AreKept slots' (set queues q new)
      kept_pushed more = record {
        rising = rising_more queues q old got new n key rows above kept.rising;
        there = λ p m k stands. elim (stood queues q old got new n key rows above p m k stands) as (λ _. IsSome (item_of slots' k)) [
          | inl before ↦ subst (λ (o : Option T). IsSome o) (sym (others k (apart p m k before))) (kept.there p m k before)
          | inr now ↦ subst (λ (o : Option T). IsSome o) (sym (ap (item_of slots') now.2 ∙ changed)) refl
        ];
        once = λ p m r s k first second. elim (stood queues q old got new n key rows above p m k first) as (λ _. (p ≡ r) × (m ≡ s)) [
          | inl a ↦ elim (stood queues q old got new n key rows above r s k second) as (λ _. (p ≡ r) × (m ≡ s)) [
            | inl b ↦ kept.once p m r s k a b
            | inr b ↦ absurd (apart p m k a b.2)
          ]
          | inr a ↦ elim (stood queues q old got new n key rows above r s k second) as (λ _. (p ≡ r) × (m ≡ s)) [
            | inl b ↦ absurd (apart r s k b a.2)
            | inr b ↦ (a.0 ∙ sym b.0, a.1 ∙ sym b.1)
          ]
        ];
        all = omega (arith, more, kept.all, count_more queues q old got new n key rows above);
      }

      -- the keys that a queue has stand for the same items
      pub pushed_apart : (p : ℕ) → rows_of slots' (keys_at queues p) ≡ rows_of slots (keys_at queues p)
      pushed_apart p = rows_same slots slots' (keys_at queues p) (all_found (λ m k. item_of slots' k ≡ item_of slots k) (keys_at queues p) (kept.rising p) (λ m k stands. others k (apart p m k stands)))

      pub pushed_rows : rows_of slots' new.rows ≡ rows_of slots old.rows ++ (n, x) ∷ []
      pushed_rows =
          ap (rows_of slots') rows ∙ pushed_in slots' n key old.rows
          ∙ ap (λ (rs : List (ℕ × T)). rs ++ row_if n (item_of slots' key)) (ap (rows_of slots') (sym (was queues q old got)) ∙ pushed_apart q ∙ ap (rows_of slots) (was queues q old got))
          ∙ ap (λ (o : Option T). rows_of slots old.rows ++ row_if n o) changed

    -- ---- the key of a number
    module _ (n key : ℕ) (found : item_at old.rows n ≡ Some key) where
      -- nothing else stands there
      alone : (p m k : ℕ) → Stands queues p m k → ((p ≡ q) → (m ≡ n) → ⊥) → k ≡ key → ⊥
      alone p m k stands other e =
          let both = kept.once p m q n key (ap (λ (rs : List (ℕ × ℕ)). item_at rs m) refl ∙ stands ∙ ap (λ (i : ℕ). Some i) e) (stands_here n key found) in
          other both.0 both.1

      pub item_is : item_at (rows_of slots old.rows) n ≡ item_of slots key
      item_is = item_in slots old.rows n all_there ∙ ap (item_or slots) found

      -- ---- an item less
      module _ (new : SlotList ℕ) (rows : new.rows ≡ remove_entry (is_number n) old.rows) where
        gone : (p m k : ℕ) → Stands (set queues q new) p m k → k ≡ key → ⊥
        gone p m k stands = let before = left queues q old got new n rows rising_here p m k stands in alone p m k before.0 before.1

        module _ (slots' : List (Option T)) (others : (k : ℕ) → (k ≡ key → ⊥) → item_of slots' k ≡ item_of slots k) where
          pub kept_taken : count_by is_some slots' + 1 ≡ count_by is_some slots → AreKept slots' (set queues q new)
          kept_taken less = record {
            rising = rising_less queues q old got new n rows rising_here kept.rising;
            there = λ p m k stands. subst (λ (o : Option T). IsSome o) (sym (others k (gone p m k stands))) (kept.there p m k (left queues q old got new n rows rising_here p m k stands).0);
            once = λ p m r s k first second. kept.once p m r s k (left queues q old got new n rows rising_here p m k first).0 (left queues q old got new n rows rising_here r s k second).0;
            all = omega (arith, less, kept.all, count_less queues q old got new n rows rising_here key found);
          }

          pub taken_rows : rows_of slots' new.rows ≡ remove_entry (is_number n) (rows_of slots old.rows)
          taken_rows =
              rows_same slots slots' new.rows (all_found (λ m k. item_of slots' k ≡ item_of slots k) new.rows (subst (λ (rs : List (ℕ × ℕ)). IsRising rs) (sym rows) (removed_rising n old.rows rising_here))
              (λ m k stands. others k (gone q m k (ap (λ (rs : List (ℕ × ℕ)). item_at rs m) (at_here queues q old got new) ∙ stands))))
              ∙ ap (rows_of slots) rows ∙ removed_in slots n old.rows all_there

          pub taken_apart : (p : ℕ) → (p ≡ q → ⊥) → rows_of slots' (keys_at queues p) ≡ rows_of slots (keys_at queues p)
          taken_apart p ne = rows_same slots slots' (keys_at queues p) (all_found (λ m k. item_of slots' k ≡ item_of slots k) (keys_at queues p) (kept.rising p) (λ m k stands. others k (alone p m k stands (λ e _. ne e))))

        -- ---- and more in another queue
        module _ (to under : ℕ) (there more : SlotList ℕ) (got_there : slice_get (set queues q new) to ≡ Some there) (rows_there : more.rows ≡ there.rows ++ (under, key) ∷ []) (above : IsAbove there.rows under) where
          pub kept_shifted : AreKept slots (set (set queues q new) to more)
          kept_shifted =
              let came = stood (set queues q new) to there got_there more under key rows_there above in
              let stayed = left queues q old got new n rows rising_here in
              let some = kept.there q n key (stands_here n key found) in
              record {
                rising = rising_more (set queues q new) to there got_there more under key rows_there above (rising_less queues q old got new n rows rising_here kept.rising);
                there = λ p m k stands. elim (came p m k stands) as (λ _. IsSome (item_of slots k)) [
                  | inl before ↦ kept.there p m k (stayed p m k before).0
                  | inr now ↦ subst (λ (i : ℕ). IsSome (item_of slots i)) (sym now.2) some
                ];
                once = λ p m r s k first second. elim (came p m k first) as (λ _. (p ≡ r) × (m ≡ s)) [
                  | inl a ↦ elim (came r s k second) as (λ _. (p ≡ r) × (m ≡ s)) [
                    | inl b ↦ kept.once p m r s k (stayed p m k a).0 (stayed r s k b).0
                    | inr b ↦ absurd (gone p m k a b.2)
                  ]
                  | inr a ↦ elim (came r s k second) as (λ _. (p ≡ r) × (m ≡ s)) [
                    | inl b ↦ absurd (gone r s k b a.2)
                    | inr b ↦ (a.0 ∙ sym b.0, a.1 ∙ sym b.1)
                  ]
                ];
                all = omega (arith, kept.all, count_less queues q old got new n rows rising_here key found, count_more (set queues q new) to there got_there more under key rows_there above);
              }

      -- ---- another item there
      module _ (slots' : List (Option T)) (x : T) (changed : item_of slots' key ≡ Some x) (others : (k : ℕ) → (k ≡ key → ⊥) → item_of slots' k ≡ item_of slots k) where
        pub kept_written : count_by is_some slots' ≡ count_by is_some slots → AreKept slots' queues
        kept_written as_many = record {
          rising = kept.rising;
          there = λ p m k stands. elim (cases_eq k key) as (λ _. IsSome (item_of slots' k)) [
            | inl e ↦ subst (λ (o : Option T). IsSome o) (sym (ap (item_of slots') e ∙ changed)) refl
            | inr ne ↦ subst (λ (o : Option T). IsSome o) (sym (others k ne)) (kept.there p m k stands)
          ];
          once = kept.once;
          all = as_many ∙ kept.all;
        }

        pub written_rows : rows_of slots' old.rows ≡ set_value (is_number n) (rows_of slots old.rows) x
        written_rows = written_in slots slots' n key x old.rows rising_here found changed (λ m k stands ne. others k (alone q m k (stands_here m k stands) (λ _ e. ne (sym e)))) all_there

        pub written_apart : (p : ℕ) → (p ≡ q → ⊥) → rows_of slots' (keys_at queues p) ≡ rows_of slots (keys_at queues p)
        written_apart p ne = rows_same slots slots' (keys_at queues p) (all_found (λ m k. item_of slots' k ≡ item_of slots k) (keys_at queues p) (kept.rising p) (λ m k stands. others k (alone p m k stands (λ e _. ne e))))
