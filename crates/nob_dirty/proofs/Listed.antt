-- What rows list, and what a change of one of them makes of that.
use Rattle.std.proofs.Common.{◌≡◌, ◌↔◌, ℕ, ◌+◌, ◌<◌, ◌==◌, ◌&&◌, ◌||◌, Bool, true, false, not, List, [], ◌∷◌, ◌++◌, zero, suc, length, map, filter, cond, Option, Some, None, position, nat_lt, get_or, refl, sym, ap, ◌∙◌, subst, arith}
use Rattle.std.specs.Prelude.{slice_get, slice_set}
use Rattle.std.specs.List.{list_any, position_or_len, IsDistinct, AllByRecursion}
use Rattle.std.specs.BTreeMap.{is_at}
use Rattle.std.specs.Ordering.{nat_cmp}
use mathlib.Core.Bool.{true≢false}
use Rattle.std.proofs.lemmas.Bool.Decides.{Decides-eqb, nat_tests}
use Rattle.std.proofs.lemmas.Cmp.{nat_eq_equiv}
use Rattle.std.proofs.lemmas.Option.{none-some, slice_get-get_or}
use Rattle.std.proofs.lemmas.List.Folds.{list_any-append}
use Rattle.std.proofs.lemmas.List.Quantifiers.{position-Some}
use Rattle.std.proofs.lemmas.Map.Keys.{IsDistinct-cons}
use Rattle.std.proofs.lemmas.Map.Views.{Contains-from_any, list_any-from_Contains}
use Rattle.nob_dirty.specs.declared.rows.Row.{Row}
use Rattle.nob_dirty.specs.Rows.{has, is_row, is_at_row, is_listed, AreApart, listings_of, all_listings, Changes, Begins}
use Rattle.nob_dirty.specs.Sets.{is_of, has_index, lists, IsEmptyAt, AreClients, AreIndexes, LeavesAll, Enters, Leaves}
use Rattle.nob_dirty.proofs.Membership.{empty_there}

-- ---- what rows list

row_flat : (i c client : ℕ) (indexes : List ℕ) → list_any (is_of i c) (listings_of client indexes) ≡ (client == c && has i indexes)
row_flat i c client [] = elim (client == c) as (λ b. false ≡ (b && false)) [ true ↦ refl | false ↦ refl ]
row_flat i c client (k ∷ ks) = rw (row_flat i c client ks) (elim (k == i) as (λ b. ((b && client == c) || (client == c && has i ks)) ≡ (client == c && (b || has i ks))) [
  | true ↦ elim (client == c) as (λ b. (b || (b && has i ks)) ≡ (b && true)) [ true ↦ refl | false ↦ refl ]
  | false ↦ refl
])

pub flat : (i c : ℕ) (rows : List Row) → lists (all_listings rows) i c ≡ list_any (is_listed i c) rows
flat i c [] = refl
flat i c (row ∷ rows) = list_any-append (is_of i c) (listings_of row.client row.indexes) (all_listings rows) ∙ rw (row_flat i c row.client row.indexes, flat i c rows) refl

row_any : (i client : ℕ) (indexes : List ℕ) → list_any (has_index i) (listings_of client indexes) ≡ has i indexes
row_any i client [] = refl
row_any i client (k ∷ ks) = ap (λ b. (k == i) || b) (row_any i client ks)

pub any_flat : (i : ℕ) (rows : List Row) → list_any (has_index i) (all_listings rows) ≡ list_any (is_at_row i) rows
any_flat i [] = refl
any_flat i (row ∷ rows) = list_any-append (has_index i) (listings_of row.client row.indexes) (all_listings rows) ∙ rw (row_any i row.client row.indexes, any_flat i rows) refl

pub empty_rows : (i : ℕ) (rows : List Row) → (not (list_any (is_at_row i) rows) ≡ true) ↔ IsEmptyAt (all_listings rows) i
empty_rows i rows = subst (λ b. (not b ≡ true) ↔ IsEmptyAt (all_listings rows) i) (any_flat i rows) (empty_there i (all_listings rows))

-- ---- rows apart

-- where no row is the client's none lists it
pub none_listed : (i c : ℕ) (rows : List Row) → list_any (is_row c) rows ≡ false → list_any (is_listed i c) rows ≡ false
none_listed i c [] none = refl
none_listed i c (row ∷ rows) none =
    elim (row.client == c) as (λ b. (b || list_any (is_row c) rows) ≡ false → ((b && has i row.indexes) || list_any (is_listed i c) rows) ≡ false) [
      | true ↦ λ t. absurd (true≢false t)
      | false ↦ λ rest. none_listed i c rows rest
    ] none

none_filtered : (c : ℕ) (q : Row → Bool) (rows : List Row) → list_any (is_row c) rows ≡ false → list_any (is_row c) (filter q rows) ≡ false
none_filtered c q [] none = refl
none_filtered c q (row ∷ rows) none =
    elim (row.client == c) as (λ b. (row.client == c) ≡ b → (b || list_any (is_row c) rows) ≡ false → list_any (is_row c) (filter q (row ∷ rows)) ≡ false) [
      | true ↦ λ _ t. absurd (true≢false t)
      | false ↦ λ is rest. elim (q row) as (λ b. list_any (is_row c) (cond b (row ∷ filter q rows) (filter q rows)) ≡ false) [
        | true ↦ rw (is) (none_filtered c q rows rest)
        | false ↦ none_filtered c q rows rest
      ]
    ] refl none

pub apart_filtered : (q : Row → Bool) (rows : List Row) → AreApart rows → AreApart (filter q rows)
apart_filtered q [] apart = tt
apart_filtered q (row ∷ rows) apart = elim (q row) as (λ b. AreApart (cond b (row ∷ filter q rows) (filter q rows))) [
  | true ↦ (none_filtered row.client q rows apart.0, apart_filtered q rows apart.1)
  | false ↦ apart_filtered q rows apart.1
]

none_pushed : (c : ℕ) (rows : List Row) (new : Row) → list_any (is_row c) rows ≡ false → (new.client == c) ≡ false → list_any (is_row c) (rows ++ new ∷ []) ≡ false
none_pushed c rows new none other = list_any-append (is_row c) rows (new ∷ []) ∙ rw (none, other) refl

-- another row isn't the new row's client's
other_head : (row new : Row) (rows : List Row) → list_any (is_row new.client) (row ∷ rows) ≡ false → ((new.client == row.client) ≡ false) × (list_any (is_row new.client) rows ≡ false)
other_head row new rows none = rw (nat_eq_equiv.symm new.client row.client) (elim (row.client == new.client) as (λ b. (b || list_any (is_row new.client) rows) ≡ false → (b ≡ false) × (list_any (is_row new.client) rows ≡ false)) [
  | true ↦ λ t. absurd (true≢false t)
  | false ↦ λ rest. (refl, rest)
] none)

pub apart_pushed : (rows : List Row) (new : Row) → AreApart rows → list_any (is_row new.client) rows ≡ false → AreApart (rows ++ new ∷ [])
apart_pushed [] new apart none = (refl, tt)
apart_pushed (row ∷ rows) new apart none =
    let head = other_head row new rows none in
    (none_pushed row.client rows new apart.0 head.0, apart_pushed rows new apart.1 head.1)

-- ---- the row at a place

nothing_there : {X : Type 0} (x : X) → None ≡ Some x → ⊥
nothing_there x e = none-some x e

abbrev content : {X : Type 0} → X → Option X → X
content d None = d
content d (Some x) = x

some_is : {X : Type 0} (y x : X) → Some y ≡ Some x → y ≡ x
some_is y x e = ap (content y) e

module _ (p : Row → Bool) where
  lt_any : (rows : List Row) → nat_lt (position_or_len p rows) (length rows) ≡ list_any p rows
  lt_any [] = refl
  lt_any (row ∷ rows) =
      let first : nat_lt 0 (suc (length rows)) ≡ true = grind (arith, nat_tests) in
      let later : nat_lt (1 + position_or_len p rows) (suc (length rows)) ≡ nat_lt (position_or_len p rows) (length rows) = grind (arith, nat_tests) in
      elim (p row) as (λ b. nat_lt (cond (not b) (1 + position_or_len p rows) 0) (suc (length rows)) ≡ (b || list_any p rows)) [ true ↦ first | false ↦ later ∙ lt_any rows ]

  pub no_row : (rows : List Row) → position p rows ≡ None → list_any p rows ≡ false
  no_row rows none = sym (lt_any rows)
      ∙ elim (nat_lt (position_or_len p rows) (length rows)) as (λ b. cond b (Some (position_or_len p rows)) None ≡ None → b ≡ false) [ true ↦ λ e. cc | false ↦ λ _. refl ] none

  pub row_there : (rows : List Row) (i : ℕ) → position p rows ≡ Some i → (row : Row) × (i < length rows) × (slice_get rows i ≡ Some row) × (p row ≡ true)
  row_there [] i is = absurd (none-some i is)
  row_there (row ∷ rows) i is =
      let found = position-Some p (row ∷ rows) i row is in
      (get_or (row ∷ rows) i row, found.0, slice_get-get_or (row ∷ rows) i row found.0, found.1)

-- a client whose row stands among these has one among them
among : (rows : List Row) (at : ℕ) (row : Row) → slice_get rows at ≡ Some row → list_any (is_row row.client) rows ≡ true
among [] at row there = absurd (nothing_there row there)
among (r ∷ rows) zero row there = rw (ap (λ (x : Row). x.client) (some_is r row there), nat_eq_equiv.refl row.client) refl
among (r ∷ rows) (suc at) row there = elim (r.client == row.client) as (λ b. (b || list_any (is_row row.client) rows) ≡ true) [ true ↦ refl | false ↦ among rows at row there ]

-- the first row is another client's than one behind it
head_other : (r : Row) (rows : List Row) (at : ℕ) (row : Row) → list_any (is_row r.client) rows ≡ false → slice_get rows at ≡ Some row → (r.client == row.client) ≡ false
head_other r rows at row none there =
    elim (r.client == row.client) as (λ b. (r.client == row.client) ≡ b → b ≡ false) [
      | true ↦ λ is.
          let same : r.client ≡ row.client = (Decides-eqb r.client row.client).0 is in
          absurd (true≢false (sym (among rows at row there) ∙ subst (λ c. list_any (is_row c) rows ≡ false) same none))
      | false ↦ λ _. refl
    ] refl

-- the one row of a client tells where it is listed
pub one_row : (i : ℕ) (rows : List Row) (at : ℕ) (row : Row) → AreApart rows → slice_get rows at ≡ Some row → list_any (is_listed i row.client) rows ≡ has i row.indexes
one_row i [] at row apart there = absurd (nothing_there row there)
one_row i (r ∷ rows) zero row apart there =
    let is : r ≡ row = some_is r row there in
    let rest : list_any (is_listed i row.client) rows ≡ false = none_listed i row.client rows (subst (λ (x : Row). list_any (is_row x.client) rows ≡ false) is apart.0) in
    subst (λ (x : Row). ((x.client == row.client && has i x.indexes) || list_any (is_listed i row.client) rows) ≡ has i row.indexes) (sym is)
    (rw (nat_eq_equiv.refl row.client, rest) (elim (has i row.indexes) as (λ b. (b || false) ≡ b) [ true ↦ refl | false ↦ refl ]))
one_row i (r ∷ rows) (suc at) row apart there = rw (head_other r rows at row apart.0 there) (one_row i rows at row apart.1 there)

-- a change of one row changes nothing of another client
pub others_same : (i c : ℕ) (rows : List Row) (at : ℕ) (row after : Row) → slice_get rows at ≡ Some row → after.client ≡ row.client → (row.client == c) ≡ false → list_any (is_listed i c) (slice_set rows at after) ≡ list_any (is_listed i c) rows
others_same i c [] at row after there same other = refl
others_same i c (r ∷ rows) zero row after there same other =
    let is : r.client ≡ row.client = ap (λ (x : Row). x.client) (some_is r row there) in
    rw (same, is, other) refl
others_same i c (r ∷ rows) (suc at) row after there same other = ap (λ b. is_listed i c r || b) (others_same i c rows at row after there same other)

same_clients : (c : ℕ) (rows : List Row) (at : ℕ) (row after : Row) → slice_get rows at ≡ Some row → after.client ≡ row.client → list_any (is_row c) (slice_set rows at after) ≡ list_any (is_row c) rows
same_clients c [] at row after there same = refl
same_clients c (r ∷ rows) zero row after there same =
    let is : r.client ≡ row.client = ap (λ (x : Row). x.client) (some_is r row there) in
    rw (same, is) refl
same_clients c (r ∷ rows) (suc at) row after there same = ap (λ b. is_row c r || b) (same_clients c rows at row after there same)

pub apart_set : (rows : List Row) (at : ℕ) (row after : Row) → slice_get rows at ≡ Some row → after.client ≡ row.client → AreApart rows → AreApart (slice_set rows at after)
apart_set [] at row after there same apart = tt
apart_set (r ∷ rows) zero row after there same apart =
    let is : r.client ≡ after.client = ap (λ (x : Row). x.client) (some_is r row there) ∙ sym same in
    (subst (λ c. list_any (is_row c) rows ≡ false) is apart.0, apart.1)
apart_set (r ∷ rows) (suc at) row after there same apart = (same_clients r.client rows at row after there same ∙ apart.0, apart_set rows at row after there same apart.1)

there_now : (rows : List Row) (at : ℕ) (row after : Row) → slice_get rows at ≡ Some row → slice_get (slice_set rows at after) at ≡ Some after
there_now [] at row after there = absurd (nothing_there row there)
there_now (r ∷ rows) zero row after there = refl
there_now (r ∷ rows) (suc at) row after there = there_now rows at row after there

-- what a change makes of the pairs
pub changed : (change : ℕ → Bool → Bool) (old new : List Row) (at : ℕ) (row : Row) (i c : ℕ) → slice_get old at ≡ Some row → AreApart old → Changes change old new at → lists (all_listings new) i c ≡ cond (row.client == c) (change i (lists (all_listings old) i c)) (lists (all_listings old) i c)
changed change old new at row i c there apart changes =
    let made = changes row there in
    let after = made.0 in
    let same : after.client ≡ row.client = made.1 in
    let now : list_any (is_listed i c) new ≡ list_any (is_listed i c) (slice_set old at after) = ap (list_any (is_listed i c)) made.3 in
    flat i c new ∙ now ∙ rw (flat i c old) (elim (row.client == c) as (λ b. (row.client == c) ≡ b → list_any (is_listed i c) (slice_set old at after) ≡ cond b (change i (list_any (is_listed i c) old)) (list_any (is_listed i c) old)) [
      | true ↦ λ is.
          let client : row.client ≡ c = (Decides-eqb row.client c).0 is in
          let before : list_any (is_listed i c) old ≡ has i row.indexes = subst (λ d. list_any (is_listed i d) old ≡ has i row.indexes) client (one_row i old at row apart there) in
          let apart_now = apart_set old at row after there same apart in
          let then : list_any (is_listed i after.client) (slice_set old at after) ≡ has i after.indexes = one_row i (slice_set old at after) at after apart_now (there_now old at row after there) in
          subst (λ d. list_any (is_listed i d) (slice_set old at after) ≡ has i after.indexes) (same ∙ client) then ∙ made.2 i ∙ ap (change i) (sym before)
      | false ↦ λ other. others_same i c old at row after there same other
    ] refl)

pub apart_changed : (change : ℕ → Bool → Bool) (old new : List Row) (at : ℕ) (row : Row) → slice_get old at ≡ Some row → AreApart old → Changes change old new at → AreApart new
apart_changed change old new at row there apart changes =
    let made = changes row there in
    subst AreApart (sym made.3) (apart_set old at row made.0 there made.1 apart)

-- ---- what each call makes of the pairs

first_true : (a b : Bool) → (a && b) ≡ true → a ≡ true
first_true true b is = refl
first_true false b is = is

pub entered : (old new : List Row) (at index client : ℕ) → position (is_row client) old ≡ Some at → AreApart old → Changes (λ i had. had || index == i) old new at → Enters (all_listings old) (all_listings new) index client
entered old new at index client place apart changes i c =
    let found = row_there (is_row client) old at place in
    let is : found.0.client ≡ client = (Decides-eqb found.0.client client).0 found.3 in
    changed (λ j had. had || index == j) old new at found.0 i c found.2 apart changes
    ∙ rw is (elim (client == c) as (λ b. cond b (lists (all_listings old) i c || index == i) (lists (all_listings old) i c) ≡ (lists (all_listings old) i c || (index == i && b))) [
      | true ↦ elim (index == i) as (λ b. (lists (all_listings old) i c || b) ≡ (lists (all_listings old) i c || (b && true))) [ true ↦ refl | false ↦ refl ]
      | false ↦ elim (index == i) as (λ b. lists (all_listings old) i c ≡ (lists (all_listings old) i c || (b && false))) [
        | true ↦ elim (lists (all_listings old) i c) as (λ b. b ≡ (b || false)) [ true ↦ refl | false ↦ refl ]
        | false ↦ elim (lists (all_listings old) i c) as (λ b. b ≡ (b || false)) [ true ↦ refl | false ↦ refl ]
      ]
    ])

pub left : (old new : List Row) (at index client : ℕ) → position (is_row client) old ≡ Some at → AreApart old → Changes (λ i had. not (index == i) && had) old new at → Leaves (all_listings old) (all_listings new) index client
left old new at index client place apart changes i c =
    let found = row_there (is_row client) old at place in
    let is : found.0.client ≡ client = (Decides-eqb found.0.client client).0 found.3 in
    changed (λ j had. not (index == j) && had) old new at found.0 i c found.2 apart changes
    ∙ rw is (elim (client == c) as (λ b. cond b (not (index == i) && lists (all_listings old) i c) (lists (all_listings old) i c) ≡ (not (index == i && b) && lists (all_listings old) i c)) [
      | true ↦ elim (index == i) as (λ b. (not b && lists (all_listings old) i c) ≡ (not (b && true) && lists (all_listings old) i c)) [ true ↦ refl | false ↦ refl ]
      | false ↦ elim (index == i) as (λ b. lists (all_listings old) i c ≡ (not (b && false) && lists (all_listings old) i c)) [ true ↦ refl | false ↦ refl ]
    ])

-- a client without a row is listed nowhere
pub unlisted : (rows : List Row) (client i : ℕ) → position (is_row client) rows ≡ None → lists (all_listings rows) i client ≡ false
unlisted rows client i none = flat i client rows ∙ none_listed i client rows (no_row (is_row client) rows none)

pub left_none : (old : List Row) (index client : ℕ) → position (is_row client) old ≡ None → Leaves (all_listings old) (all_listings old) index client
left_none old index client none i c =
    elim (client == c) as (λ b. (client == c) ≡ b → lists (all_listings old) i c ≡ (not (index == i && b) && lists (all_listings old) i c)) [
      | true ↦ λ is.
          let nowhere : lists (all_listings old) i c ≡ false = subst (λ d. lists (all_listings old) i d ≡ false) ((Decides-eqb client c).0 is) (unlisted old client i none) in
          rw nowhere (elim (not (index == i && true)) as (λ b. false ≡ (b && false)) [ true ↦ refl | false ↦ refl ])
      | false ↦ λ _. elim (index == i) as (λ b. lists (all_listings old) i c ≡ (not (b && false) && lists (all_listings old) i c)) [ true ↦ refl | false ↦ refl ]
    ] refl

pub begun : (old new : List Row) (index client : ℕ) → Begins old new index client → Enters (all_listings old) (all_listings new) index client
begun old new index client begins i c =
    let row = begins.0 in
    let one : list_any (is_listed i c) (row ∷ []) ≡ (index == i && client == c) = rw (begins.1, begins.2 i) (elim (client == c) as (λ b. ((b && index == i) || false) ≡ (index == i && b)) [
      | true ↦ elim (index == i) as (λ b. (b || false) ≡ (b && true)) [ true ↦ refl | false ↦ refl ]
      | false ↦ elim (index == i) as (λ b. false ≡ (b && false)) [ true ↦ refl | false ↦ refl ]
    ]) in
    flat i c new ∙ ap (list_any (is_listed i c)) begins.3 ∙ list_any-append (is_listed i c) old (row ∷ []) ∙ rw (one, flat i c old) refl

pub apart_begun : (old new : List Row) (index client : ℕ) → position (is_row client) old ≡ None → AreApart old → Begins old new index client → AreApart new
apart_begun old new index client none apart begins =
    subst AreApart (sym begins.3) (apart_pushed old begins.0 apart (subst (λ c. list_any (is_row c) old ≡ false) (sym begins.1) (no_row (is_row client) old none)))

-- the client of a row that a search found
pub row_is : (client : ℕ) (row : Row) → is_row client row ≡ true → row.client ≡ client
row_is client row found = (Decides-eqb row.client client).0 found

pub emptied : (old new : List Row) (at client : ℕ) → position (is_row client) old ≡ Some at → AreApart old → Changes (λ i had. false) old new at → LeavesAll (all_listings old) (all_listings new) client
emptied old new at client place apart changes i c =
    let found = row_there (is_row client) old at place in
    let is : found.0.client ≡ client = row_is client found.0 found.3 in
    changed (λ j had. false) old new at found.0 i c found.2 apart changes
    ∙ rw is (elim (client == c) as (λ b. cond b false (lists (all_listings old) i c) ≡ (not b && lists (all_listings old) i c)) [ true ↦ refl | false ↦ refl ])

pub emptied_none : (old : List Row) (client : ℕ) → position (is_row client) old ≡ None → LeavesAll (all_listings old) (all_listings old) client
emptied_none old client none i c =
    elim (client == c) as (λ b. (client == c) ≡ b → lists (all_listings old) i c ≡ (not b && lists (all_listings old) i c)) [
      | true ↦ λ is. subst (λ d. lists (all_listings old) i d ≡ false) ((Decides-eqb client c).0 is) (unlisted old client i none)
      | false ↦ λ _. refl
    ] refl

-- ---- what is found

found_rows : (i client : ℕ) (rows : List Row) → list_any (λ c. client == c) (map (λ (row : Row). row.client) (filter (is_at_row i) rows)) ≡ list_any (is_listed i client) rows
found_rows i client [] = refl
found_rows i client (row ∷ rows) =
    elim (has i row.indexes) as (λ b. list_any (λ c. client == c) (map (λ (r : Row). r.client) (cond b (row ∷ filter (is_at_row i) rows) (filter (is_at_row i) rows))) ≡ ((row.client == client && b) || list_any (is_listed i client) rows)) [
      | true ↦ rw (found_rows i client rows, nat_eq_equiv.symm client row.client) (elim (row.client == client) as (λ b. (b || list_any (is_listed i client) rows) ≡ ((b && true) || list_any (is_listed i client) rows)) [ true ↦ refl | false ↦ refl ])
      | false ↦ found_rows i client rows ∙ elim (row.client == client) as (λ b. list_any (is_listed i client) rows ≡ ((b && false) || list_any (is_listed i client) rows)) [ true ↦ refl | false ↦ refl ]
    ]

pub clients_there : (i : ℕ) (rows : List Row) (found : List ℕ) → found ≡ map (λ (row : Row). row.client) (filter (is_at_row i) rows) → AreClients (all_listings rows) i found
clients_there i rows found is client =
    let both : list_any (λ c. client == c) found ≡ lists (all_listings rows) i client = ap (λ (cs : List ℕ). list_any (λ c. client == c) cs) is ∙ found_rows i client rows ∙ sym (flat i client rows) in (
      λ there. sym both ∙ list_any-from_Contains nat_eq_equiv client found there,
      λ listed. Contains-from_any (λ x y same. (Decides-eqb x y).0 same) client found (both ∙ listed),
    )

all_other : (client : ℕ) (i : ℕ) (rows : List Row) → list_any (is_row client) rows ≡ false → AllByRecursion (λ c. (client == c) ≡ false) (map (λ (row : Row). row.client) (filter (is_at_row i) rows))
all_other client i [] none = tt
all_other client i (row ∷ rows) none =
    elim (row.client == client) as (λ b. (row.client == client) ≡ b → (b || list_any (is_row client) rows) ≡ false → AllByRecursion (λ c. (client == c) ≡ false) (map (λ (r : Row). r.client) (filter (is_at_row i) (row ∷ rows)))) [
      | true ↦ λ _ t. absurd (true≢false t)
      | false ↦ λ is rest. elim (has i row.indexes) as (λ b. AllByRecursion (λ c. (client == c) ≡ false) (map (λ (r : Row). r.client) (cond b (row ∷ filter (is_at_row i) rows) (filter (is_at_row i) rows)))) [
        | true ↦ (nat_eq_equiv.symm client row.client ∙ is, all_other client i rows rest)
        | false ↦ all_other client i rows rest
      ]
    ] refl none

distinct_none : IsDistinct {K = ℕ} (λ c d. c == d) []
unfolding IsDistinct
distinct_none = tt

pub clients_distinct : (i : ℕ) (rows : List Row) → AreApart rows → IsDistinct (λ c d. c == d) (map (λ (row : Row). row.client) (filter (is_at_row i) rows))
clients_distinct i [] apart = distinct_none
clients_distinct i (row ∷ rows) apart =
    elim (has i row.indexes) as (λ b. IsDistinct (λ c d. c == d) (map (λ (r : Row). r.client) (cond b (row ∷ filter (is_at_row i) rows) (filter (is_at_row i) rows)))) [
      | true ↦ IsDistinct-cons (λ c d. c == d) row.client _ (all_other row.client i rows apart.0) (clients_distinct i rows apart.1)
      | false ↦ clients_distinct i rows apart.1
    ]

turned : (i : ℕ) (indexes : List ℕ) → list_any (λ k. i == k) indexes ≡ has i indexes
turned i [] = refl
turned i (k ∷ ks) = rw (turned i ks, nat_eq_equiv.symm i k) refl

pub indexes_there : (rows : List Row) (at client : ℕ) (row : Row) → slice_get rows at ≡ Some row → row.client ≡ client → AreApart rows → AreIndexes (all_listings rows) client row.indexes
indexes_there rows at client row there same apart i =
    let both : list_any (λ k. i == k) row.indexes ≡ lists (all_listings rows) i client = turned i row.indexes ∙ sym (one_row i rows at row apart there) ∙ rw same (sym (flat i client rows)) in (
      λ found. sym both ∙ list_any-from_Contains nat_eq_equiv i row.indexes found,
      λ listed. Contains-from_any (λ x y e. (Decides-eqb x y).0 e) i row.indexes (both ∙ listed),
    )

-- of none of these where none is among them
pub no_indexes : (indexes : List ℕ) → ((i : ℕ) → has i indexes ≡ false) → indexes ≡ []
no_indexes [] none = refl
no_indexes (k ∷ ks) none = absurd (true≢false (rw (nat_eq_equiv.refl k) at (none k)))

-- ---- the index looked for among keys in order

at_is : (q k : ℕ) → is_at (nat_cmp q) k ≡ (k == q)
at_is q k = grind (arith, nat_tests)

pub has_key : (q : ℕ) (keys : List ℕ) → list_any (is_at (nat_cmp q)) keys ≡ has q keys
has_key q [] = refl
has_key q (k ∷ keys) = rw (at_is q k, has_key q keys) refl

-- what is left of keys where one is removed
pub left_of : (index i : ℕ) (old new : List ℕ) → list_any (is_at (nat_cmp i)) new ≡ cond (is_at (nat_cmp index) i) false (list_any (is_at (nat_cmp i)) old) → has i new ≡ (not (index == i) && has i old)
left_of index i old new is = sym (has_key i new) ∙ is ∙ rw (at_is index i, has_key i old, nat_eq_equiv.symm i index) (elim (index == i) as (λ b. cond b false (has i old) ≡ (not b && has i old)) [ true ↦ refl | false ↦ refl ])

-- the row that a search found, whatever stands for none
row_found : (rows : List Row) (at client : ℕ) (row : Row) → position (is_row client) rows ≡ Some at → row ≡ get_or rows at row → (slice_get rows at ≡ Some row) × (row.client ≡ client)
row_found rows at client row place is =
    let found = position-Some (is_row client) rows at row place in
    (slice_get-get_or rows at row found.0 ∙ ap Some (sym is), (Decides-eqb row.client client).0 (ap (is_row client) is ∙ found.1))

pub indexes_at : (rows : List Row) (at client : ℕ) (row : Row) → position (is_row client) rows ≡ Some at → row ≡ get_or rows at row → AreApart rows → AreIndexes (all_listings rows) client row.indexes
indexes_at rows at client row place is apart =
    let found = row_found rows at client row place is in
    indexes_there rows at client row found.0 found.1 apart

pub no_indexes_at : (rows : List Row) (at client : ℕ) (row : Row) → position (is_row client) rows ≡ Some at → AreApart rows → row ≡ get_or rows at row → ((i : ℕ) → lists (all_listings rows) i client ≡ false) → row.indexes ≡ []
no_indexes_at rows at client row place apart is nowhere =
    let found = row_found rows at client row place is in
    no_indexes row.indexes (λ i. sym (one_row i rows at row apart found.0) ∙ ap (λ c. list_any (is_listed i c) rows) found.1 ∙ sym (flat i client rows) ∙ nowhere i)

pub indexes_nowhere : (rows : List Row) (client : ℕ) → position (is_row client) rows ≡ None → AreIndexes (all_listings rows) client []
indexes_nowhere rows client none i = (
  λ there. absurd (true≢false (sym (list_any-from_Contains nat_eq_equiv i [] there))),
  λ listed. absurd (true≢false (sym listed ∙ unlisted rows client i none)),
)
