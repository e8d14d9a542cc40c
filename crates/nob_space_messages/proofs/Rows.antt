-- Entries of which some are changed.
use Rattle.std.proofs.Common.{◌≡◌, ℕ, ◌+◌, ◌-◌, ◌<◌, ◌==◌, true, false, cond, List, [], ◌∷◌, map, Option, Some, None, IsSome, MatchOption, refl, sym, ap, subst, ◌∙◌, arith, if◌then◌else◌, eqb-true, true≢false}
use Rattle.std.proofs.lemmas.Cmp.{nat_eq_equiv}
use Rattle.std.proofs.lemmas.Map.{lookup-set_value}
use Rattle.std.proofs.lemmas.Option.{none-some, same_Some}
use Rattle.std.specs.List.{AllByRecursion}
use Rattle.std.specs.Map.{set_value}
use Rattle.std.specs.Option.{option_map}
use Rattle.nob_model_types.specs.declared.message.Message.{Message}
use Rattle.nob_slots.specs.Slots.{item_at, is_number, is_marked, IsAbove, IsRising, PutsMark}
use Rattle.nob_space_messages.specs.declared.entry.Entry.{Entry}
use Rattle.nob_space_messages.specs.Waiting.{granted_message}
use Rattle.nob_space_messages.specs.Lines.{all_lent, changed, items_of, lowered, lowered_entry, once, AreMarked}

pub lower_unlike : (n s : ℕ) → n < s → is_number n s ≡ false
lower_unlike n s less = elim (is_number n s) as (λ b. is_number n s ≡ b → b ≡ false) [ true ↦ λ t. let same : n ≡ s = eqb-true n s t in absurd (omega (arith, same, less)) | false ↦ λ u. refl ] refl

-- what is found stands above what all stand above
pub found_above : {X : Type 0} (n s : ℕ) (x : X) (rows : List (ℕ × X)) → AllByRecursion (λ row. n < row.0) rows → item_at rows s ≡ Some x → n < s
found_above n s x [] all found = absurd (none-some x found)
found_above n s x (row ∷ rows) all found =
    elim (is_number s row.0) as (λ b. is_number s row.0 ≡ b → cond b (Some row.1) (item_at rows s) ≡ Some x → n < s) [
      | true ↦ λ t h. let same : s ≡ row.0 = eqb-true s row.0 t in omega (arith, same, all.0)
      | false ↦ λ u h. found_above n s x rows all.1 h
    ] refl found

pub found_behind : {X : Type 0} (row : ℕ × X) (rows : List (ℕ × X)) (s : ℕ) (x : X) → AllByRecursion (λ other. row.0 < other.0) rows → item_at rows s ≡ Some x → item_at (row ∷ rows) s ≡ Some x
found_behind row rows s x all found =
    let u : is_number s row.0 ≡ false = nat_eq_equiv.symm s row.0 ∙ lower_unlike row.0 s (found_above row.0 s x rows all found) in
    rw u found

-- what is found stands below what all stand below
pub found_below : {X : Type 0} (n s : ℕ) (x : X) (rows : List (ℕ × X)) → IsAbove rows n → item_at rows s ≡ Some x → s < n
found_below n s x [] all found = absurd (none-some x found)
found_below n s x (row ∷ rows) all found =
    elim (is_number s row.0) as (λ b. is_number s row.0 ≡ b → cond b (Some row.1) (item_at rows s) ≡ Some x → s < n) [
      | true ↦ λ t h. let same : s ≡ row.0 = eqb-true s row.0 t in omega (arith, same, all.0)
      | false ↦ λ u h. found_below n s x rows all.1 h
    ] refl found

-- ---- changed entries
module _ (g : ℕ → Entry → Entry) where
  changed_above : (n : ℕ) (rows : List (ℕ × Entry)) → AllByRecursion (λ row. n < row.0) rows → AllByRecursion (λ row. n < row.0) (changed g rows)
  changed_above n [] all = tt
  changed_above n (row ∷ rows) all = (all.0, changed_above n rows all.1)

  pub changed_below : (n : ℕ) (rows : List (ℕ × Entry)) → IsAbove rows n → IsAbove (changed g rows) n
  changed_below n [] all = tt
  changed_below n (row ∷ rows) all = (all.0, changed_below n rows all.1)

  pub changed_rising : (rows : List (ℕ × Entry)) → IsRising rows → IsRising (changed g rows)
  changed_rising [] rising = tt
  changed_rising (row ∷ rows) rising = (changed_above row.0 rows rising.0, changed_rising rows rising.1)

  pub changed_at : (rows : List (ℕ × Entry)) (s : ℕ) → item_at (changed g rows) s ≡ option_map (g s) (item_at rows s)
  changed_at [] s = refl
  changed_at (row ∷ rows) s =
      elim (is_number s row.0) as (λ b. is_number s row.0 ≡ b → cond b (Some (g row.0 row.1)) (item_at (changed g rows) s) ≡ option_map (g s) (cond b (Some row.1) (item_at rows s))) [
        | true ↦ λ t. ap (λ (k : ℕ). Some (g k row.1)) (sym (eqb-true s row.0 t))
        | false ↦ λ u. changed_at rows s
      ] refl

  pub changed_twice : (h : ℕ → Entry → Entry) (rows : List (ℕ × Entry)) → changed h (changed g rows) ≡ changed (λ s e. h s (g s e)) rows
  changed_twice h [] = refl
  changed_twice h (row ∷ rows) = ap (λ (rs : List (ℕ × Entry)). (row.0, h row.0 (g row.0 row.1)) ∷ rs) (changed_twice h rows)

  pub changed_ext : (h : ℕ → Entry → Entry) (rows : List (ℕ × Entry)) → ((s : ℕ) (e : Entry) → g s e ≡ h s e) → changed g rows ≡ changed h rows
  changed_ext h [] same = refl
  changed_ext h (row ∷ rows) same = λ i. (row.0, same row.0 row.1 i) ∷ changed_ext h rows same i

  pub changed_as : (h : ℕ → Entry → Entry) (rows : List (ℕ × Entry)) → IsRising rows → ((s : ℕ) (e : Entry) → item_at rows s ≡ Some e → g s e ≡ h s e) → changed g rows ≡ changed h rows
  changed_as h [] rising same = refl
  changed_as h (row ∷ rows) rising same =
      let first : g row.0 row.1 ≡ h row.0 row.1 = same row.0 row.1 (rw (nat_eq_equiv.refl row.0) refl) in
      let rest = changed_as h rows rising.1 (λ s e found. same s e (found_behind row rows s e rising.0 found)) in
      λ i. (row.0, first i) ∷ rest i

  pub changed_items : (rows : List (ℕ × Entry)) → ((s : ℕ) (e : Entry) → (g s e).message ≡ e.message) → items_of (changed g rows) ≡ items_of rows
  changed_items [] same = refl
  changed_items (row ∷ rows) same = λ i. same row.0 row.1 i ∷ changed_items rows same i

-- of each entry found in the changed ones there is one that was
pub changed_found : (g : ℕ → Entry → Entry) (rows : List (ℕ × Entry)) (s : ℕ) (e : Entry) → item_at (changed g rows) s ≡ Some e → (was : Entry) × (item_at rows s ≡ Some was) × (e ≡ g s was)
changed_found g rows s e found =
    elim (item_at rows s) as (λ o. option_map (g s) o ≡ Some e → (was : Entry) × (o ≡ Some was) × (e ≡ g s was)) [
      | None ↦ λ h. absurd (none-some e h)
      | Some was ↦ λ h. (was, refl, sym (same_Some (g s was) e h))
    ] (sym (changed_at g rows s) ∙ found)

pub lent_items : (rep : _) (rows : List (ℕ × Entry)) → items_of (all_lent rep rows) ≡ map (granted_message rep) (items_of rows)
lent_items rep [] = refl
lent_items rep (row ∷ rows) = ap (λ (ms : List Message). granted_message rep row.1.message ∷ ms) (lent_items rep rows)

-- ---- the entry of one stamp
abbrev pub at_stamp : ℕ → (Entry → Entry) → ℕ → Entry → Entry
at_stamp n g s e = if is_number n s then g e else e

module _ (n : ℕ) (g : Entry → Entry) where
  changed_none : (rows : List (ℕ × Entry)) → AllByRecursion (λ row. n < row.0) rows → rows ≡ changed (at_stamp n g) rows
  changed_none [] all = refl
  changed_none (row ∷ rows) all =
      let u : is_number n row.0 ≡ false = lower_unlike n row.0 all.0 in
      rw u (ap (λ (rs : List (ℕ × Entry)). row ∷ rs) (changed_none rows all.1))

  pub changed_absent : (rows : List (ℕ × Entry)) → item_at rows n ≡ None → rows ≡ changed (at_stamp n g) rows
  changed_absent [] absent = refl
  changed_absent (row ∷ rows) absent =
      elim (is_number n row.0) as (λ b. cond b (Some row.1) (item_at rows n) ≡ None → row ∷ rows ≡ (row.0, if b then g row.1 else row.1) ∷ changed (at_stamp n g) rows) [
        | true ↦ λ h. absurd (none-some row.1 (sym h))
        | false ↦ λ h. ap (λ (rs : List (ℕ × Entry)). row ∷ rs) (changed_absent rows h)
      ] absent

  pub set_changed : (rows : List (ℕ × Entry)) (e : Entry) → IsRising rows → item_at rows n ≡ Some e → set_value (is_number n) rows (g e) ≡ changed (at_stamp n g) rows
  set_changed [] e rising found = absurd (none-some e found)
  set_changed (row ∷ rows) e rising found =
      elim (is_number n row.0) as (λ b. is_number n row.0 ≡ b → cond b (Some row.1) (item_at rows n) ≡ Some e → cond b ((row.0, g e) ∷ rows) (row ∷ set_value (is_number n) rows (g e)) ≡ (row.0, if b then g row.1 else row.1) ∷ changed (at_stamp n g) rows) [
        | true ↦ λ t h.
            let same : n ≡ row.0 = eqb-true n row.0 t in
            let none = changed_none rows (subst (λ (k : ℕ). AllByRecursion (λ other. k < other.0) rows) (sym same) rising.0) in
            let it : e ≡ row.1 = sym (same_Some row.1 e h) in λ i. (row.0, g (it i)) ∷ none i
        | false ↦ λ u h. ap (λ (rs : List (ℕ × Entry)). row ∷ rs) (set_changed rows e rising.1 h)
      ] refl found

-- ---- entries that wait for less
pub lowered_zero : (e : Entry) → e ≡ lowered_entry 0 e
lowered_zero e = let same : e.waits ≡ e.waits - 0 = omega arith in λ i. record { message = e.message; waits = same i }

pub lowered_none : (rows : List (ℕ × Entry)) → rows ≡ lowered (λ s. 0) rows
lowered_none [] = refl
lowered_none (row ∷ rows) = λ i. (row.0, lowered_zero row.1 i) ∷ lowered_none rows i

pub lowered_once : (n : ℕ) (rows : List (ℕ × Entry)) → changed (at_stamp n (lowered_entry 1)) rows ≡ lowered (once (Some n)) rows
lowered_once n rows = changed_ext (at_stamp n (lowered_entry 1)) (λ s e. lowered_entry (once (Some n) s) e) rows
    (λ s e. elim (is_number n s) as (λ b. (if b then lowered_entry 1 e else e) ≡ lowered_entry (if b then 1 else 0) e) [ true ↦ refl | false ↦ lowered_zero e ])

pub lowered_both : (f g h : ℕ → ℕ) (rows : List (ℕ × Entry)) → ((s : ℕ) → g s + f s ≡ h s) → lowered g (lowered f rows) ≡ lowered h rows
lowered_both f g h rows sums =
    changed_twice (λ s e. lowered_entry (f s) e) (λ s e. lowered_entry (g s) e) rows
    ∙ changed_ext (λ s e. lowered_entry (g s) (lowered_entry (f s) e)) (λ s e. lowered_entry (h s) e) rows
    (λ s e. let sum = sums s in let less : e.waits - f s - g s ≡ e.waits - h s = omega (arith, sum) in λ i. record { message = e.message; waits = less i })

-- ---- the marks
one_stamp : (n x y : ℕ) → is_number n x ≡ true → is_number n y ≡ is_number x y
one_stamp n x y t = ap (λ (k : ℕ). is_number k y) (eqb-true n x t)

pub at_set : (n : ℕ) (rows : List (ℕ × Entry)) (e : Entry) (s : ℕ) → IsSome (item_at rows n) → item_at (set_value (is_number n) rows e) s ≡ cond (is_number n s) (Some e) (item_at rows s)
at_set n rows e s some = lookup-set_value {eq = is_number} nat_eq_equiv (is_number n) (one_stamp n) s e rows some

pub marked_set : (n : ℕ) (rows new : List (ℕ × Entry)) (marked marks : List ℕ) (e : Entry) → IsSome (item_at rows n) → new ≡ set_value (is_number n) rows e → PutsMark marked marks n (e.waits == 0) → AreMarked rows marked → AreMarked new marks
marked_set n rows new marked marks e some is puts are s x found =
    let there : cond (is_number n s) (Some e) (item_at rows s) ≡ Some x = sym (at_set n rows e s some) ∙ sym (ap (λ (rs : List (ℕ × Entry)). item_at rs s) is) ∙ found in
    puts s ∙ elim (is_number n s) as (λ b. cond b (Some e) (item_at rows s) ≡ Some x → (if b then e.waits == 0 else is_marked marked s) ≡ (x.waits == 0)) [
      | true ↦ λ h. ap (λ (y : Entry). y.waits == 0) (same_Some e x h)
      | false ↦ λ h. are s x h
    ] there

pub some_set : (n : ℕ) (rows new : List (ℕ × Entry)) (e : Entry) → IsSome (item_at rows n) → new ≡ set_value (is_number n) rows e → IsSome (item_at new n)
some_set n rows new e some is =
    let there : item_at new n ≡ Some e = ap (λ (rs : List (ℕ × Entry)). item_at rs n) is ∙ at_set n rows e n some ∙ ap (λ b. cond b (Some e) (item_at rows n)) (nat_eq_equiv.refl n) in
    subst IsSome (sym there) refl

pub set_twice : (n : ℕ) (rows : List (ℕ × Entry)) (a b : Entry) → set_value (is_number n) (set_value (is_number n) rows a) b ≡ set_value (is_number n) rows b
set_twice n [] a b = refl
set_twice n (row ∷ rows) a b =
    elim (is_number n row.0) as (λ t. is_number n row.0 ≡ t → set_value (is_number n) (cond t ((row.0, a) ∷ rows) (row ∷ set_value (is_number n) rows a)) b ≡ cond t ((row.0, b) ∷ rows) (row ∷ set_value (is_number n) rows b)) [
      | true ↦ λ t. rw t refl
      | false ↦ λ u. rw u (ap (λ (rs : List (ℕ × Entry)). row ∷ rs) (set_twice n rows a b))
    ] refl

pub lift_left : (n : ℕ) (o : Option Entry) (rows new : List (ℕ × Entry)) (e : Entry) → o ≡ item_at rows n → IsSome (item_at rows n) → new ≡ set_value (is_number n) rows e → MatchOption o (new ≡ rows) (λ _. IsSome (item_at new n))
lift_left n o rows new e is some set =
    elim o as (λ o. o ≡ item_at rows n → MatchOption o (new ≡ rows) (λ _. IsSome (item_at new n))) [
      | None ↦ λ h. let none : IsSome {T = Entry} None = subst (λ x. IsSome {T = Entry} x) (sym h) some in absurd (true≢false (sym none))
      | Some x ↦ λ h. some_set n rows new e some set
    ] is

pub left_same : (n : ℕ) (o : Option Entry) (rows new : List (ℕ × Entry)) → o ≡ None → MatchOption o (new ≡ rows) (λ _. IsSome (item_at new n)) → new ≡ rows
left_same n o rows new none left = subst (λ o. MatchOption o (new ≡ rows) (λ _. IsSome (item_at new n))) none left

pub left_there : (n : ℕ) (o : Option Entry) (e : Entry) (rows new : List (ℕ × Entry)) → o ≡ Some e → MatchOption o (new ≡ rows) (λ _. IsSome (item_at new n)) → IsSome (item_at new n)
left_there n o e rows new is left = subst (λ o. MatchOption o (new ≡ rows) (λ _. IsSome (item_at new n))) is left

pub lifted_some : (rows : List (ℕ × Entry)) (n : ℕ) (o : Option Entry) (e : Entry) → o ≡ item_at rows n → o ≡ Some e → IsSome (item_at rows n)
lifted_some rows n o e is some = subst IsSome (sym (sym is ∙ some)) refl

pub marked_put : (n : ℕ) (rows new : List (ℕ × Entry)) (marked mid marks : List ℕ) (e : Entry) (waits : ℕ) → IsSome (item_at rows n) → new ≡ set_value (is_number n) rows e → mid ≡ marked → waits ≡ e.waits → PutsMark mid marks n (waits == 0) → AreMarked rows marked → AreMarked new marks
marked_put n rows new marked mid marks e waits some is same less puts are =
    marked_set n rows new marked marks e some is (subst (λ m. PutsMark m marks n (e.waits == 0)) same (subst (λ w. PutsMark mid marks n (w == 0)) less puts)) are
