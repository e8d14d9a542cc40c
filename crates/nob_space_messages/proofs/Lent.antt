-- Entries to which a reference is lent, one after the other.
use Rattle.std.proofs.Common.{◌≡◌, ℕ, ◌<◌, ◌+◌, ◌-◌, ◌||◌, add-one, Bool, true, false, nat_lt, cond, List, [], ◌∷◌, Option, Some, if◌then◌else◌, refl, sym, ap, ◌∙◌, arith}
use Prim.Native.Nat.{zero, suc}
use Rattle.std.proofs.lemmas.Bool.Decides.{nat_tests}
use Rattle.std.proofs.lemmas.Option.{none-some, same_Some}
use Rattle.std.specs.Map.{set_value}
use Rattle.nob_ids.specs.declared.wire_rep.WireRep.{WireRep}
use Rattle.nob_slots.specs.Slots.{item_at, is_number, IsRising}
use Rattle.nob_space_messages.specs.declared.entry.Entry.{Entry}
use Rattle.nob_space_messages.specs.Waiting.{due_to, due_to_all, granted_message}
use Rattle.nob_space_messages.specs.Lines.{LineList, all_lent, is_standing, items_of, lent_entry, lent_where, link_at, once, stands}
use Rattle.nob_space_messages.proofs.Granted.{granted_still, granted_twice, none_due}
use Rattle.nob_space_messages.proofs.Rows.{changed_as, changed_ext, changed_twice}

pub lent_twice : (rep : WireRep) (e : Entry) → lent_entry rep (lent_entry rep e) ≡ lent_entry rep e
lent_twice rep e =
    let message = granted_twice rep e.message in
    let none = none_due rep e.message in
    let waits : e.waits - due_to rep e.message - due_to rep (granted_message rep e.message) ≡ e.waits - due_to rep e.message = omega (arith, none) in
    λ i. record { message = message i; waits = waits i }

pub lent_still : (rep : WireRep) (e : Entry) → due_to rep e.message ≡ 0 → lent_entry rep e ≡ e
lent_still rep e none =
    let message = granted_still rep e.message none in
    let waits : e.waits - due_to rep e.message ≡ e.waits = omega (arith, none) in
    λ i. record { message = message i; waits = waits i }

pub lent_none : (rep : WireRep) (rows : List (ℕ × Entry)) → rows ≡ lent_where rep (λ s. false) rows
lent_none rep [] = refl
lent_none rep (row ∷ rows) = ap (λ (rs : List (ℕ × Entry)). row ∷ rs) (lent_none rep rows)

-- lent to some, and then to others
pub lent_both : (rep : WireRep) (t u v : ℕ → Bool) (rows : List (ℕ × Entry)) → ((s : ℕ) → (u s || t s) ≡ v s) → lent_where rep u (lent_where rep t rows) ≡ lent_where rep v rows
lent_both rep t u v rows both =
    changed_twice (λ s e. if t s then lent_entry rep e else e) (λ s e. if u s then lent_entry rep e else e) rows
    ∙ changed_ext (λ s e. if u s then lent_entry rep (if t s then lent_entry rep e else e) else (if t s then lent_entry rep e else e)) (λ s e. if v s then lent_entry rep e else e) rows
    (λ s e. one (u s) (t s) e ∙ ap (λ b. if b then lent_entry rep e else e) (both s))
  where
    one : (b c : Bool) (e : Entry) → (if b then lent_entry rep (if c then lent_entry rep e else e) else (if c then lent_entry rep e else e)) ≡ (if b || c then lent_entry rep e else e)
    one true true e = lent_twice rep e
    one true false e = refl
    one false true e = refl
    one false false e = refl

or_same : (b : Bool) → (b || b) ≡ b
or_same true = refl
or_same false = refl

pub lent_again : (rep : WireRep) (t : ℕ → Bool) (rows new : List (ℕ × Entry)) → new ≡ lent_where rep t rows → new ≡ lent_where rep t new
lent_again rep t rows new is = is ∙ sym (lent_both rep t t t rows (λ s. or_same (t s))) ∙ ap (lent_where rep t) (sym is)

some_or : (b : Bool) (n : ℕ) → (b || nat_lt 0 n) ≡ nat_lt 0 ((if b then 1 else 0) + n)
some_or true n = let more : 0 < 1 + n = omega arith in grind (arith, nat_tests, more)
some_or false n = let same : n ≡ 0 + n = omega arith in ap (nat_lt 0) same

pub lent_next : (rep : WireRep) (lines : LineList) (place : ℕ) (standing : Option ℕ) (rows0 rows new : List (ℕ × Entry)) → standing ≡ link_at lines rep place → rows ≡ lent_where rep (λ s. nat_lt 0 (stands lines rep place s)) rows0 → new ≡ lent_where rep (is_standing standing) rows → new ≡ lent_where rep (λ s. nat_lt 0 (stands lines rep (place + 1) s)) rows0
lent_next rep lines place standing rows0 rows new is was now =
    now ∙ ap (lent_where rep (is_standing standing)) was
    ∙ lent_both rep (λ s. nat_lt 0 (stands lines rep place s)) (is_standing standing) (λ s. nat_lt 0 (once standing s + stands lines rep place s)) rows0 (λ s. some_or (is_standing standing s) (stands lines rep place s))
    ∙ ap (λ o. lent_where rep (λ s. nat_lt 0 (once o s + stands lines rep place s)) rows0) is
    ∙ ap (λ n. lent_where rep (λ s. nat_lt 0 (stands lines rep n s)) rows0) (sym (add-one place))

pub lent_all : (rep : WireRep) (lines : LineList) (count : ℕ) (rows : List (ℕ × Entry)) → IsRising rows → ((s : ℕ) (e : Entry) → item_at rows s ≡ Some e → stands lines rep count s ≡ due_to rep e.message) → lent_where rep (λ s. nat_lt 0 (stands lines rep count s)) rows ≡ all_lent rep rows
lent_all rep lines count rows rising lined =
    changed_as (λ s e. if nat_lt 0 (stands lines rep count s) then lent_entry rep e else e) (λ s e. lent_entry rep e) rows rising
    (λ s e found. elim (nat_lt 0 (stands lines rep count s)) as (λ b. nat_lt 0 (stands lines rep count s) ≡ b → (if b then lent_entry rep e else e) ≡ lent_entry rep e) [
      | true ↦ λ t. refl
      | false ↦ λ u.
          let its = lined s e found in
          let zero : stands lines rep count s ≡ 0 = none_below (stands lines rep count s) u in
          sym (lent_still rep e (sym its ∙ zero))
    ] refl)
  where
    none_below : (n : ℕ) → nat_lt 0 n ≡ false → n ≡ 0
    none_below zero h = refl
    none_below (suc n) h = let more : 0 < suc n = omega arith in absurd (grind (arith, nat_tests, more, h))

-- ---- how many are due
pub due_set : (rep : WireRep) (n : ℕ) (rows : List (ℕ × Entry)) (e x : Entry) → item_at rows n ≡ Some e → due_to_all rep (items_of (set_value (is_number n) rows x)) + due_to rep e.message ≡ due_to_all rep (items_of rows) + due_to rep x.message
due_set rep n [] e x found = absurd (none-some e found)
due_set rep n (row ∷ rows) e x found =
    elim (is_number n row.0) as (λ b. cond b (Some row.1) (item_at rows n) ≡ Some e → due_to_all rep (items_of (cond b ((row.0, x) ∷ rows) (row ∷ set_value (is_number n) rows x))) + due_to rep e.message ≡ due_to rep row.1.message + due_to_all rep (items_of rows) + due_to rep x.message) [
      | true ↦ λ h. let same : due_to rep row.1.message ≡ due_to rep e.message = ap (λ (y : Entry). due_to rep y.message) (same_Some row.1 e h) in omega (arith, same)
      | false ↦ λ h. let rest = due_set rep n rows e x h in omega (arith, rest)
    ] found

pub due_lent : (rep : WireRep) (rows : List (ℕ × Entry)) → due_to_all rep (items_of (all_lent rep rows)) ≡ 0
due_lent rep [] = refl
due_lent rep (row ∷ rows) = let one = none_due rep row.1.message in let rest = due_lent rep rows in omega (arith, one, rest)
