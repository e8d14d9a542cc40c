-- The table's entries, and the names in them, change alike.
use Rattle.std.proofs.Common.{◌≡◌, ℕ, ◌+◌, Bool, true, false, List, [], ◌∷◌, length, Option, Some, None, refl, sym, ap, cond, arith}
use Rattle.std.proofs.lemmas.Bool.Decides.{nat_tests}
use Rattle.std.specs.Prelude.{◌≤◌, ◌&&◌, not, nat_le, is_some, if◌then◌else◌}
use Rattle.std.specs.Prelude.{Vec}
use Rattle.std.specs.declared.alloc.Global.{Global}
use Rattle.std.proofs.lemmas.Option.{none-some}
use Prim.Native.Nat.{suc}
use Rattle.std.specs.declared.cmp.Ordering.TheVariants.{Less, Equal, Greater}
use Rattle.std.specs.Ordering.{match_ordering}
use Rattle.std.specs.Map.{lookup, remove_entry}
use Rattle.std.specs.BTreeMap.{insert_entry}
use Rattle.nob_ids.specs.declared.wire_rep.WireRep.{WireRep}
use Rattle.nob_dispatch_objects.specs.Names.{reference_of, with_name, without_name, same_name, order_of_names}
use Rattle.nob_dispatch_objects.specs.Entries.{by_bytes}

-- entries whose keys are vectors
abbrev Entries : Type 0
Entries = List (Vec ℕ Global × WireRep)

pub length_by_bytes : (es : Entries) → length (by_bytes es) ≡ length es
length_by_bytes [] = refl
length_by_bytes (e ∷ es) = ap suc (length_by_bytes es)

pub lookup_by_bytes : (name : List ℕ) (es : Entries) → lookup (λ (k : Vec ℕ Global). same_name name k.items) es ≡ reference_of name (by_bytes es)
lookup_by_bytes name [] = refl
lookup_by_bytes name (e ∷ es) = ap (λ (r : Option WireRep). cond (same_name name e.0.items) (Some e.1) r) (lookup_by_bytes name es)

pub insert_by_bytes : (key : Vec ℕ Global) (rep : WireRep) (es : Entries) → by_bytes (insert_entry (λ x y. order_of_names x.items y.items) es key rep) ≡ with_name key.items rep (by_bytes es)
insert_by_bytes key rep [] = refl
insert_by_bytes key rep (e ∷ es) =
    elim (order_of_names key.items e.0.items) as (λ r. by_bytes (match_ordering r ((key, rep) ∷ e ∷ es) ((e.0, rep) ∷ es) (e ∷ insert_entry (λ x y. order_of_names x.items y.items) es key rep)) ≡ match_ordering r ((key.items, rep) ∷ by_bytes (e ∷ es)) ((e.0.items, rep) ∷ by_bytes es) ((e.0.items, e.1) ∷ with_name key.items rep (by_bytes es))) [
      | Less ↦ refl
      | Equal ↦ refl
      | Greater ↦ ap (λ (xs : List (List ℕ × WireRep)). (e.0.items, e.1) ∷ xs) (insert_by_bytes key rep es)
    ]

pub remove_by_bytes : (name : List ℕ) (es : Entries) → by_bytes (remove_entry (λ (k : Vec ℕ Global). same_name name k.items) es) ≡ without_name name (by_bytes es)
remove_by_bytes name [] = refl
remove_by_bytes name (e ∷ es) =
    elim (same_name name e.0.items) as (λ b. by_bytes (cond b es (e ∷ remove_entry (λ (k : Vec ℕ Global). same_name name k.items) es)) ≡ cond b (by_bytes es) ((e.0.items, e.1) ∷ without_name name (by_bytes es))) [
      | true ↦ refl
      | false ↦ ap (λ (xs : List (List ℕ × WireRep)). (e.0.items, e.1) ∷ xs) (remove_by_bytes name es)
    ]

pub few_left : (before : Option WireRep) (old new most : ℕ) (is_full : Bool) → old ≤ most → is_full ≡ (nat_le most old && not (is_some before)) → is_full ≡ false → new ≡ old + (if is_some before then 0 else 1) → new ≤ most
few_left before old new most is_full few full none len =
    elim (is_some before) as (λ b. is_full ≡ (nat_le most old && not b) → new ≡ old + (if b then 0 else 1) → new ≤ most) [
      | true ↦ λ full len. omega (arith, len, few)
      | false ↦ λ full len. grind (arith, nat_tests)
    ] full len

-- a name that isn't there is taken out of nothing
pub without_none : (name : List ℕ) (table : List (List ℕ × WireRep)) → reference_of name table ≡ None → without_name name table ≡ table
without_none name [] none = refl
without_none name (e ∷ es) none =
    elim (same_name name e.0) as (λ b. cond b (Some e.1) (reference_of name es) ≡ None → cond b es (e ∷ without_name name es) ≡ e ∷ es) [
      | true ↦ λ some. absurd (none-some e.1 (sym some))
      | false ↦ λ none. ap (λ (xs : List (List ℕ × WireRep)). e ∷ xs) (without_none name es none)
    ] none
