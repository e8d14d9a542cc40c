-- What is among the keys of a set after one was put in.
use Rattle.std.proofs.Common.{◌≡◌, ◌||◌, ℕ, Bool, true, false, cond, List, [], ◌∷◌, ◌++◌, refl, sym, ap, subst, ◌∙◌}
use Rattle.std.specs.Prelude.{◌==◌}
use Rattle.std.specs.Cmp.{both_ways}
use Rattle.std.specs.List.{list_any}
use Rattle.std.proofs.lemmas.Bool.{eqb-true, eq-eqb, and_parts}
use Rattle.std.proofs.lemmas.List.Folds.{list_any-append}
use Rattle.indexmap.specs.IndexSet.{insert_key}
use Rattle.nob_ids.specs.Names.{is_same}
use Rattle.nob_ids.specs.declared.wire_rep.WireRep.{WireRep}

or_last : (a b : Bool) → (a || (b || false)) ≡ (b || a)
or_last true true = refl
or_last true false = refl
or_last false true = refl
or_last false false = refl

-- a test of a list and one element more at its end
pub among_last : {K : Type 0} (test : K → Bool) (ks : List K) (k : K) → list_any test (ks ++ k ∷ []) ≡ (test k || list_any test ks)
among_last test ks k = list_any-append test ks (k ∷ []) ∙ or_last (list_any test ks) (test k)

-- a key is among those with one more where it is that one or among the others
pub among_put : {K : Type 0} (eq : K → K → Bool) → ((a b : K) → eq a b ≡ true → a ≡ b) → (q k : K) (ks : List K) → list_any (eq q) (insert_key eq ks k) ≡ (eq q k || list_any (eq q) ks)
among_put eq same q k ks = by (list_any (eq k) ks) refl
  where
    is_there : (t : Bool) → eq q k ≡ t → list_any (eq k) ks ≡ true → list_any (eq q) ks ≡ (eq q k || list_any (eq q) ks)
    is_there true here there = subst (λ x. list_any (eq x) ks ≡ true) (sym (same q k here)) there ∙ sym (ap (λ (b : Bool). b || list_any (eq q) ks) here)
    is_there false other there = sym (ap (λ (b : Bool). b || list_any (eq q) ks) other)

    by : (t : Bool) → list_any (eq k) ks ≡ t → list_any (eq q) (insert_key eq ks k) ≡ (eq q k || list_any (eq q) ks)
    by true there = ap (λ (b : Bool). list_any (eq q) (cond b ks (ks ++ k ∷ []))) there ∙ is_there (eq q k) refl there
    by false none = ap (λ (b : Bool). list_any (eq q) (cond b ks (ks ++ k ∷ []))) none ∙ among_last (eq q) ks k

-- numbers are compared either way
pub equal_swap : (a b : ℕ) → (a == b) ≡ (b == a)
equal_swap a b = both_ways (a == b) (b == a) (λ e. eq-eqb b a (sym (eqb-true a b e))) (λ e. eq-eqb a b (sym (eqb-true b a e)))

-- equal references are one
pub same_rep : (a b : WireRep) → is_same a b ≡ true → a ≡ b
same_rep a b h =
    let parts = and_parts (a.owner == b.owner) (a.index == b.index) h in
    let one : a.owner ≡ b.owner = eqb-true a.owner b.owner parts.0 in
    let two : a.index ≡ b.index = eqb-true a.index b.index parts.1 in
    λ i. record { owner = one i; index = two i }
