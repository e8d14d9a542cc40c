-- Which objects were exported and which are live, by one deed more.
use Rattle.std.proofs.Common.{◌≡◌, ℕ, zero, suc, ◌+◌, ◌≤◌, ◌<◌, ◌&&◌, ◌||◌, not, Bool, true, false, cond, List, [], ◌∷◌, ◌++◌, length, filter, refl, sym, ap, subst, ◌∙◌, arith}
use Rattle.std.specs.Prelude.{◌==◌, nat_le}
use Rattle.std.specs.List.{list_any}
use Rattle.std.proofs.lemmas.List.{append-nil, length_push}
use Rattle.std.proofs.lemmas.List.Elements.{filter-append}
use Rattle.std.proofs.lemmas.List.Filters.{length-filter_both}
use Rattle.std.proofs.lemmas.Bool.{eqb-true, eqb-false, eq-eqb, ne_eqb, and_parts, leb-true, leb-false, false_from_ne_true}
use Rattle.std.proofs.lemmas.Bool.Decides.{nat_tests}
use Rattle.nob_ids.specs.Names.{is_same}
use Rattle.nob_ids.specs.declared.wire_rep.WireRep.{WireRep}
use Rattle.nob_model_types.specs.declared.deed.Deed.{Deed}
use Rattle.nob_model_types.specs.declared.deed.Deed.TheVariants as did
use Rattle.nob_model_types.specs.Objects.{exports, is_exported, is_withdrawn, is_live, live}
use Rattle.nob_model_history.specs.Premises.{ObjectsInTurn}
use Rattle.nob_model_history.proofs.Pinning.{filter_and, filter_same}

-- the references to the objects of space s with the indexes 1, 2, .. up to a number
abbrev pub refs_up_to : (s count : ℕ) → List WireRep
refs_up_to s zero = []
refs_up_to s (suc k) = refs_up_to s k ++ record { owner = s; index = suc k } ∷ []

-- the reference to the object of an index of space s
abbrev pub ref_of : (s index : ℕ) → WireRep
ref_of s index = record { owner = s; index = index }

length_up_to : (s count : ℕ) → length (refs_up_to s count) ≡ count
length_up_to s zero = refl
length_up_to s (suc k) = length_push (refs_up_to s k) _ ∙ ap (λ (m : ℕ). m + 1) (length_up_to s k) ∙ (let same : k + 1 ≡ suc k = omega arith in same)

up_to_next : (s k : ℕ) → refs_up_to s k ++ ref_of s (k + 1) ∷ [] ≡ refs_up_to s (k + 1)
up_to_next s k = let same : suc k ≡ k + 1 = omega arith in ap (λ (index : ℕ). refs_up_to s k ++ ref_of s index ∷ []) (sym same) ∙ ap (refs_up_to s) same

-- the exports are the references 1, 2, .. in order
pub exports_are : (s : ℕ) (D : List Deed) → ObjectsInTurn s D → exports D ≡ refs_up_to s (length (exports D))
exports_are s [] turn = refl
exports_are s (did.Export rep ∷ D) turn =
    ap (λ (r : WireRep). exports D ++ r ∷ []) turn.0
    ∙ ap (λ (reps : List WireRep). reps ++ ref_of s (length (exports D) + 1) ∷ []) (exports_are s D turn.1)
    ∙ up_to_next s (length (exports D))
    ∙ ap (refs_up_to s) (sym (length_push (exports D) rep))
exports_are s (did.Withdraw index ∷ D) turn = exports_are s D turn.1
exports_are s (deed ∷ D) turn = exports_are s D turn

or_false : (b : Bool) → (b || false) ≡ b
or_false true = refl
or_false false = refl

or_or : (a b c : Bool) → (a || (b || c)) ≡ ((a || b) || c)
or_or true b c = refl
or_or false b c = refl

any_push : {A : Type 0} (test : A → Bool) (y : A) (xs : List A) → list_any test (xs ++ y ∷ []) ≡ (list_any test xs || test y)
any_push test y [] = or_false (test y)
any_push test y (x ∷ xs) = ap (λ (b : Bool). test x || b) (any_push test y xs) ∙ or_or (test x) (list_any test xs) (test y)

none_up_to : (x : ℕ) → false ≡ (nat_le 1 x && nat_le x 0)
none_up_to x = grind (arith, nat_tests)

one_up_to : (x k : ℕ) → ((nat_le 1 x && nat_le x k) || (true && x == suc k)) ≡ (nat_le 1 x && nat_le x (suc k))
one_up_to x k = grind (arith, nat_tests)

any_up_to : (s x count : ℕ) → list_any (is_same (record { owner = s; index = x })) (refs_up_to s count) ≡ (nat_le 1 x && nat_le x count)
any_up_to s x zero = none_up_to x
any_up_to s x (suc k) =
    any_push (is_same (ref_of s x)) (ref_of s (suc k)) (refs_up_to s k)
    ∙ ap (λ (b : Bool). b || (s == s && x == suc k)) (any_up_to s x k)
    ∙ ap (λ (b : Bool). (nat_le 1 x && nat_le x k) || (b && x == suc k)) (eq-eqb s s refl)
    ∙ one_up_to x k

-- an index was exported if it is at least 1 and no greater than the number of exports
pub exported_are : (s x : ℕ) (D : List Deed) → ObjectsInTurn s D → is_exported s x D ≡ (nat_le 1 x && nat_le x (length (exports D)))
exported_are s x D turn = ap (list_any (is_same (record { owner = s; index = x }))) (exports_are s D turn) ∙ any_up_to s x (length (exports D))

-- ---- live objects

withdrawn_now : (s x index : ℕ) (D : List Deed) → is_live s index D ≡ true → ObjectsInTurn s D → (is_withdrawn x D ≡ true → x ≤ length (exports D)) → (now earlier : Bool) → (index == x) ≡ now → is_withdrawn x D ≡ earlier → (now || earlier) ≡ true → x ≤ length (exports D)
withdrawn_now s x index D alive turn before true earlier is was either =
    let exported = sym (exported_are s index D turn) ∙ (and_parts _ _ alive).0 in
    subst (λ (i : ℕ). i ≤ length (exports D)) (eqb-true index x is) (leb-true index (length (exports D)) (and_parts _ _ exported).1)
withdrawn_now s x index D alive turn before false earlier is was either = before (was ∙ either)

-- what was withdrawn was exported
pub withdrawn_exported : (s x : ℕ) (D : List Deed) → ObjectsInTurn s D → is_withdrawn x D ≡ true → x ≤ length (exports D)
withdrawn_exported s x [] turn gone = cc
withdrawn_exported s x (did.Withdraw index ∷ D) turn gone = withdrawn_now s x index D turn.0 turn.1 (withdrawn_exported s x D turn.1) (index == x) (is_withdrawn x D) refl refl gone
withdrawn_exported s x (did.Export rep ∷ D) turn gone = let before = withdrawn_exported s x D turn.1 gone in let more = length_push (exports D) rep in omega (arith, before, more)
withdrawn_exported s x (deed ∷ D) turn gone = withdrawn_exported s x D turn gone

without_one : (a e w : Bool) → (a && not (e || w)) ≡ ((a && not w) && not e)
without_one false e w = refl
without_one true true true = refl
without_one true true false = refl
without_one true false true = refl
without_one true false false = refl

and_flip : (a b : Bool) → (a && b) ≡ (b && a)
and_flip true true = refl
and_flip true false = refl
and_flip false true = refl
and_flip false false = refl

-- one object more is live after an Export
pub live_exported : (s : ℕ) (rep : WireRep) (D : List Deed) → ObjectsInTurn s (did.Export rep ∷ D) → live s (did.Export rep ∷ D) ≡ live s D ++ rep ∷ []
live_exported s rep D turn =
    let fresh : is_withdrawn (length (exports D) + 1) D ≡ false = false_from_ne_true _ (λ gone. let before = withdrawn_exported s (length (exports D) + 1) D turn.1 gone in omega (arith, before)) in
    let kept : (rep.owner == s && not (is_withdrawn rep.index D)) ≡ true =
    ap (λ (r : WireRep). r.owner == s && not (is_withdrawn r.index D)) turn.0
    ∙ ap (λ (b : Bool). b && not (is_withdrawn (length (exports D) + 1) D)) (eq-eqb s s refl)
    ∙ ap not fresh in
    filter-append (λ (r : WireRep). r.owner == s && not (is_withdrawn r.index D)) (exports D) (rep ∷ [])
    ∙ ap (λ (b : Bool). live s D ++ cond b (rep ∷ []) []) kept

-- a Withdraw takes the reference of its index out, and no other
pub live_withdrawn : (s x : ℕ) (D : List Deed) → live s (did.Withdraw x ∷ D) ≡ filter (λ (rep : WireRep). not (x == rep.index)) (live s D)
live_withdrawn s x D =
    filter_same _ _ (λ rep. without_one (rep.owner == s) (x == rep.index) (is_withdrawn rep.index D)) (exports D)
    ∙ filter_and (λ (rep : WireRep). rep.owner == s && not (is_withdrawn rep.index D)) (λ (rep : WireRep). not (x == rep.index)) (exports D)

below : (x k : ℕ) → x ≤ suc k → (x ≡ suc k → ⊥) → x ≤ k
below x k most differ = elim (nat_le x k) as (λ (b : Bool). nat_le x k ≡ b → x ≤ k) [
  | true ↦ λ e. leb-true x k e
  | false ↦ λ e. let over = leb-false x k e in absurd (differ (omega (arith, over, most)))
] refl

-- no index up to a lesser number
none_over : (s x count : ℕ) → count < x → filter (λ (rep : WireRep). x == rep.index) (refs_up_to s count) ≡ []
none_over s x zero over = refl
none_over s x (suc k) over =
    filter-append (λ (rep : WireRep). x == rep.index) (refs_up_to s k) (ref_of s (suc k) ∷ [])
    ∙ ap (λ (b : Bool). filter (λ (rep : WireRep). x == rep.index) (refs_up_to s k) ++ cond b (ref_of s (suc k) ∷ []) []) (ne_eqb x (suc k) (λ same. omega (arith, over, same)))
    ∙ append-nil _
    ∙ none_over s x k (omega (arith, over))

-- each index up to a number stands there once
only_one : (s x count : ℕ) → 1 ≤ x → x ≤ count → filter (λ (rep : WireRep). x == rep.index) (refs_up_to s count) ≡ ref_of s x ∷ []
only_one s x zero least most = absurd (omega (arith, least, most))
only_one s x (suc k) least most =
    filter-append (λ (rep : WireRep). x == rep.index) (refs_up_to s k) (ref_of s (suc k) ∷ [])
    ∙ elim (x == suc k) as (λ (b : Bool). (x == suc k) ≡ b → filter (λ (rep : WireRep). x == rep.index) (refs_up_to s k) ++ cond b (ref_of s (suc k) ∷ []) [] ≡ ref_of s x ∷ []) [
      | true ↦ λ e. let same = eqb-true x (suc k) e in ap (λ (reps : List WireRep). reps ++ ref_of s (suc k) ∷ []) (none_over s x k (omega (arith, same))) ∙ ap (λ (index : ℕ). ref_of s index ∷ []) (sym same)
      | false ↦ λ e. append-nil _ ∙ only_one s x k least (let differ = eqb-false x (suc k) e in below x k most differ)
    ] refl

-- so one object less is live
pub live_fewer : (s x : ℕ) (D : List Deed) → ObjectsInTurn s (did.Withdraw x ∷ D) → length (live s D) ≡ length (live s (did.Withdraw x ∷ D)) + 1
live_fewer s x D turn =
    let named : WireRep → Bool = λ (rep : WireRep). x == rep.index in
    let kept : WireRep → Bool = λ (rep : WireRep). rep.owner == s && not (is_withdrawn rep.index D) in
    let parts = and_parts _ _ turn.0 in
    let place = and_parts _ _ (sym (exported_are s x D turn.1) ∙ parts.0) in
    let stays : (s == s && not (is_withdrawn x D)) ≡ true = ap (λ (b : Bool). b && not (is_withdrawn x D)) (eq-eqb s s refl) ∙ parts.1 in
    let one : filter named (live s D) ≡ ref_of s x ∷ [] =
    sym (filter_and kept named (exports D))
    ∙ filter_same _ _ (λ rep. and_flip (kept rep) (named rep)) (exports D)
    ∙ filter_and named kept (exports D)
    ∙ ap (filter kept) (ap (filter named) (exports_are s D turn.1) ∙ only_one s x (length (exports D)) (leb-true 1 x place.0) (leb-true x (length (exports D)) place.1))
    ∙ ap (λ (b : Bool). cond b (ref_of s x ∷ []) []) stays in
    let both = length-filter_both named (λ (rep : WireRep). not (named rep)) (λ rep. refl) (live s D) in
    let fewer = ap length (live_withdrawn s x D) in
    let single : length (filter named (live s D)) ≡ 1 = ap length one in
    omega (arith, both, fewer, single)
