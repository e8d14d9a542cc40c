-- Traces with how many entries were passed of each.
use Rattle.std.specs.Bool.{⊤}
use Rattle.std.proofs.Common.{◌≡◌, ℕ, ◌≤◌, ◌<◌, Bool, true, false, not, ◌==◌, List, [], ◌∷◌, ◌++◌, drop, take, slice_get, Some, None, refl, sym, ap, subst, true≢false, arith}
use Prim.Native.Nat.{zero, suc}
use lib.ListN.{set}
use Rattle.std.specs.List.{AllByRecursion, list_all}
use Rattle.std.proofs.lemmas.Bool.{and_parts}
use Rattle.std.proofs.lemmas.Bool.Decides.{nat_tests}
use Rattle.nob_trace.specs.declared.stamped.Stamped.{Stamped}
use Rattle.nob_trace.specs.declared.trace.Trace.{Trace}
use Rattle.nob_trace.specs.Stamps.{Rise}
use Rattle.nob_model_traces.specs.Apart.{are_apart}

-- something holds of each trace and its place, of which there are as many
abbrev pub EachWith : (Trace → ℕ → Type 0) → List Trace → List ℕ → Type 0
EachWith holds [] [] = ⊤
EachWith holds (trace ∷ traces) (place ∷ places) = holds trace place × EachWith holds traces places
EachWith holds _ _ = ⊥

pub each_map : (P Q : Trace → ℕ → Type 0) (traces : List Trace) (places : List ℕ) → ((t : Trace) (p : ℕ) → P t p → Q t p) → EachWith P traces places → EachWith Q traces places
each_map P Q [] [] to each = tt
each_map P Q (t ∷ ts) (p ∷ ps) to each = (to t p each.0, each_map P Q ts ps to each.1)
each_map P Q [] (p ∷ ps) to each = absurd each
each_map P Q (t ∷ ts) [] to each = absurd each

pub each_both : (P Q : Trace → ℕ → Type 0) (traces : List Trace) (places : List ℕ) → EachWith P traces places → EachWith Q traces places → EachWith (λ t p. P t p × Q t p) traces places
each_both P Q [] [] one other = tt
each_both P Q (t ∷ ts) (p ∷ ps) one other = ((one.0, other.0), each_both P Q ts ps one.1 other.1)
each_both P Q [] (p ∷ ps) one other = absurd one
each_both P Q (t ∷ ts) [] one other = absurd one

-- what stands at a place
pub each_at : (P : Trace → ℕ → Type 0) (traces : List Trace) (places : List ℕ) (k : ℕ) (t : Trace) (p : ℕ) → EachWith P traces places → slice_get traces k ≡ Some t → slice_get places k ≡ Some p → P t p
each_at P [] [] k t p each there placed = absurd cc
each_at P (u ∷ ts) (q ∷ ps) zero t p each there placed = subst (λ (x : ℕ). P t x) (let same : q ≡ p = cc in same) (subst (λ (x : Trace). P x q) (let same : u ≡ t = cc in same) each.0)
each_at P (u ∷ ts) (q ∷ ps) (suc k) t p each there placed = each_at P ts ps k t p each.1 there placed
each_at P [] (q ∷ ps) k t p each there placed = absurd each
each_at P (u ∷ ts) [] k t p each there placed = absurd each

-- a trace among others that are of other spaces is of another one
apart_at : (s : ℕ) (traces : List Trace) (k : ℕ) (t : Trace) → list_all (λ other. not (other.space == s)) traces ≡ true → slice_get traces k ≡ Some t → (t.space == s) ≡ false
apart_at s [] k t apart there = absurd cc
apart_at s (u ∷ ts) zero t apart there =
    let parts = and_parts (not (u.space == s)) (list_all (λ (other : Trace). not (other.space == s)) ts) apart in
    subst (λ (x : Trace). (x.space == s) ≡ false) (let same : u ≡ t = cc in same) (by (u.space == s) parts.0)
  where
    by : (b : Bool) → not b ≡ true → b ≡ false
    by true h = absurd (true≢false (sym h))
    by false h = refl
apart_at s (u ∷ ts) (suc k) t apart there =
    let parts = and_parts (not (u.space == s)) (list_all (λ (other : Trace). not (other.space == s)) ts) apart in
    apart_at s ts k t parts.1 there

not_same : (b : Bool) → not b ≡ true → b ≡ false
not_same true h = absurd (true≢false (sym h))
not_same false h = refl

swapped : (a b : ℕ) → (a == b) ≡ false → (b == a) ≡ false
swapped a b h = grind (arith, nat_tests, h)

-- of all traces, where one of them has another place: what held of it holds at the new place, and what held of those of other spaces still does
pub each_set : (P Q : Trace → ℕ → Type 0) (traces : List Trace) (places : List ℕ) (k : ℕ) (t : Trace) (p p' : ℕ) → are_apart traces ≡ true → EachWith P traces places → slice_get traces k ≡ Some t → slice_get places k ≡ Some p
    → Q t p' → ((other : Trace) (q : ℕ) → (other.space == t.space) ≡ false → P other q → Q other q) → EachWith Q traces (set places k p')
each_set P Q [] [] k t p p' apart each there placed own others = absurd cc
each_set P Q (u ∷ ts) (q ∷ ps) zero t p p' apart each there placed own others =
    let parts = and_parts (list_all (λ (other : Trace). not (other.space == u.space)) ts) (are_apart ts) apart in
    let same : u ≡ t = cc in
    (subst (λ (x : Trace). Q x p') (sym same) own, rest ts ps (subst (λ (x : Trace). list_all (λ (other : Trace). not (other.space == x.space)) ts ≡ true) same parts.0) each.1)
  where
    rest : (us : List Trace) (qs : List ℕ) → list_all (λ (other : Trace). not (other.space == t.space)) us ≡ true → EachWith P us qs → EachWith Q us qs
    rest [] [] apart each = tt
    rest (v ∷ vs) (r ∷ rs) apart each =
        let parts = and_parts (not (v.space == t.space)) (list_all (λ (other : Trace). not (other.space == t.space)) vs) apart in
        (others v r (not_same (v.space == t.space) parts.0) each.0, rest vs rs parts.1 each.1)
    rest [] (r ∷ rs) apart each = absurd each
    rest (v ∷ vs) [] apart each = absurd each
each_set P Q (u ∷ ts) (q ∷ ps) (suc k) t p p' apart each there placed own others =
    let parts = and_parts (list_all (λ (other : Trace). not (other.space == u.space)) ts) (are_apart ts) apart in
    (others u q (swapped t.space u.space (apart_at u.space ts k t parts.0 there)) each.0, each_set P Q ts ps k t p p' parts.1 each.1 there placed own others)
each_set P Q [] (q ∷ ps) k t p p' apart each there placed own others = absurd each
each_set P Q (u ∷ ts) [] k t p p' apart each there placed own others = absurd each

-- ---- entries that are left

pub left_some : {X : Type 0} (xs : List X) (p : ℕ) (x : X) → slice_get xs p ≡ Some x → drop p xs ≡ x ∷ drop (suc p) xs
left_some [] p x is = absurd cc
left_some (y ∷ xs) zero x is = let same : y ≡ x = cc in ap (λ (z : _). z ∷ xs) same
left_some (y ∷ xs) (suc p) x is = left_some xs p x is

pub left_none : {X : Type 0} (xs : List X) (p : ℕ) → slice_get xs p ≡ None → drop p xs ≡ []
left_none [] zero is = refl
left_none [] (suc p) is = refl
left_none (y ∷ xs) zero is = absurd cc
left_none (y ∷ xs) (suc p) is = left_none xs p is

pub take_some : {X : Type 0} (xs : List X) (p : ℕ) (x : X) → slice_get xs p ≡ Some x → take (suc p) xs ≡ take p xs ++ x ∷ []
take_some [] p x is = absurd cc
take_some (y ∷ xs) zero x is = let same : y ≡ x = cc in ap (λ (z : _). z ∷ []) same
take_some (y ∷ xs) (suc p) x is = ap (λ (zs : List _). y ∷ zs) (take_some xs p x is)

pub all_left : {X : Type 0} (xs : List X) (p : ℕ) → drop p xs ≡ [] → take p xs ≡ xs
all_left [] zero is = refl
all_left [] (suc p) is = refl
all_left (y ∷ xs) zero is = absurd cc
all_left (y ∷ xs) (suc p) is = ap (λ (zs : List _). y ∷ zs) (all_left xs p is)

-- stamps above one are above each below it
rise_above : (bottom last : ℕ) (es : List Stamped) → bottom ≤ last → Rise last es → AllByRecursion (λ e. bottom < e.stamp) es
rise_above bottom last [] low rise = tt
rise_above bottom last (e ∷ es) low rise = (omega (arith, low, rise.0), rise_above bottom e.stamp es (omega (arith, low, rise.0)) rise.1)

-- the stamps behind an entry are above its own
pub rise_after : (last : ℕ) (es : List Stamped) (p : ℕ) (e : Stamped) → Rise last es → slice_get es p ≡ Some e → AllByRecursion (λ (later : Stamped). e.stamp < later.stamp) (drop (suc p) es)
rise_after last [] p e rise is = absurd cc
rise_after last (d ∷ es) zero e rise is =
    let same : d ≡ e = cc in
    subst (λ (x : Stamped). AllByRecursion (λ (later : Stamped). x.stamp < later.stamp) es) same (rise_above d.stamp d.stamp es (omega arith) rise.1)
rise_after last (d ∷ es) (suc p) e rise is = rise_after d.stamp es p e rise.1 is
