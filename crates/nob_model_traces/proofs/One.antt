-- Traces have one list of merged entries at most.
use Rattle.std.proofs.Common.{◌≡◌, ℕ, Bool, true, false, cond, ◌||◌, ◌==◌, List, [], ◌∷◌, map, refl, sym, ap, subst, true≢false, ◌∙◌, arith}
use Rattle.std.specs.List.{AllByRecursion, list_any}
use Rattle.std.proofs.lemmas.Cmp.{nat_eq_equiv}
use Rattle.std.proofs.lemmas.Bool.{eqb-true}
use Rattle.std.proofs.lemmas.Bool.Decides.{nat_tests}
use Rattle.nob_trace.specs.declared.trace.Trace.{Trace}
use Rattle.nob_model_traces.specs.Merged.{Dated, is_earlier, moment_of, dated_at, dated_of, InOrder, is_traced}
use Rattle.nob_model_traces.specs.MergingLaws.{OneMerged}
use Rattle.nob_model_traces.proofs.Heading.{not_back}

first_is : {X : Type 0} (x y : X) (xs ys : List X) → x ∷ xs ≡ y ∷ ys → x ≡ y
first_is x y xs ys h = cc

rest_is : {X : Type 0} (x y : X) (xs ys : List X) → x ∷ xs ≡ y ∷ ys → xs ≡ ys
rest_is x y xs ys h = cc

-- an entry of a space stands among those of it
own : (x : Dated) (M : List Dated) → dated_of x.entry.space (x ∷ M) ≡ x ∷ dated_of x.entry.space M
own x M = ap (λ (b : Bool). cond b (x ∷ dated_of x.entry.space M) (dated_of x.entry.space M)) (nat_eq_equiv.refl x.entry.space)

other : (s : ℕ) (x : Dated) (M : List Dated) → (x.entry.space == s) ≡ false → dated_of s (x ∷ M) ≡ dated_of s M
other s x M differs = ap (λ (b : Bool). cond b (x ∷ dated_of s M) (dated_of s M)) differs

-- what holds of all holds of the first of those of a space
first_of : (P : Dated → Type 0) (s : ℕ) (M : List Dated) (x : Dated) (rest : List Dated) → AllByRecursion P M → dated_of s M ≡ x ∷ rest → P x
first_of P s [] x rest all is = absurd cc
first_of P s (y ∷ M) x rest all is = by (y.entry.space == s) (λ there. first_of P s M x rest all.1 there) is
  where
    by : (b : Bool) → (dated_of s M ≡ x ∷ rest → P x) → cond b (y ∷ dated_of s M) (dated_of s M) ≡ x ∷ rest → P x
    by true later is = subst P (first_is y x (dated_of s M) rest is) all.0
    by false later is = later is

-- lists in order that have the same entries of each space are one
same_order : (M N : List Dated) → InOrder M → InOrder N → ((s : ℕ) → dated_of s M ≡ dated_of s N) → M ≡ N
same_order [] [] one two same = refl
same_order [] (y ∷ N) one two same = absurd (let none : [] ≡ y ∷ dated_of y.entry.space N = same y.entry.space ∙ own y N in cc)
same_order (x ∷ M) [] one two same = absurd (let none : x ∷ dated_of x.entry.space M ≡ [] = sym (own x M) ∙ same x.entry.space in cc)
same_order (x ∷ M) (y ∷ N) one two same =
    let firsts : x ≡ y = first (x.entry.space == y.entry.space) refl in
    let rests : M ≡ N = same_order M N one.1 two.1 (tails firsts) in
    cc
  where
    swapped : (a b : ℕ) → (a == b) ≡ false → (b == a) ≡ false
    swapped a b h = grind (arith, nat_tests, h)

    first : (b : Bool) → (x.entry.space == y.entry.space) ≡ b → x ≡ y
    first true here =
        let at : x.entry.space ≡ y.entry.space = eqb-true x.entry.space y.entry.space here in
        let both : x ∷ dated_of x.entry.space M ≡ y ∷ dated_of y.entry.space N = sym (own x M) ∙ same x.entry.space ∙ ap (λ (s : ℕ). dated_of s (y ∷ N)) at ∙ own y N in
        first_is x y (dated_of x.entry.space M) (dated_of y.entry.space N) both
    first false apart =
        let in_rest : dated_of x.entry.space N ≡ x ∷ dated_of x.entry.space M = sym (other x.entry.space y N (swapped x.entry.space y.entry.space apart)) ∙ sym (same x.entry.space) ∙ own x M in
        let before : is_earlier (moment_of y) (moment_of x) ≡ true = first_of (λ d. is_earlier (moment_of y) (moment_of d) ≡ true) x.entry.space N x (dated_of x.entry.space M) two.0 in_rest in
        let in_first : dated_of y.entry.space M ≡ y ∷ dated_of y.entry.space N = sym (other y.entry.space x M apart) ∙ same y.entry.space ∙ own y N in
        let behind : is_earlier (moment_of x) (moment_of y) ≡ true = first_of (λ d. is_earlier (moment_of x) (moment_of d) ≡ true) y.entry.space M y (dated_of y.entry.space N) one.0 in_first in
        absurd (true≢false (sym behind ∙ not_back (moment_of y) (moment_of x) before))

    tails : x ≡ y → (s : ℕ) → dated_of s M ≡ dated_of s N
    tails firsts s = by (x.entry.space == s) refl
      where
        by : (b : Bool) → (x.entry.space == s) ≡ b → dated_of s M ≡ dated_of s N
        by true here =
            let mine : dated_of s (x ∷ M) ≡ x ∷ dated_of s M = ap (λ (b : Bool). cond b (x ∷ dated_of s M) (dated_of s M)) here in
            let yours : dated_of s (y ∷ N) ≡ y ∷ dated_of s N = ap (λ (b : Bool). cond b (y ∷ dated_of s N) (dated_of s N)) (ap (λ (d : Dated). d.entry.space == s) (sym firsts) ∙ here) in
            rest_is x y (dated_of s M) (dated_of s N) (sym mine ∙ same s ∙ yours)
        by false apart = sym (other s x M apart) ∙ same s ∙ other s y N (ap (λ (d : Dated). d.entry.space == s) (sym firsts) ∙ apart)

-- the entries of a space of a trace are the trace's
of_trace : (s : ℕ) (traces : List Trace) (M N : List Dated) → AllByRecursion (λ trace. dated_of trace.space M ≡ map (dated_at trace.space) trace.entries) traces → AllByRecursion (λ trace. dated_of trace.space N ≡ map (dated_at trace.space) trace.entries) traces
    → list_any (λ trace. trace.space == s) traces ≡ true → dated_of s M ≡ dated_of s N
of_trace s [] M N one two there = absurd (true≢false (sym there))
of_trace s (t ∷ ts) M N one two there = by (t.space == s) refl (λ later. of_trace s ts M N one.1 two.1 later) there
  where
    by : (b : Bool) → (t.space == s) ≡ b → (list_any (λ (trace : Trace). trace.space == s) ts ≡ true → dated_of s M ≡ dated_of s N) → (b || list_any (λ (trace : Trace). trace.space == s) ts) ≡ true → dated_of s M ≡ dated_of s N
    by true here later there = subst (λ (r : ℕ). dated_of r M ≡ dated_of r N) (eqb-true t.space s here) (one.0 ∙ sym two.0)
    by false apart later there = later there

-- a space without a trace has none
of_none : (s : ℕ) (traces : List Trace) (M : List Dated) → AllByRecursion (λ d. is_traced traces d ≡ true) M → list_any (λ trace. trace.space == s) traces ≡ false → dated_of s M ≡ []
of_none s traces [] traced none = refl
of_none s traces (x ∷ M) traced none = by (x.entry.space == s) refl (of_none s traces M traced.1 none)
  where
    by : (b : Bool) → (x.entry.space == s) ≡ b → dated_of s M ≡ [] → cond b (x ∷ dated_of s M) (dated_of s M) ≡ []
    by true here rest = absurd (true≢false (sym (subst (λ (r : ℕ). list_any (λ (trace : Trace). trace.space == r) traces ≡ true) (eqb-true x.entry.space s here) traced.0) ∙ none))
    by false apart rest = rest

pub one_merged : OneMerged
one_merged traces merged other (M, of_m, is_m) (N, of_n, is_n) = is_m ∙ ap (map (λ (d : Dated). d.entry)) (same_order M N of_m.in_order of_n.in_order (λ s. by s (list_any (λ (trace : Trace). trace.space == s) traces) refl)) ∙ sym is_n
  where
    by : (s : ℕ) (b : Bool) → list_any (λ (trace : Trace). trace.space == s) traces ≡ b → dated_of s M ≡ dated_of s N
    by s true there = of_trace s traces M N of_m.each of_n.each there
    by s false none = of_none s traces M of_m.no_others none ∙ sym (of_none s traces N of_n.no_others none)
