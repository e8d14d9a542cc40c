-- Bundles of the peers 2 and 3 stay the only ones, and none is left once both have closed.
use Rattle.std.proofs.Common.{◌≡◌, ℕ, ◌+◌, ◌==◌, ◌&&◌, Bool, true, false, not, List, [], ◌∷◌, filter, cond, length, refl, sym, ap, ◌∙◌, arith}
use Rattle.std.specs.List.{count_by}
use Rattle.std.proofs.lemmas.List.Sums.{length-filter, sum_by-cons}
use Rattle.std.proofs.lemmas.List.Sorted.{sum_by_pushed, sum_by-IsPermutation, length_permutation}
use Rattle.nob_ids.proofs.Counting.{count_filter}
use Rattle.nob_pins.specs.Bundles.{Pinned, bundle_of, Adds, TakesOut, TakesOutAll, of_others}
use Rattle.nob_cases.specs.Strangers.{is_strange, strangers}

-- one bundle more
counted : (old new : List Pinned) (bundle : Pinned) → Adds old new bundle → strangers new ≡ cond (is_strange bundle) 1 0 + strangers old
counted old new bundle adds = sum_by_pushed (λ b. cond (is_strange b) 1 0) bundle old new adds

-- a bundle of one of the two is put
pub none_put : (old new : List Pinned) (bundle : Pinned) → is_strange bundle ≡ false → Adds old new bundle → strangers old ≡ 0 → strangers new ≡ 0
none_put old new bundle known adds none = counted old new bundle adds ∙ rw (known, none) refl

-- a bundle is taken out
pub none_taken : (old new : List Pinned) (peer item : ℕ) → TakesOut old new peer item → strangers old ≡ 0 → strangers new ≡ 0
none_taken old new peer item taken none =
    let all = counted new old (bundle_of peer item taken.0.0) taken.0.1 in
    omega arith

-- a peer's bundles are taken out
pub none_closed : (old new : List Pinned) (peer : ℕ) → TakesOutAll old new peer → strangers old ≡ 0 → strangers new ≡ 0
none_closed old new peer taken none =
    let same = sum_by-IsPermutation (λ b. cond (is_strange b) 1 0) (of_others peer old) new taken in
    let fewer = count_filter is_strange (λ (b : Pinned). not (b.peer == peer)) old in
    omega arith

-- what passes one test and then the other passes both
both : (p q : Pinned → Bool) (bundles : List Pinned) → count_by q (filter p bundles) ≡ count_by (λ b. p b && q b) bundles
both p q [] = refl
both p q (x ∷ bundles) =
    let rest = both p q bundles in
    elim (p x) as (λ v. count_by q (cond v (x ∷ filter p bundles) (filter p bundles)) ≡ cond (v && q x) 1 0 + count_by (λ b. p b && q b) bundles) [
      | true ↦ sum_by-cons (λ y. cond (q y) 1 0) x (filter p bundles) ∙ ap (λ n. cond (q x) 1 0 + n) rest
      | false ↦ omega (arith, rest)
    ] ∙ sym (sum_by-cons (λ y. cond (p y && q y) 1 0) x bundles)

nothing : (bundles : List Pinned) → length bundles ≡ 0 → bundles ≡ []
nothing [] none = refl
nothing (b ∷ bundles) none = absurd (omega arith)

-- both sessions close: nothing is left
pub nothing_left : (t0 t1 t2 : List Pinned) → strangers t0 ≡ 0 → TakesOutAll t0 t1 2 → TakesOutAll t1 t2 3 → t2 ≡ []
nothing_left t0 t1 t2 none two three =
    let n2 : length t2 ≡ count_by (λ (b : Pinned). not (b.peer == 3)) t1 = length_permutation _ _ three ∙ length-filter (λ (b : Pinned). not (b.peer == 3)) t1 in
    let n1 : count_by (λ (b : Pinned). not (b.peer == 3)) t1 ≡ count_by (λ (b : Pinned). not (b.peer == 3)) (of_others 2 t0) = sum_by-IsPermutation (λ (b : Pinned). cond (not (b.peer == 3)) 1 0) (of_others 2 t0) t1 two in
    let n0 : count_by (λ (b : Pinned). not (b.peer == 3)) (of_others 2 t0) ≡ strangers t0 = both (λ b. not (b.peer == 2)) (λ b. not (b.peer == 3)) t0 in
    nothing t2 (omega arith)
