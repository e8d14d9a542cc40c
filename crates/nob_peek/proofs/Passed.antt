-- Values that were passed, and those that are left.
use Rattle.std.proofs.Common.{◌≡◌, ℕ, zero, suc, ◌+◌, ◌-◌, ◌<◌, ◌≤◌, List, Option, Some, None, Ok, Err, refl, sym, ap, ◌∙◌, arith}
use Rattle.nob_pickle.specs.Trees.{Tree, Trees, more}
use Rattle.nob_pickle.specs.Writing.{◌>>=◌}
use Rattle.nob_pickle.specs.Reading.{Front, trees_at}
use Rattle.nob_peek.specs.Walking.{behind}

-- what is there is one thing
pub same_some : {A : Type 0} (x y : A) → Some x ≡ Some y → x ≡ y
same_some x y e = cc

-- what stands behind one more tree is what stands behind the others
behind_more : (t : Tree) (rest : Front Trees) → behind (rest >>= λ others. Ok (more t others.0, others.1, others.2)) ≡ behind rest
behind_more t (Ok x) = refl
behind_more t (Err fault) = refl

-- behind the first of some trees stand the others
one_passed : (read : ℕ → List ℕ → Front Tree) (n left left' : ℕ) (bs after : List ℕ) (first : Front Tree) → read left bs ≡ first → Some (left', after) ≡ behind first
    → behind (trees_at read (suc n) left bs) ≡ behind (trees_at read n left' after)
unfolding trees_at
one_passed read n left left' bs after (Ok x) is passed =
    let same : (left', after) ≡ (x.1, x.2) = same_some (left', after) (x.1, x.2) passed in
    let at : x.1 ≡ left' = sym (ap (λ (pair : ℕ × List ℕ). pair.0) same) in
    let rest : x.2 ≡ after = sym (ap (λ (pair : ℕ × List ℕ). pair.1) same) in
    rw (is, ← at, ← rest) (behind_more x.0 (trees_at read n x.1 x.2))
one_passed read n left left' bs after (Err fault) is passed = absurd cc

-- where the first can't be passed the rest can't
none_passed : (read : ℕ → List ℕ → Front Tree) (n left : ℕ) (bs : List ℕ) (first : Front Tree) → read left bs ≡ first → None ≡ behind first → behind (trees_at read (suc n) left bs) ≡ None
unfolding trees_at
none_passed read n left bs (Ok x) is passed = absurd cc
none_passed read n left bs (Err fault) is passed = rw is refl

pub goes_on : (read : ℕ → List ℕ → Front Tree) (count i left : ℕ) (bs : List ℕ) (left' : ℕ) (after : List ℕ) (total : Option (ℕ × List ℕ)) → i < count → Some (left', after) ≡ behind (read left bs)
    → behind (trees_at read (count - i) left bs) ≡ total → behind (trees_at read (count - (i + 1)) left' after) ≡ total
goes_on read count i left bs left' after total low passed so_far =
    let k : count - i ≡ suc (count - (i + 1)) = omega arith in
    sym (one_passed read (count - (i + 1)) left left' bs after (read left bs) refl passed) ∙ sym (ap (λ m. behind (trees_at read m left bs)) k) ∙ so_far

pub ends : (read : ℕ → List ℕ → Front Tree) (count i left : ℕ) (bs : List ℕ) (total : Option (ℕ × List ℕ)) → i < count → None ≡ behind (read left bs)
    → behind (trees_at read (count - i) left bs) ≡ total → None ≡ total
ends read count i left bs total low passed so_far =
    let k : count - i ≡ suc (count - (i + 1)) = omega arith in
    sym (none_passed read (count - (i + 1)) left bs (read left bs) refl passed) ∙ sym (ap (λ m. behind (trees_at read m left bs)) k) ∙ so_far

pub is_done : (read : ℕ → List ℕ → Front Tree) (count i left : ℕ) (bs : List ℕ) (total : Option (ℕ × List ℕ)) → count ≤ i → behind (trees_at read (count - i) left bs) ≡ total → Some (left, bs) ≡ total
unfolding trees_at
is_done read count i left bs total high so_far =
    let k : count - i ≡ 0 = omega arith in
    let one : behind (trees_at read (count - i) left bs) ≡ Some (left, bs) = rw k refl in
    sym one ∙ so_far
