-- Elements read so far, and those that are left.
use Rattle.std.proofs.Common.{◌≡◌, ℕ, zero, suc, ◌+◌, ◌-◌, ◌<◌, ◌≤◌, List, [], ◌∷◌, ◌++◌, Ok, Err, refl, sym, ap, ◌∙◌, arith}
use Rattle.nob_pickle.specs.Trees.{Tree, Trees, none, more}
use Rattle.nob_pickle.specs.Marks.{append_trees, joined-none}
use Rattle.nob_pickle.specs.Shape.{tree, forest}
use Rattle.nob_pickle.specs.Writing.{◌>>=◌, Fails}
use Rattle.nob_pickle.specs.Reading.{Front, trees_at, tree_by, tree_at}
use Rattle.nob_pickle.specs.declared.fault.PickleFault.TheVariants.{Depth}
use Rattle.nob_pickle.specs.declared.fault.PickleError.{PickleError}
use Rattle.nob_pickle.specs.declared.fault.PickleError.TheVariants as errors
use Rattle.nob_pickle.specs.declared.value.Value.{Value}
use Rattle.nob_pickle.proofs.Forests.{forest-append, joined_assoc}

pub tree_at_none : (levels left : ℕ) (bs : List ℕ) → levels ≡ 0 → tree_at levels left bs ≡ Err Depth
unfolding tree_at
tree_at_none zero left bs e = refl
tree_at_none (suc levels) left bs e = absurd (omega (arith, e))

pub tree_at_some : (levels left : ℕ) (bs : List ℕ) → 0 < levels → tree_at levels left bs ≡ tree_by (tree_at (levels - 1)) left bs
unfolding tree_at
tree_at_some zero left bs e = absurd (omega (arith, e))
tree_at_some (suc levels) left bs e =
    let k : suc levels - 1 ≡ levels = omega arith in
    rw k refl

-- trees in front of those that were read
abbrev pub with_front : Trees → Front Trees → Front Trees
with_front front (Ok x) = Ok (append_trees front x.0, x.1, x.2)
with_front front (Err e) = Err e

-- one more tree that was read stands in front of the rest
regroup : (front : Trees) (v : Value) (rest : Front Trees) → with_front front (rest >>= λ others. Ok (more (tree v) others.0, others.1, others.2)) ≡ with_front (append_trees front (more (tree v) none)) rest
regroup front v (Ok x) = ap (λ (ts : Trees). Ok (ts, x.1, x.2)) (sym (joined_assoc front (more (tree v) none) x.0))
regroup front v (Err e) = refl

pub goes_on : (read : ℕ → List ℕ → Front Tree) (vs : List Value) (count i left : ℕ) (bs : List ℕ) (v : Value) (left' : ℕ) (after : List ℕ) (total : Front Trees) → i < count → read left bs ≡ Ok (tree v, left', after)
    → with_front (forest vs) (trees_at read (count - i) left bs) ≡ total → with_front (forest (vs ++ v ∷ [])) (trees_at read (count - (i + 1)) left' after) ≡ total
unfolding trees_at
goes_on read vs count i left bs v left' after total lt h so_far =
    let k : count - i ≡ suc (count - (i + 1)) = omega arith in
    let one : with_front (forest vs) (trees_at read (count - i) left bs) ≡ with_front (forest (vs ++ v ∷ [])) (trees_at read (count - (i + 1)) left' after) =
    rw (k, h, forest-append vs (v ∷ [])) (regroup (forest vs) v (trees_at read (count - (i + 1)) left' after)) in
    sym one ∙ so_far

pub ends : (read : ℕ → List ℕ → Front Tree) (e : PickleError) (vs : List Value) (count i left : ℕ) (bs : List ℕ) (total : Front Trees) → i < count → Fails e (read left bs)
    → with_front (forest vs) (trees_at read (count - i) left bs) ≡ total → Fails e total
unfolding trees_at
ends read errors.OutOfMemory vs count i left bs total lt h so_far = tt
ends read (errors.Fault f) vs count i left bs total lt h so_far =
    let k : count - i ≡ suc (count - (i + 1)) = omega arith in
    let one : with_front (forest vs) (trees_at read (count - i) left bs) ≡ Err f = rw (k, h) refl in
    sym so_far ∙ one

pub is_done : (read : ℕ → List ℕ → Front Tree) (vs : List Value) (count i left : ℕ) (bs : List ℕ) (total : Front Trees) → count ≤ i → with_front (forest vs) (trees_at read (count - i) left bs) ≡ total → total ≡ Ok (forest vs, left, bs)
unfolding trees_at
is_done read vs count i left bs total le so_far =
    let k : count - i ≡ 0 = omega arith in
    let one : with_front (forest vs) (trees_at read (count - i) left bs) ≡ Ok (forest vs, left, bs) = rw k (ap (λ (ts : Trees). Ok (ts, left, bs)) (joined-none (forest vs))) in
    sym so_far ∙ one
