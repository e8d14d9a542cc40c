-- A value that was read has few references.
use Rattle.std.proofs.Common.{◌≡◌, ℕ, zero, suc, ◌+◌, ◌-◌, ◌≤◌, not, Bool, true, false, List, [], ◌∷◌, length, take, drop, Result, Ok, Err, IfOk, if◌then◌else◌, refl, ap, arith}
use Rattle.std.specs.Prelude.{◌==◌, nat_lt}
use Rattle.std.proofs.lemmas.List.{length-append}
use Rattle.std.proofs.lemmas.Bool.{eqb-false}
use Rattle.nob_ids.specs.Names.{is_space}
use Rattle.nob_pickle.specs.Trees.{Tree, bytes, list, ref, Trees}
use Rattle.nob_pickle.specs.Shape.{value}
use Rattle.nob_pickle.specs.Limits.{most_levels, most_bytes, most_elements, most_references, most_in_all}
use Rattle.nob_pickle.specs.Spelling.{refs, all_refs, refs_in}
use Rattle.nob_pickle.specs.Writing.{◌>>=◌}
use Rattle.nob_pickle.specs.Reading.{Front, number_at, int_at, bytes_at, ref_at, trees_at, list_at, tree_by, tree_at, value_read}
use Rattle.nob_pickle.specs.declared.value.Value.{Value}
use Rattle.nob_pickle.specs.declared.fault.PickleFault.{PickleFault}
use Rattle.nob_pickle.specs.declared.fault.PickleFault.TheVariants as faults
use Rattle.nob_pickle.proofs.Forests.{tree-value}

-- a fact of what a step gives, from the fact of what came before
onward : {A B : Type 0} (P : A → Type 0) (Q : B → Type 0) (r : Result A PickleFault) (f : A → Result B PickleFault) → IfOk r P → ((x : A) → P x → IfOk (f x) Q) → IfOk (r >>= f) Q
onward P Q (Ok x) f is step = step x is
onward P Q (Err fault) f is step = tt

nothing : {A : Type 0} (r : Result A PickleFault) → IfOk r (λ x. Unit {0})
nothing (Ok x) = tt
nothing (Err fault) = tt

guarded : {A : Type 0} (Q : A → Type 0) (b : Bool) (fault : PickleFault) (r : Result A PickleFault) → (b ≡ false → IfOk r Q) → IfOk (if b then Err fault else r) Q
guarded Q true fault r is = tt
guarded Q false fault r is = is refl

-- of so many references that may come these are left behind a tree
abbrev HasLeft : ℕ → Tree × ℕ × List ℕ → Type 0
HasLeft left front = length (refs front.0) + front.1 ≡ left

abbrev HaveLeft : ℕ → Trees × ℕ × List ℕ → Type 0
HaveLeft left front = length (all_refs front.0) + front.1 ≡ left

none_left : (left : ℕ) → 0 + left ≡ left
none_left left = omega arith

int_few : (left : ℕ) (bs : List ℕ) → IfOk (int_at left bs) (HasLeft left)
unfolding int_at
int_few left bs = onward (λ n. Unit {0}) (HasLeft left) (number_at 8 bs) _ (nothing (number_at 8 bs)) (λ n any. omega arith)

bytes_few : (left : ℕ) (bs : List ℕ) → IfOk (bytes_at left bs) (HasLeft left)
unfolding bytes_at
bytes_few left bs =
    onward (λ n. Unit {0}) (HasLeft left) (number_at 4 bs) _ (nothing (number_at 4 bs)) (λ n any.
    guarded (HasLeft left) (nat_lt most_bytes n.0) faults.Bytes (if nat_lt (length n.1) n.0 then Err faults.Short else Ok (bytes (take n.0 n.1), left, drop n.0 n.1)) (λ e.
    guarded (HasLeft left) (nat_lt (length n.1) n.0) faults.Short (Ok (bytes (take n.0 n.1), left, drop n.0 n.1)) (λ f. none_left left)))

one_left : (left : ℕ) → (left == 0) ≡ false → 1 + (left - 1) ≡ left
one_left left some = let never : left ≡ 0 → ⊥ = eqb-false left 0 some in omega (arith, never)

ref_few : (left : ℕ) (bs : List ℕ) → IfOk (ref_at left bs) (HasLeft left)
unfolding ref_at
ref_few left bs =
    onward (λ n. Unit {0}) (HasLeft left) (number_at 2 bs) _ (nothing (number_at 2 bs)) (λ owner any.
    onward (λ n. Unit {0}) (HasLeft left) (number_at 8 owner.1) _ (nothing (number_at 8 owner.1)) (λ index all.
    guarded (HasLeft left) (not (is_space owner.0)) faults.Space (if left == 0 then Err faults.TooBig else Ok (ref (record { owner = owner.0; index = index.0 }), left - 1, index.1)) (λ e.
    guarded (HasLeft left) (left == 0) faults.TooBig (Ok (ref (record { owner = owner.0; index = index.0 }), left - 1, index.1)) (λ some. one_left left some))))

trees_few : (read : ℕ → List ℕ → Front Tree) → ((left : ℕ) (bs : List ℕ) → IfOk (read left bs) (HasLeft left)) → (count left : ℕ) (bs : List ℕ) → IfOk (trees_at read count left bs) (HaveLeft left)
unfolding trees_at
trees_few read each zero left bs = omega arith
trees_few read each (suc count) left bs =
    onward (HasLeft left) (HaveLeft left) (read left bs) _ (each left bs) (λ first one.
    onward (HaveLeft first.1) (HaveLeft left) (trees_at read count first.1 first.2) _ (trees_few read each count first.1 first.2) (λ others rest.
    let both = length-append (refs first.0) (all_refs others.0) in omega (arith, one, rest, both)))

list_few : (read : ℕ → List ℕ → Front Tree) → ((left : ℕ) (bs : List ℕ) → IfOk (read left bs) (HasLeft left)) → (left : ℕ) (bs : List ℕ) → IfOk (list_at read left bs) (HasLeft left)
unfolding list_at
list_few read each left bs =
    onward (λ n. Unit {0}) (HasLeft left) (number_at 2 bs) _ (nothing (number_at 2 bs)) (λ n any.
    guarded (HasLeft left) (nat_lt most_elements n.0) faults.Count (trees_at read n.0 left n.1 >>= λ ts. Ok (list ts.0, ts.1, ts.2)) (λ e. onward (HaveLeft left) (HasLeft left) (trees_at read n.0 left n.1) (λ ts. Ok (list ts.0, ts.1, ts.2)) (trees_few read each n.0 left n.1) (λ ts all. all)))

choose : {A : Type 0} (Q : A → Type 0) (b : Bool) (one other : Result A PickleFault) → IfOk one Q → IfOk other Q → IfOk (if b then one else other) Q
choose Q true one other first second = first
choose Q false one other first second = second

by_few : (read : ℕ → List ℕ → Front Tree) → ((left : ℕ) (bs : List ℕ) → IfOk (read left bs) (HasLeft left)) → (left : ℕ) (bs : List ℕ) → IfOk (tree_by read left bs) (HasLeft left)
unfolding tree_by
by_few read each left [] = tt
by_few read each left (first ∷ bs) =
    choose (HasLeft left) (first == 0) _ _ (none_left left)
    (choose (HasLeft left) (first == 1) _ _ (int_few left bs)
    (choose (HasLeft left) (first == 2) _ _ (bytes_few left bs)
    (choose (HasLeft left) (first == 3) _ _ (list_few read each left bs)
    (choose (HasLeft left) (first == 4) _ _ (ref_few left bs) tt))))

tree_few : (levels left : ℕ) (bs : List ℕ) → IfOk (tree_at levels left bs) (HasLeft left)
unfolding tree_at
tree_few zero left bs = tt
tree_few (suc levels) left bs = by_few (tree_at levels) (tree_few levels) left bs

-- a value that was read has at most as many references as one may have
pub value_few : (bs : List ℕ) → IfOk (value_read bs) (λ v. length (refs_in v) ≤ most_references)
unfolding value_read
value_few bs =
    guarded (λ (v : Value). length (refs_in v) ≤ most_references) (nat_lt most_in_all (length bs)) faults.TooBig (tree_at most_levels most_references bs >>= λ t. if length t.2 == 0 then Ok (value t.0) else Err faults.Trailing) (λ e.
    onward (HasLeft most_references) (λ (v : Value). length (refs_in v) ≤ most_references) (tree_at most_levels most_references bs) (λ t. if length t.2 == 0 then Ok (value t.0) else Err faults.Trailing) (tree_few most_levels most_references bs) (λ t has.
    whole t.0 t.1 has (length t.2 == 0)))
  where
    few : (t : Tree) (left : ℕ) → length (refs t) + left ≡ most_references → length (refs_in (value t)) ≤ most_references
    few t left has = let same : length (refs_in (value t)) ≡ length (refs t) = ap (λ (one : Tree). length (refs one)) (tree-value t) in omega (arith, same, has)

    whole : (t : Tree) (left : ℕ) → length (refs t) + left ≡ most_references → (b : Bool) → IfOk (if b then Ok (value t) else Err faults.Trailing) (λ v. length (refs_in v) ≤ most_references)
    whole t left has true = few t left has
    whole t left has false = tt
