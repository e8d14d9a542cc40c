-- How many references a pickle has, by how many may still come behind it.
use Rattle.std.proofs.Common.{◌≡◌, ℕ, ◌+◌, ◌-◌, ◌≤◌, Bool, true, false, List, [], length, Option, Some, None, Ok, Err, cond, ltb, eqb, refl, sym, ap, ◌∙◌, arith}
use Rattle.std.proofs.lemmas.Bool.{le-ltb, eqb-true}
use Rattle.std.proofs.lemmas.List.{nil_from_length}
use Rattle.nob_pickle.specs.Trees.{Tree}
use Rattle.nob_pickle.specs.Shape.{tree, value}
use Rattle.nob_pickle.specs.Spelling.{refs, refs_in}
use Rattle.nob_pickle.specs.Writing.{◌>>=◌}
use Rattle.nob_pickle.specs.Reading.{Front, tree_at, value_read}
use Rattle.nob_pickle.specs.declared.fault.PickleFault.TheVariants as faults
use Rattle.nob_pickle.proofs.Numbers.{IsBytes}
use Rattle.nob_pickle.proofs.Forests.{tree-value}
use Rattle.nob_pickle.proofs.Taken.{tree_takes}
use Rattle.nob_pickle.proofs.Bounds.{in_limits}
use Rattle.nob_peek.specs.Walking.{behind, references_read}
use Rattle.nob_peek.proofs.Passed.{same_some}

-- behind a tree with so many references so many fewer may come
left_behind : (bs : List ℕ) (left : ℕ) (after : List ℕ) (t : Front Tree) → IsBytes bs → tree_at 16 32 bs ≡ t → Some (left, after) ≡ behind t
    → (x : Tree) × (tree_at 16 32 bs ≡ Ok (x, left, after)) × (length (refs x) + left ≡ 32)
left_behind bs left after (Ok x) fits is passed =
    let same : (left, after) ≡ (x.1, x.2) = same_some (left, after) (x.1, x.2) passed in
    let at : x.1 ≡ left = sym (ap (λ (pair : ℕ × List ℕ). pair.0) same) in
    let rest : x.2 ≡ after = sym (ap (λ (pair : ℕ × List ℕ). pair.1) same) in
    let all : tree_at 16 32 bs ≡ Ok (x.0, left, after) = is ∙ (λ i. Ok (x.0, at i, rest i)) in
    let took = tree_takes 16 32 bs (x.0, left, after) fits all in
    (x.0, all, (in_limits x.0 16 32 left took.judged).refs)
left_behind bs left after (Err fault) fits is passed = absurd cc

-- no more may come than might at first
pub left_few : (bs : List ℕ) (left : ℕ) (after : List ℕ) → IsBytes bs → Some (left, after) ≡ behind (tree_at 16 32 bs) → left ≤ 32
left_few bs left after fits passed =
    let there = left_behind bs left after (tree_at 16 32 bs) fits refl passed in
    let all : length (refs there.0) + left ≡ 32 = there.2 in
    omega (arith, all)

-- the whole was passed: it is a value with so many references
pub passed_whole : (bs : List ℕ) (left : ℕ) (after : List ℕ) → IsBytes bs → length bs ≤ 16000 → Some (left, after) ≡ behind (tree_at 16 32 bs) → after ≡ [] → Some (32 - left) ≡ references_read (value_read bs)
unfolding value_read
passed_whole bs left after fits short passed empty =
    let there = left_behind bs left after (tree_at 16 32 bs) fits refl passed in
    let few : ltb 16000 (length bs) ≡ false = le-ltb _ _ short in
    let read : tree_at 16 32 bs ≡ Ok (there.0, left, []) = there.1 ∙ ap (λ (r : List ℕ). Ok (there.0, left, r)) empty in
    let all : length (refs there.0) + left ≡ 32 = there.2 in
    let count : 32 - left ≡ length (refs (tree (value there.0))) = omega (arith, all) ∙ sym (ap (λ (t : Tree). length (refs t)) (tree-value there.0)) in
    rw (few, read) (ap (λ k. Some k) count)

-- bytes are left: it is none
pub passed_part : (bs : List ℕ) (left : ℕ) (after : List ℕ) → IsBytes bs → length bs ≤ 16000 → Some (left, after) ≡ behind (tree_at 16 32 bs) → eqb (length after) 0 ≡ false → None ≡ references_read (value_read bs)
unfolding value_read
passed_part bs left after fits short passed some =
    let there = left_behind bs left after (tree_at 16 32 bs) fits refl passed in
    let few : ltb 16000 (length bs) ≡ false = le-ltb _ _ short in
    rw (few, there.1, some) refl

-- nothing could be passed: it is none
none_behind : (bs : List ℕ) (t : Front Tree) → tree_at 16 32 bs ≡ t → None ≡ behind t → length bs ≤ 16000 → None ≡ references_read (value_read bs)
unfolding value_read
none_behind bs (Ok x) is nothing short = absurd cc
none_behind bs (Err fault) is nothing short =
    let few : ltb 16000 (length bs) ≡ false = le-ltb _ _ short in
    rw (few, is) refl

pub not_passed : (bs : List ℕ) → length bs ≤ 16000 → None ≡ behind (tree_at 16 32 bs) → None ≡ references_read (value_read bs)
not_passed bs short nothing = none_behind bs (tree_at 16 32 bs) refl nothing short

-- what is said to have no bytes has none
pub empty_by : (b : Bool) (bs : List ℕ) → b ≡ eqb (length bs) 0 → b ≡ true → bs ≡ []
empty_by b bs is said = nil_from_length bs (eqb-true _ _ (sym is ∙ said))
