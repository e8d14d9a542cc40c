-- Values written so far, and those that are left.
use Rattle.std.proofs.Common.{◌≡◌, ℕ, suc, ◌+◌, ◌<◌, List, [], ◌∷◌, ◌++◌, length, take, drop, get_or, Result, Ok, sym, ap, ◌∙◌, append_assoc, drop-cons, add-one, subst}
use Rattle.std.proofs.lemmas.List.{take_more, append-nil}
use Rattle.byteorder.specs.Endian.{big_bytes}
use Rattle.nob_pickle.specs.Trees.{Tree, Trees, none, more, list}
use Rattle.nob_pickle.specs.Marks.{append_trees}
use Rattle.nob_pickle.specs.Shape.{tree, forest}
use Rattle.nob_pickle.specs.Spelling.{spelled, spelled_all}
use Rattle.nob_pickle.specs.Limits.{IsTyped, AreTyped}
use Rattle.nob_pickle.specs.Writing.{◌>>=◌, references_left, left_after_all}
use Rattle.nob_pickle.specs.declared.fault.PickleFault.{PickleFault}
use Rattle.nob_pickle.specs.declared.value.Value.{Value}
use Rattle.nob_pickle.proofs.Forests.{forest-append, spelled_all-joined, count_forest}

-- the values ahead begin with this one
pub first_ahead : (vs : List Value) (i : ℕ) (v : Value) → i < length vs → v ≡ get_or vs i v → drop i vs ≡ v ∷ drop (i + 1) vs
first_ahead vs i v lt same =
    let step : drop i vs ≡ get_or vs i v ∷ drop (suc i) vs = drop-cons vs i v lt in
    rw (add-one i) (step ∙ ap (λ (w : Value). w ∷ drop (suc i) vs) (sym same))

-- the values so far end with this one
last_so_far : (vs : List Value) (i : ℕ) (v : Value) → i < length vs → v ≡ get_or vs i v → forest (take (i + 1) vs) ≡ append_trees (forest (take i vs)) (more (tree v) none)
last_so_far vs i v lt same =
    ap forest (take_more vs i v lt) ∙ forest-append (take i vs) (get_or vs i v ∷ []) ∙ ap (λ (w : Value). append_trees (forest (take i vs)) (more (tree w) none)) (sym same)

pub left_goes_on : (vs : List Value) (i : ℕ) (v : Value) (levels left left' : ℕ) (total : Result ℕ PickleFault) → i < length vs → v ≡ get_or vs i v → references_left (tree v) levels left ≡ Ok left'
    → left_after_all (forest (drop i vs)) levels left ≡ total → left_after_all (forest (drop (i + 1) vs)) levels left' ≡ total
left_goes_on vs i v levels left left' total lt same one so_far =
    let split : left_after_all (forest (drop i vs)) levels left ≡ (references_left (tree v) levels left >>= left_after_all (forest (drop (i + 1) vs)) levels) =
    ap (λ (us : List Value). left_after_all (forest us) levels left) (first_ahead vs i v lt same) in
    let next : (references_left (tree v) levels left >>= left_after_all (forest (drop (i + 1) vs)) levels) ≡ left_after_all (forest (drop (i + 1) vs)) levels left' =
    ap (λ (r : Result ℕ PickleFault). r >>= left_after_all (forest (drop (i + 1) vs)) levels) one in
    sym (split ∙ next) ∙ so_far

pub written_goes_on : (vs : List Value) (i : ℕ) (v : Value) (old now next : List ℕ) → i < length vs → v ≡ get_or vs i v → now ≡ old ++ spelled_all (forest (take i vs)) → next ≡ now ++ spelled (tree v)
    → next ≡ old ++ spelled_all (forest (take (i + 1) vs))
written_goes_on vs i v old now next lt same so_far one =
    let end : spelled_all (forest (take (i + 1) vs)) ≡ spelled_all (forest (take i vs)) ++ spelled (tree v) =
    ap spelled_all (last_so_far vs i v lt same) ∙ spelled_all-joined (forest (take i vs)) (more (tree v) none) ∙ ap (λ (bs : List ℕ). spelled_all (forest (take i vs)) ++ bs) (append-nil (spelled (tree v))) in
    one ∙ ap (λ (bs : List ℕ). bs ++ spelled (tree v)) so_far ∙ append_assoc old (spelled_all (forest (take i vs))) (spelled (tree v)) ∙ ap (λ (bs : List ℕ). old ++ bs) (sym end)

typed-joined : (ts : Trees) (t : Tree) → AreTyped ts → IsTyped t → AreTyped (append_trees ts (more t none))
typed-joined none t all one = (one, tt)
typed-joined (more u us) t all one = (all.0, typed-joined us t all.1 one)

pub typed_goes_on : (vs : List Value) (i : ℕ) (v : Value) → i < length vs → v ≡ get_or vs i v → AreTyped (forest (take i vs)) → IsTyped (tree v) → AreTyped (forest (take (i + 1) vs))
typed_goes_on vs i v lt same all one = subst AreTyped (sym (last_so_far vs i v lt same)) (typed-joined (forest (take i vs)) (tree v) all one)

-- a list is its head and its elements
pub written_list : (vs : List Value) (old now next : List ℕ) → now ≡ old ++ 3 ∷ big_bytes 2 (length vs) → next ≡ now ++ spelled_all (forest vs) → next ≡ old ++ spelled (list (forest vs))
written_list vs old now next head elements =
    elements ∙ ap (λ (bs : List ℕ). bs ++ spelled_all (forest vs)) head ∙ append_assoc old (3 ∷ big_bytes 2 (length vs)) (spelled_all (forest vs))
    ∙ ap (λ (n : ℕ). old ++ 3 ∷ (big_bytes 2 n ++ spelled_all (forest vs))) (sym (count_forest vs))
