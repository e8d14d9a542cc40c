-- Texts of values written so far, and those that are left.
use Rattle.std.proofs.Common.{◌≡◌, ℕ, ◌+◌, ◌<◌, List, [], ◌∷◌, ◌++◌, length, drop, get_or, sym, ap, ◌∙◌, append_assoc}
use Rattle.nob_pickle.specs.Trees.{more}
use Rattle.nob_pickle.specs.Shape.{tree, forest}
use Rattle.nob_pickle.specs.declared.value.Value.{Value}
use Rattle.nob_pickle.proofs.Written.{first_ahead}
use Rattle.nob_model_text.specs.Values.{tree_text, behind_text}

-- one more value is written behind a comma
pub written_behind : (vs : List Value) (i : ℕ) (v : Value) (now comma next all : List ℕ) → i < length vs → v ≡ get_or vs i v → comma ≡ now ++ 44 ∷ [] → next ≡ comma ++ tree_text (tree v)
    → now ++ behind_text (forest (drop i vs)) ≡ all → next ++ behind_text (forest (drop (i + 1) vs)) ≡ all
written_behind vs i v now comma next all lt same first one so_far =
    let left : List ℕ = behind_text (forest (drop (i + 1) vs)) in
    let text : List ℕ = tree_text (tree v) in
    ap (λ (bs : List ℕ). bs ++ left) (one ∙ ap (λ (bs : List ℕ). bs ++ text) first)
    ∙ append_assoc (now ++ 44 ∷ []) text left
    ∙ append_assoc now (44 ∷ []) (text ++ left)
    ∙ ap (λ (us : List Value). now ++ behind_text (forest us)) (sym (first_ahead vs i v lt same))
    ∙ so_far
