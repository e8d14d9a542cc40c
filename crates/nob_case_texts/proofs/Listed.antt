-- Words written so far, and those that are left.
use Rattle.std.proofs.Common.{◌≡◌, ℕ, ◌+◌, ◌<◌, List, [], ◌∷◌, ◌++◌, length, drop, map, get_or, sym, ap, ◌∙◌, append_assoc}
use Rattle.std.proofs.lemmas.List.{drop_more}
use Rattle.nob_case_texts.specs.Words.{behind_text}

-- one more word is written behind a space
pub written_behind : {X : Type 0} (word : X → List ℕ) (xs : List X) (i : ℕ) (x : X) (now space next all : List ℕ) → i < length xs → x ≡ get_or xs i x → space ≡ now ++ 32 ∷ [] → next ≡ space ++ word x
    → now ++ behind_text (map word (drop i xs)) ≡ all → next ++ behind_text (map word (drop (i + 1) xs)) ≡ all
written_behind {X} word xs i x now space next all less same first one so_far =
    let left : List ℕ = behind_text (map word (drop (i + 1) xs)) in
    let ahead : drop i xs ≡ x ∷ drop (i + 1) xs = drop_more xs i x less ∙ ap (λ (y : X). y ∷ drop (i + 1) xs) (sym same) in
    ap (λ (bs : List ℕ). bs ++ left) (one ∙ ap (λ (bs : List ℕ). bs ++ word x) first)
    ∙ append_assoc (now ++ 32 ∷ []) (word x) left
    ∙ append_assoc now (32 ∷ []) (word x ++ left)
    ∙ ap (λ (ys : List X). now ++ behind_text (map word ys)) (sym ahead)
    ∙ so_far
