-- What entries say, one entry more.
use Rattle.std.proofs.Common.{◌≡◌, ◌∙◌, ℕ, ◌+◌, ◌<◌, List, [], ◌∷◌, ◌++◌, length, take, get_or, reverse, ap, sym, add-one}
use Rattle.std.proofs.Math.Seq.{take-suc}
use Rattle.std.proofs.lemmas.List.{reverse-append}
use Rattle.nob_model_types.specs.declared.entry.Entry.{Entry}
use Rattle.nob_demo_spaces.specs.Scores.{score_of, with_result}
use Rattle.nob_demo_spaces.specs.declared.score.Score.{Score}

pub scored_more : (entries : List Entry) (i : ℕ) (entry : Entry) (score : Score) → i < length entries → entry ≡ get_or entries i entry → score ≡ score_of (reverse (take i entries)) → with_result entry.result score ≡ score_of (reverse (take (i + 1) entries))
scored_more entries i entry score below is so_far =
    ap (with_result entry.result) so_far
    ∙ ap score_of (sym (reverse-append (take i entries) (entry ∷ [])))
    ∙ ap (λ (xs : List Entry). score_of (reverse xs)) (sym one_more)
  where
    one_more : take (i + 1) entries ≡ take i entries ++ entry ∷ []
    one_more = ap (λ (n : ℕ). take n entries) (add-one i) ∙ take-suc entries i entry below ∙ ap (λ (x : Entry). take i entries ++ x ∷ []) (sym is)
