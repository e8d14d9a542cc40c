-- The pass over a journal, by the next of its entries.
use Rattle.std.proofs.Common.{◌≡◌, ℕ, ◌+◌, ◌<◌, List, ◌∷◌, length, drop, get_or, sym, ap, ◌∙◌}
use Rattle.std.proofs.lemmas.List.{drop_more}
use Rattle.nob_model_types.specs.declared.entry.Entry.{Entry}
use Rattle.nob_check.specs.Judging.{with_next, with_all}
use Rattle.nob_check.specs.declared.judging.Judging.{Judging}

-- the next entry is seen
pub one_more : (n : ℕ) (xs : List Entry) (i : ℕ) (x : Entry) (now next all : Judging) → i < length xs → x ≡ get_or xs i x → next ≡ with_next n x now → with_all n (drop i xs) now ≡ all → with_all n (drop (i + 1) xs) next ≡ all
one_more n xs i x now next all less same one so_far =
    let ahead : drop i xs ≡ x ∷ drop (i + 1) xs = drop_more xs i x less ∙ ap (λ (y : Entry). y ∷ drop (i + 1) xs) (sym same) in
    ap (with_all n (drop (i + 1) xs)) one ∙ sym (ap (λ (ys : List Entry). with_all n ys now) ahead) ∙ so_far
