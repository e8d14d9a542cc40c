-- One step more of what is walked.
use Rattle.std.proofs.Common.{◌≡◌, ℕ, ◌<◌, ◌+◌, List, ◌∷◌, ◌++◌, length, drop, get_or, flat_map, Option, refl, sym, ap, ◌∙◌, append_assoc}
use Rattle.std.proofs.lemmas.List.{drop_more}
use Rattle.nob_pickle.specs.Shape.{tree, forest}
use Rattle.nob_pickle.specs.declared.value.Value.{Value}
use Rattle.nob_pickle.proofs.Written.{first_ahead}
use Rattle.nob_drawing.specs.declared.shape.Shape.{Shape}
use Rattle.nob_model_types.specs.declared.entry.Entry.{Entry}
use Rattle.nob_drawing.specs.declared.page.Page.{Page}
use Rattle.nob_drawing_plan.specs.Bars.{row_after}
use Rattle.nob_ids.specs.declared.wire_rep.WireRep.{WireRep}
use Rattle.nob_drawing_choice.specs.Lives.{names_at}
use Rattle.nob_drawing_choice.specs.Plans.{place_of}
use Rattle.nob_drawing.specs.Glosses.{element_gloss, elements_gloss}
use Rattle.nob_drawing.specs.Layout as spec

-- the entries of a journal that are shown, with one more
pub entries_next : (page : Page) (places : List (Option ℕ)) (lives : List (List WireRep)) (entry : Entry) (J more : List Entry) (number : ℕ) (place : Option ℕ) (names : List WireRep) (so_far after : List Shape) → more ≡ entry ∷ J → number ≡ row_after J
    → so_far ≡ spec.entries_shapes page places lives J → place ≡ place_of places number → names ≡ names_at lives number → after ≡ so_far ++ spec.entry_at page place number names entry → after ≡ spec.entries_shapes page places lives more
entries_next page places lives entry J more number place names so_far after is number_is were place_is names_are all_are = rw (is, all_are, place_is, names_are, number_is, were) refl

-- the bytes among the elements of a list, with one element more
pub elements_next : (vs : List Value) (i : ℕ) (v : Value) (now next all : List ℕ) → i < length vs → v ≡ get_or vs i v → next ≡ now ++ element_gloss (tree v)
    → now ++ elements_gloss (forest (drop i vs)) ≡ all → next ++ elements_gloss (forest (drop (i + 1) vs)) ≡ all
elements_next vs i v now next all less same one so_far =
    let left : List ℕ = elements_gloss (forest (drop (i + 1) vs)) in
    ap (λ (words : List ℕ). words ++ left) one
    ∙ append_assoc now (element_gloss (tree v)) left
    ∙ ap (λ (us : List Value). now ++ elements_gloss (forest us)) (sym (first_ahead vs i v less same))
    ∙ so_far

-- what is drawn of a list, with one more of it
pub shapes_next : {X : Type 0} (F : X → List Shape) (xs : List X) (i : ℕ) (x : X) (now next all : List Shape) → i < length xs → x ≡ get_or xs i x → next ≡ now ++ F x
    → now ++ flat_map F (drop i xs) ≡ all → next ++ flat_map F (drop (i + 1) xs) ≡ all
shapes_next {X} F xs i x now next all less same one so_far =
    let left : List Shape = flat_map F (drop (i + 1) xs) in
    let ahead : drop i xs ≡ x ∷ drop (i + 1) xs = drop_more xs i x less ∙ ap (λ (y : X). y ∷ drop (i + 1) xs) (sym same) in
    ap (λ (shapes : List Shape). shapes ++ left) one
    ∙ append_assoc now (F x) left
    ∙ ap (λ (ys : List X). now ++ flat_map F ys) (sym ahead)
    ∙ so_far
