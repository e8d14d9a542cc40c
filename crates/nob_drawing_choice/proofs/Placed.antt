-- The places of the rows of a journal, with one entry more.
use Rattle.std.proofs.Common.{◌≡◌, ℕ, suc, Bool, List, [], ◌∷◌, ◌++◌, Option, Some, None, if◌then◌else◌, refl}
use Rattle.nob_ids.specs.declared.wire_rep.WireRep.{WireRep}
use Rattle.nob_model_types.specs.declared.entry.Entry.{Entry}
use Rattle.nob_drawing_plan.specs.Bars.{row_after}
use Rattle.nob_drawing_choice.specs.declared.choice.Choice.{Choice}
use Rattle.nob_drawing_choice.specs.Choices as spec

pub places_next : (choice : Choice) (fault : Option ℕ) (lives : List (List WireRep)) (entry : Entry) (J more : List Entry) (row : ℕ) (count after : ℕ) (all longer : List (Option ℕ)) (chosen : Bool) → more ≡ entry ∷ J → row ≡ row_after J
    → count ≡ spec.count_chosen choice fault lives J → all ≡ spec.places choice fault lives J → chosen ≡ spec.is_chosen choice fault lives row entry
    → after ≡ (if chosen then suc count else count) → longer ≡ all ++ (if chosen then Some (suc count) else None) ∷ []
    → (after ≡ spec.count_chosen choice fault lives more) × (longer ≡ spec.places choice fault lives more)
places_next choice fault lives entry J more row count after all longer chosen is place count_is all_is chosen_is counted placed = rw (is, counted, placed, chosen_is, place, count_is, all_is) (refl, refl)
