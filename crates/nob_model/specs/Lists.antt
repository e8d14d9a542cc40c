-- Lists of right answers, and what they did: the lists that the laws of a space are about.
use Rattle.std.specs.Prelude.{◌≡◌, ⊤, ℕ, List, [], ◌∷◌, Some}
use Rattle.nob_ids.specs.declared.limits.Limits.{Limits}
use Rattle.nob_model_types.specs.declared.event.Event.{Event}
use Rattle.nob_model_types.specs.declared.entry.Entry.{Entry}
use Rattle.nob_model_types.specs.declared.deed.Deed.{Deed}
use Rattle.nob_model_types.specs.Deeds.{deed_by}
use Rattle.nob_model_history.specs.Histories.{history_of}
use Rattle.nob_model.specs.Right.{right_after, IsRight}

-- each entry of a list has the right result after the entries before
abbrev pub AreRight : (s n : ℕ) → Limits → List Entry → Type 0
AreRight s n limits [] = ⊤
AreRight s n limits (entry ∷ L) = IsRight s n limits entry L × AreRight s n limits L

-- a deed is right after the deeds before: it is what some event did by its right answer
abbrev pub IsRightDeed : (s n : ℕ) → Limits → Deed → List Deed → Type 0
IsRightDeed s n limits deed D = (event : Event) × (deed_by event (right_after s n limits (history_of s n D) event) ≡ Some deed)

-- each deed of a list is right after the deeds before
abbrev pub AreRightDeeds : (s n : ℕ) → Limits → List Deed → Type 0
AreRightDeeds s n limits [] = ⊤
AreRightDeeds s n limits (deed ∷ D) = IsRightDeed s n limits deed D × AreRightDeeds s n limits D
