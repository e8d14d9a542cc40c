-- What is true of every drawing.
use Rattle.std.specs.Prelude.{◌≡◌, ◌⊎◌, ℕ, List, ◌∷◌, ◌++◌}
use Rattle.std.specs.List.{list_any, Contains}
use Rattle.nob_frame.specs.declared.frame.Frame.{Frame}
use Rattle.nob_model_types.specs.declared.event.Event.TheVariants.{Arrive}
use Rattle.nob_model_types.specs.declared.entry.Entry.{Entry}
use Rattle.nob_model_types.specs.Deeds.{deed_in}
use Rattle.nob_model_journal.specs.Journals.{frames_of, transmitted_frames, Each}
use Rattle.nob_model_journal.specs.Runs.{ArrivesGiven}
use Rattle.nob_drawing_plan.specs.declared.mark.Mark.{Mark}
use Rattle.nob_drawing_plan.specs.declared.flight.Arrow.{Arrow}
use Rattle.nob_drawing_plan.specs.declared.flight.Stray.{Stray}
use Rattle.nob_drawing_plan.specs.Marks.{same_mark, marks_at}
use Rattle.nob_drawing_plan.specs.Bars.{has_bar, bars, row_after}
use Rattle.nob_drawing_plan.specs.Flights.{arrows, strays}

-- an arrow is the one of an arrival of this frame: it ends there, and begins at an entry before it that gave the frame
pub record IsArrowOf (arrival : Entry) (frame : Frame) (before : List Entry) (arrow : Arrow) : Type 0 where
  pub ends_at : arrow.to ≡ arrival.space
  pub ends_in : arrow.row ≡ row_after before
  pub frame_is : arrow.departure.frame ≡ frame
  pub later : List Entry
  pub giver : Entry
  pub earlier : List Entry
  pub before_is : before ≡ later ++ giver ∷ earlier
  pub gives : Contains (frames_of (deed_in giver)) frame
  pub begins_at : arrow.departure.space ≡ giver.space
  pub begins_in : arrow.departure.row ≡ row_after earlier

-- each frame that arrives was given before
abbrev pub AreGiven : List Entry → Type 0
AreGiven J = Each (λ entry before. ArrivesGiven entry.event before) J

-- each arrival has its arrow
abbrev pub HaveArrows : List Entry → Type 0
HaveArrows J = (after before : List Entry) (arrival : Entry) (frame : Frame) → J ≡ after ++ arrival ∷ before → arrival.event ≡ Arrive frame → (arrow : Arrow) × Contains (arrows J) arrow × IsArrowOf arrival frame before arrow

-- each arrival has its arrow, where each frame that arrives was given before
abbrev pub EachHasItsArrow : Type 0
EachHasItsArrow = (J : List Entry) → AreGiven J → HaveArrows J

-- an arrival of this frame is marked as one without an origin: there is none before it
pub record IsStrayOf (arrival : Entry) (frame : Frame) (before : List Entry) (stray : Stray) : Type 0 where
  pub ends_at : stray.to ≡ arrival.space
  pub ends_in : stray.row ≡ row_after before
  pub frame_is : stray.frame ≡ frame
  pub not_given : Contains (transmitted_frames before) frame → ⊥

-- an arrival has its arrow among those of a journal, or is marked there as one without an origin
abbrev pub IsDrawn : (J : List Entry) (arrival : Entry) (frame : Frame) (before : List Entry) → Type 0
IsDrawn J arrival frame before =
    ((arrow : Arrow) × Contains (arrows J) arrow × IsArrowOf arrival frame before arrow)
    ⊎ ((stray : Stray) × Contains (strays J) stray × IsStrayOf arrival frame before stray)

-- each arrival of any journal has its arrow, or is marked as one without an origin
abbrev pub EachIsDrawn : Type 0
EachIsDrawn = (J after before : List Entry) (arrival : Entry) (frame : Frame) → J ≡ after ++ arrival ∷ before → arrival.event ≡ Arrive frame → IsDrawn J arrival frame before

-- after each entry exactly the marks that hold have a bar that goes on
abbrev pub BarsTell : Type 0
BarsTell = (n s : ℕ) (mark : Mark) (J : List Entry) → has_bar s mark (bars n J) ≡ list_any (same_mark mark) (marks_at n s J)
