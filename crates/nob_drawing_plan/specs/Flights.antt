-- The arrows of a drawing: a frame from the Transmit that gave it to an Arrive of it; the arrivals of frames that none gave; and
-- the frames that never arrive.
-- Rows count from 1 in merged order, and the newest entry of a journal stands FIRST.
use Rattle.std.specs.Prelude.{ℕ, ◌+◌, Bool, true, false, ◌&&◌, not, ◌==◌, List, [], ◌∷◌, ◌++◌, filter, Option, Some, None, Result, Ok, Err, if◌then◌else◌}
use Rattle.std.specs.List.{list_any}
use Rattle.std.specs.Str.{bytes_eq}
use Rattle.std.specs.Option.{option_or}
use Rattle.nob_frame.specs.Kinds.{kind_number, is_data, is_ack}
use Rattle.nob_frame.specs.declared.frame.Frame.{Frame}
use Rattle.nob_model_types.specs.declared.event.Event.{Event}
use Rattle.nob_model_types.specs.declared.event.Event.TheVariants.{Arrive}
use Rattle.nob_model_types.specs.declared.answer.Answer.{Answer}
use Rattle.nob_model_types.specs.declared.answer.Answer.TheVariants.{Took}
use Rattle.nob_model_types.specs.declared.refusal.Refusal.{Refusal}
use Rattle.nob_model_types.specs.declared.entry.Entry.{Entry}
use Rattle.nob_model_types.specs.Deeds.{deed_in}
use Rattle.nob_model_journal.specs.Journals.{frames_of}
use Rattle.nob_drawing_plan.specs.declared.flight.Departure.{Departure}
use Rattle.nob_drawing_plan.specs.declared.flight.Arrow.{Arrow}
use Rattle.nob_drawing_plan.specs.declared.flight.Stray.{Stray}
use Rattle.nob_drawing_plan.specs.Bars.{row_after}

-- whether two frames are the same
abbrev pub same_frame : Frame → Frame → Bool
same_frame frame other = kind_number frame.kind == kind_number other.kind && (frame.from == other.from && (frame.to == other.to && (frame.session == other.session && (frame.seq == other.seq && (frame.ack == other.ack && bytes_eq frame.payload other.payload)))))

-- whether a frame carries the item of another: both are Data frames of one session, in one direction, with one number
abbrev pub is_twin : Frame → Frame → Bool
is_twin frame other = is_data frame.kind && is_data other.kind && frame.from == other.from && frame.to == other.to && frame.session == other.session && frame.seq == other.seq

-- whether the item of a frame was given before
abbrev pub is_again : Frame → List Departure → Bool
is_again frame departures = list_any (λ departure. is_twin frame departure.frame) departures

-- the frame at a place of a Transmit that space s does at a row
abbrev pub departure_of : (s row place : ℕ) → Frame → List Departure → Departure
departure_of s row place frame before = record { frame = frame; space = s; row = row; place = place; again = is_again frame before }

-- departures with those of these frames, the first of which is at this place
abbrev pub with_departures : (s row place : ℕ) → List Frame → List Departure → List Departure
with_departures s row place [] departures = departures
with_departures s row place (frame ∷ frames) departures = with_departures s row (place + 1) frames (departures ++ departure_of s row place frame departures ∷ [])

-- the frames that Transmits gave, each with its Transmit, the first first
abbrev pub departures : List Entry → List Departure
departures [] = []
departures (entry ∷ J) = with_departures entry.space (row_after J) 0 (frames_of (deed_in entry)) (departures J)

-- whether a departure is of this frame
abbrev pub is_of : Frame → Departure → Bool
is_of frame departure = same_frame frame departure.frame

-- the newest departure of a frame
abbrev pub last_of : Frame → List Departure → Option Departure
last_of frame [] = None
last_of frame (departure ∷ departures) = option_or (last_of frame departures) (if is_of frame departure then Some departure else None)

-- whether an arrival takes nothing: it is refused, or accepts no item though its frame is no Ack (what it brings may be kept)
abbrev pub takes_nothing : Frame → Result Answer Refusal → Bool
takes_nothing frame (Err refusal) = true
takes_nothing frame (Ok (Took count)) = count == 0 && not (is_ack frame.kind)
takes_nothing frame (Ok _) = false

-- the arrow of a frame that arrives from this departure
abbrev pub arrow_from : (s row : ℕ) → (took_nothing : Bool) → Option Departure → List Arrow
arrow_from s row took_nothing None = []
arrow_from s row took_nothing (Some departure) = record { departure = departure; to = s; row = row; took_nothing = took_nothing } ∷ []

-- the arrow of an event with its result: from the newest departure of the frame that arrives
abbrev pub arrow_of : (s row : ℕ) → Event → Result Answer Refusal → List Departure → List Arrow
arrow_of s row (Arrive frame) result before = arrow_from s row (takes_nothing frame result) (last_of frame before)
arrow_of s row _ result before = []

-- the arrows of a journal, in the order of arrivals
abbrev pub arrows : List Entry → List Arrow
arrows [] = []
arrows (entry ∷ J) = arrows J ++ arrow_of entry.space (row_after J) entry.event entry.result (departures J)

-- the arrival at a row of a frame that has no departure
abbrev pub stray_from : (s row : ℕ) → Frame → Option Departure → List Stray
stray_from s row frame None = record { frame = frame; to = s; row = row } ∷ []
stray_from s row frame (Some departure) = []

-- what arrives by an event and was given by none before
abbrev pub stray_of : (s row : ℕ) → Event → List Departure → List Stray
stray_of s row (Arrive frame) before = stray_from s row frame (last_of frame before)
stray_of s row _ before = []

-- the arrivals of a journal that have no origin, in their order
abbrev pub strays : List Entry → List Stray
strays [] = []
strays (entry ∷ J) = strays J ++ stray_of entry.space (row_after J) entry.event (departures J)

-- whether an arrow is of a departure
abbrev pub comes_from : Departure → Arrow → Bool
comes_from departure arrow = departure.row == arrow.departure.row && same_frame departure.frame arrow.departure.frame

-- the departures from which nothing arrives
abbrev pub lost : List Arrow → List Departure → List Departure
lost all departures = filter (λ departure. not (list_any (comes_from departure) all)) departures
