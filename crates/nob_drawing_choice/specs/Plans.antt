-- What is drawn of a plan: what has all its rows among those that are drawn, at their places.
use Rattle.std.specs.Prelude.{ℕ, ◌-◌, Bool, ◌&&◌, List, length, take, filter, filter_map, slice_get, Option, Some, None, is_some, option_and_then, if◌then◌else◌}
use Rattle.nob_ids.specs.declared.wire_rep.WireRep.{WireRep}
use Rattle.nob_model_types.specs.declared.entry.Entry.{Entry}
use Rattle.nob_drawing_plan.specs.declared.bar.Bar.{Bar}
use Rattle.nob_drawing_plan.specs.declared.flight.Departure.{Departure}
use Rattle.nob_drawing_plan.specs.declared.flight.Arrow.{Arrow}
use Rattle.nob_drawing_plan.specs.declared.flight.Stray.{Stray}
use Rattle.nob_drawing_plan.specs.Bars.{bars}
use Rattle.nob_drawing_plan.specs.Flights.{arrows, departures, lost, strays}
use Rattle.nob_drawing_choice.specs.declared.choice.Choice.{Choice}
use Rattle.nob_drawing_choice.specs.Lives.{subject_of, lives_of}
use Rattle.nob_drawing_choice.specs.Choices.{is_asked, is_subject, places}

-- the place of a row, if it is drawn
abbrev pub place_of : List (Option ℕ) → ℕ → Option ℕ
place_of all row = option_and_then (λ place. place) (slice_get all (row - 1))

-- a departure at its place, if its row is drawn
abbrev pub departure_at : Departure → Option ℕ → Option Departure
departure_at departure None = None
departure_at departure (Some place) = Some (record { frame = departure.frame; space = departure.space; row = place; place = departure.place; again = departure.again })

-- the departures whose rows are drawn
abbrev pub departures_drawn : List (Option ℕ) → List Departure → List Departure
departures_drawn all departures = filter_map (λ departure. departure_at departure (place_of all departure.row)) departures

-- an arrow that ends at a place, from a departure, if both are drawn
abbrev pub arrow_between : Arrow → Option Departure → Option ℕ → Option Arrow
arrow_between arrow (Some departure) (Some place) = Some (record { departure = departure; to = arrow.to; row = place; took_nothing = arrow.took_nothing })
arrow_between arrow _ _ = None

-- an arrow with both its ends at their places, if both are drawn
abbrev pub arrow_at : List (Option ℕ) → Arrow → Option Arrow
arrow_at all arrow = arrow_between arrow (departure_at arrow.departure (place_of all arrow.departure.row)) (place_of all arrow.row)

-- the arrows both of whose rows are drawn
abbrev pub arrows_drawn : List (Option ℕ) → List Arrow → List Arrow
arrows_drawn all arrows = filter_map (arrow_at all) arrows

-- an arrival without an origin at its place, if it is drawn
abbrev pub stray_at : Stray → Option ℕ → Option Stray
stray_at stray None = None
stray_at stray (Some place) = Some (record { frame = stray.frame; to = stray.to; row = place })

-- those whose rows are drawn
abbrev pub strays_drawn : List (Option ℕ) → List Stray → List Stray
strays_drawn all strays = filter_map (λ stray. stray_at stray (place_of all stray.row)) strays

-- whether a bar is of a space and a reference that are asked for
abbrev pub is_own : Choice → Bar → Bool
is_own choice bar = is_asked choice.space bar.space && is_subject choice (subject_of bar.mark)

-- a bar from one place to another
abbrev pub bar_between : Bar → ℕ → Option ℕ → Bar
bar_between bar start end = record { space = bar.space; mark = bar.mark; lane = bar.lane; start = start; end = end }

-- a bar that begins at a place and ends at a row, if that is drawn
abbrev pub bar_up_to : List (Option ℕ) → Bar → ℕ → Option ℕ → Option Bar
bar_up_to all bar start None = Some (bar_between bar start None)
bar_up_to all bar start (Some row) = if is_some (place_of all row) then Some (bar_between bar start (place_of all row)) else None

-- a bar that begins at a place, if it does
abbrev pub bar_from : List (Option ℕ) → Bar → Option ℕ → Option Bar
bar_from all bar None = None
bar_from all bar (Some start) = bar_up_to all bar start bar.end

-- a bar at its places, if the rows are drawn at which it begins and ends
abbrev pub bar_at : List (Option ℕ) → Bar → Option Bar
bar_at all bar = bar_from all bar (place_of all bar.start)

-- the same of one that is of the space and the reference that are asked for
abbrev pub bar_drawn : Choice → List (Option ℕ) → Bar → Option Bar
bar_drawn choice all bar = if is_own choice bar then bar_at all bar else None

-- the bars of the space and the reference that are asked for
abbrev pub bars_drawn : Choice → List (Option ℕ) → List Bar → List Bar
bars_drawn choice all bars = filter_map (bar_drawn choice all) bars

-- how many of the first so many rows are drawn
abbrev pub count_drawn : ℕ → List (Option ℕ) → ℕ
count_drawn number all = length (filter is_some (take number all))

-- the references of whose lives each row of a journal of n spaces is part
abbrev pub lives_in : ℕ → List Entry → List (List WireRep)
lives_in n J = lives_of (bars n J) J

-- the places of its rows, of which the entry at one is wrong
abbrev pub places_in : ℕ → Choice → Option ℕ → List Entry → List (Option ℕ)
places_in n choice fault J = places choice fault (lives_in n J) J

-- what is drawn of its bars
abbrev pub bars_in : ℕ → Choice → Option ℕ → List Entry → List Bar
bars_in n choice fault J = bars_drawn choice (places_in n choice fault J) (bars n J)

-- of its arrows
abbrev pub arrows_in : ℕ → Choice → Option ℕ → List Entry → List Arrow
arrows_in n choice fault J = arrows_drawn (places_in n choice fault J) (arrows J)

-- of the frames that never arrive
abbrev pub lost_in : ℕ → Choice → Option ℕ → List Entry → List Departure
lost_in n choice fault J = departures_drawn (places_in n choice fault J) (lost (arrows J) (departures J))

-- and of the arrivals that have no origin
abbrev pub strays_in : ℕ → Choice → Option ℕ → List Entry → List Stray
strays_in n choice fault J = strays_drawn (places_in n choice fault J) (strays J)
