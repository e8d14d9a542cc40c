-- Which items came, by sender and number.
use Rattle.std.specs.Prelude.{ℕ, Bool, ◌&&◌, not, ◌==◌, List, filter, Option, Some, None, is_some, if◌then◌else◌}
use Rattle.std.specs.Map.{lookup}
use Rattle.indexmap.specs.IndexMap.{insert_entry}
use Rattle.nob_frame.specs.declared.frame.Frame.{Frame}
use Rattle.nob_item.specs.declared.item.Item.{Item}
use Rattle.nob_model_session.specs.End.{brings_at}
use Rattle.nob_model_types.specs.Sessions.{item_spelt}
use Rattle.nob_model_types.specs.declared.deed.Deed.{Deed}
use Rattle.nob_model_types.specs.declared.deed.Deed.TheVariants.{Arrive, Open}
use Rattle.nob_check_tables.specs.Taken.{taken_from, is_present}
use Rattle.nob_check_tables.specs.declared.came.Arrival.{Arrival}

-- whether two arrivals are of one item
abbrev pub is_same_arrival : Arrival → Arrival → Bool
is_same_arrival arrival other = arrival.from == other.from && arrival.number == other.number

-- the item that was found, if it could be read
abbrev pub found_item : Option (Option Item) → Option Item
found_item None = None
found_item (Some item) = item

-- what came as item k from p
abbrev pub came_at : (p k : ℕ) → List (Arrival × Option Item) → Option (Option Item)
came_at p k came = lookup (is_same_arrival (record { from = p; number = k })) came

-- item k from p, where it came and could be read
abbrev pub item_in : (p k : ℕ) → List (Arrival × Option Item) → Option Item
item_in p k came = found_item (came_at p k came)

-- what came, with one item more
abbrev pub with_item : Arrival → Option Item → List (Arrival × Option Item) → List (Arrival × Option Item)
with_item arrival item came = insert_entry is_same_arrival came arrival item

-- what came once a frame arrived where so many items of its sender were accepted: the item of a Data frame in reach, unless one with its number came before
abbrev pub with_frame : Frame → (accepted : ℕ) → List (Arrival × Option Item) → List (Arrival × Option Item)
with_frame frame accepted came = if not (brings_at frame.seq frame accepted) then came else if is_some (came_at frame.from frame.seq came) then came else with_item (record { from = frame.from; number = frame.seq }) (item_spelt frame.payload) came

-- what came, without the items of p
abbrev pub without_items : ℕ → List (Arrival × Option Item) → List (Arrival × Option Item)
without_items p came = filter (λ item. not (p == item.0.from)) came

-- what came, after a deed, where the sessions had these numbers and so many items of each peer were accepted before: a frame of another session brings nothing
abbrev pub came_after : Deed → (numbers taken : List (ℕ × ℕ)) → List (Arrival × Option Item) → List (Arrival × Option Item)
came_after (Arrive frame count) numbers taken came = if is_present frame numbers then with_frame frame (taken_from frame.from taken) came else came
came_after (Open p k) numbers taken came = without_items p came
came_after (_) numbers taken came = came
