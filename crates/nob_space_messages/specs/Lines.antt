-- A line for each reference that messages wait for, and how many such copies each has. No public clause cites this module.
use Rattle.std.specs.Prelude.{◌≡◌, ℕ, ◌+◌, ◌-◌, ◌^◌, ◌<◌, ◌≤◌, ◌==◌, nat_lt, Bool, true, false, ◌&&◌, List, [], ◌∷◌, ◌++◌, length, map, filter, Option, Some, None, IsSome, is_some, slice_get, if◌then◌else◌}
use Prim.Native.Nat.{zero, suc}
use Rattle.std.specs.List.{AllByRecursion}
use Rattle.std.specs.Map.{lookup, keys_of, remove_entry}
use Rattle.std.specs.Option.{option_map_or}
use Rattle.nob_ids.specs.Names.{is_same}
use Rattle.nob_ids.specs.declared.wire_rep.WireRep.{WireRep}
use Rattle.nob_model_types.specs.declared.message.Message.{Message}
use Rattle.nob_slots.specs.Numbers.{NumberLists, numbers_of}
use Rattle.nob_rows.specs.Rows.{row_at}
use Rattle.nob_slots.specs.Slots.{item_at, is_number, IsAbove, IsRising, is_marked}
use Rattle.nob_space_messages.specs.declared.entry.Entry.{Entry}
use Rattle.nob_space_messages.specs.declared.owner_lines.Line.{Line}
use Rattle.nob_space_messages.specs.declared.owner_lines.Place.{Place}
use Rattle.nob_space_messages.specs.Waiting.{due_to, granted_message, is_awaited, is_due_where}

-- the lines of some references: the number of each and how many places it has, and who stands at each place
pub record LineMap : Type 0 where
  pub rows : List (WireRep × Line)
  pub links : List (Place × ℕ)

-- the lines of an owner's references, and for how many more places there is room
pub record OwnerList : Type 0 where
  pub lines : LineMap
  pub room : ℕ

-- the lines of each owner's references, those of an owner at its place, and for how many more places there is room, of whichever owner
pub record LineList : Type 0 where
  pub owners : List LineMap
  pub room : ℕ

-- lines that there may be
abbrev pub lines_or_none : Option LineMap → LineMap
lines_or_none None = record { rows = []; links = [] }
lines_or_none (Some lines) = lines

-- the lines of an owner's references
abbrev pub lines_of : LineList → ℕ → LineMap
lines_of lines owner = lines_or_none (slice_get lines.owners owner)

-- the references that have a line, owner by owner
abbrev pub reps_in : List LineMap → List WireRep
reps_in [] = []
reps_in (lines ∷ owners) = keys_of lines.rows ++ reps_in owners

-- whether two places in lines are one, each with the number of its line
abbrev pub is_place : Place → Place → Bool
is_place place other = place.line == other.line && place.place == other.place

-- a place of a line
abbrev pub place_of : Line → ℕ → Place
place_of line place = record { line = line.number; place = place }

-- whether a line has a place
abbrev pub has_place : Line → Place → Bool
has_place line place = line.number == place.line && nat_lt place.place line.count

-- the line with one place more
abbrev pub longer : Line → Line
longer line = record { number = line.number; count = line.count + 1 }

-- a line that there may be, or one without a place that has this number
abbrev pub line_or : ℕ → Option Line → Line
line_or number None = record { number = number; count = 0 }
line_or number (Some line) = line

-- how many places the line of a reference has
abbrev pub count_of : List (WireRep × Line) → WireRep → ℕ
count_of rows rep = option_map_or (λ line. line.count) (row_at rows rep) 0

-- how many places the line of a reference has, of whichever owner
abbrev pub places_for : LineList → WireRep → ℕ
places_for lines rep = count_of (lines_of lines rep.owner).rows rep

-- whether a reference has a line
abbrev pub has_line : LineList → WireRep → Bool
has_line lines rep = nat_lt 0 (places_for lines rep)

-- whether two places, each in the line of a reference, are one
abbrev pub is_link : WireRep → ℕ → WireRep → ℕ → Bool
is_link rep place other at = is_same rep other && place == at

-- which stamp is linked to a place
abbrev pub stamp_of : List (Place × ℕ) → Place → Option ℕ
stamp_of links place = lookup (is_place place) links

-- which stamp is linked to a place of a line that there may be
abbrev pub stamp_in : List (Place × ℕ) → Option Line → ℕ → Option ℕ
stamp_in links None place = None
stamp_in links (Some line) place = stamp_of links (place_of line place)

-- who stands at a place in the line of a reference
abbrev pub stamp_at : LineMap → WireRep → ℕ → Option ℕ
stamp_at lines rep place = stamp_in lines.links (row_at lines.rows rep) place

-- who stands at a place in the line of a reference, of whichever owner
abbrev pub link_at : LineList → WireRep → ℕ → Option ℕ
link_at lines rep place = stamp_at (lines_of lines rep.owner) rep place

-- whether a stamp is the one that stands there, if there is any
abbrev pub is_standing : Option ℕ → ℕ → Bool
is_standing None stamp = false
is_standing (Some standing) stamp = standing == stamp

-- one for the stamp that stands there, if there is any
abbrev pub once : Option ℕ → ℕ → ℕ
once standing stamp = if is_standing standing stamp then 1 else 0

-- how often a stamp stands among the first so many places in the line of a reference
abbrev pub stands : LineList → WireRep → ℕ → ℕ → ℕ
stands lines rep zero stamp = 0
stands lines rep (suc count) stamp = once (link_at lines rep count) stamp + stands lines rep count stamp

-- how often a stamp stands in the line of a reference
abbrev pub times_in : LineList → WireRep → ℕ → ℕ
times_in lines rep stamp = stands lines rep (places_for lines rep) stamp

-- the messages of the entries
abbrev pub items_of : List (ℕ × Entry) → List Message
items_of rows = map (λ row. row.1.message) rows

-- the stamps of the messages from a space
abbrev pub stamps_from : ℕ → List (ℕ × Entry) → List ℕ
stamps_from peer rows = map (λ row. row.0) (filter (λ row. row.1.message.from == peer) rows)

-- the entries without those of some stamps
abbrev pub without : List ℕ → List (ℕ × Entry) → List (ℕ × Entry)
without [] rows = rows
without (stamp ∷ stamps) rows = without stamps (remove_entry (is_number stamp) rows)

-- the message of an entry that there may be, in front of others
abbrev pub with_message : Option Entry → List Message → List Message
with_message None messages = messages
with_message (Some entry) messages = entry.message ∷ messages

-- the messages of the entries of some stamps
abbrev pub messages_at : List (ℕ × Entry) → List ℕ → List Message
messages_at rows [] = []
messages_at rows (stamp ∷ stamps) = with_message (item_at rows stamp) (messages_at rows stamps)

-- each of some stamps has an entry
abbrev pub AreThere : List (ℕ × Entry) → List ℕ → Type 0
AreThere rows stamps = AllByRecursion (λ stamp. IsSome (item_at rows stamp)) stamps

-- how many copies of a message are due and of a reference that passes a test
abbrev pub open_in : (WireRep → Bool) → Message → ℕ
open_in test message = length (filter (is_due_where test) message.copies)

-- the entries, each changed by its stamp
abbrev pub changed : (ℕ → Entry → Entry) → List (ℕ × Entry) → List (ℕ × Entry)
changed change rows = map (λ row. (row.0, change row.0 row.1)) rows

-- an entry with so many to wait for
abbrev pub with_waits : ℕ → Entry → Entry
with_waits waits entry = record { message = entry.message; waits = waits }

-- an entry with so many less to wait for
abbrev pub lowered_entry : ℕ → Entry → Entry
lowered_entry less entry = record { message = entry.message; waits = entry.waits - less }

-- entries with so many less to wait for, by stamp
abbrev pub lowered : (ℕ → ℕ) → List (ℕ × Entry) → List (ℕ × Entry)
lowered less rows = changed (λ stamp entry. lowered_entry (less stamp) entry) rows

-- an entry once a reference is granted
abbrev pub lent_entry : WireRep → Entry → Entry
lent_entry rep entry = record { message = granted_message rep entry.message; waits = entry.waits - due_to rep entry.message }

-- entries of which some, by stamp, are as they are once a reference is granted
abbrev pub lent_where : WireRep → (ℕ → Bool) → List (ℕ × Entry) → List (ℕ × Entry)
lent_where rep test rows = changed (λ stamp entry. if test stamp then lent_entry rep entry else entry) rows

-- the entries once a reference is granted
abbrev pub all_lent : WireRep → List (ℕ × Entry) → List (ℕ × Entry)
all_lent rep rows = changed (λ stamp entry. lent_entry rep entry) rows

-- the loans of a reference that are due to an entry
abbrev pub due_at : WireRep → Option Entry → ℕ
due_at rep entry = option_map_or (λ e. due_to rep e.message) entry 0

-- an entry is marked while it waits for nothing
abbrev pub AreMarked : List (ℕ × Entry) → List ℕ → Type 0
AreMarked rows marked = (stamp : ℕ) (entry : Entry) → item_at rows stamp ≡ Some entry → is_marked marked stamp ≡ (entry.waits == 0)

-- each entry waits for as many copies as are due and of a reference that passes a test
abbrev pub AreOpen : (WireRep → Bool) → List (ℕ × Entry) → Type 0
AreOpen test rows = (stamp : ℕ) (entry : Entry) → item_at rows stamp ≡ Some entry → entry.waits ≡ open_in test entry.message

-- each entry stands in the line of a reference as often as it waits for it
abbrev pub IsLined : LineList → List (ℕ × Entry) → WireRep → Type 0
IsLined lines rows rep = (stamp : ℕ) (entry : Entry) → item_at rows stamp ≡ Some entry → times_in lines rep stamp ≡ due_to rep entry.message

-- the same of each reference that has a line
abbrev pub AreLined : LineList → List (ℕ × Entry) → Type 0
AreLined lines rows = (rep : WireRep) → has_line lines rep ≡ true → IsLined lines rows rep

-- how often a stamp stands in the lines of these references
abbrev pub times_of : LineList → List WireRep → ℕ → ℕ
times_of lines [] stamp = 0
times_of lines (rep ∷ reps) stamp = times_in lines rep stamp + times_of lines reps stamp

-- each reference that has a line has a place in it
abbrev pub HavePlaces : List (WireRep × Line) → Type 0
HavePlaces rows = (rep : WireRep) → is_some (row_at rows rep) ≡ nat_lt 0 (count_of rows rep)

-- no line has a place
abbrev pub IsFree : List (WireRep × Line) → Place → Type 0
IsFree rows place = (rep : WireRep) (line : Line) → row_at rows rep ≡ Some line → has_place line place ≡ false

-- each line has a number of its own, below the next, and has places; nothing is linked to a place that no line has
pub record AreNumbered (rows : List (WireRep × Line)) (links : List (Place × ℕ)) (next : ℕ) : Type 0 where
  pub places : HavePlaces rows
  pub below : (rep : WireRep) (line : Line) → row_at rows rep ≡ Some line → line.number < next
  pub own : (rep other : WireRep) (line second : Line) → row_at rows rep ≡ Some line → row_at rows other ≡ Some second → line.number ≡ second.number → is_same rep other ≡ true
  pub held : (place : Place) → IsFree rows place → stamp_of links place ≡ None

-- each reference with a line is of this owner, and has a place
pub record AreOf (owner : ℕ) (lines : LineMap) : Type 0 where
  pub places : HavePlaces lines.rows
  pub only : (rep : WireRep) → (rep.owner == owner) ≡ false → count_of lines.rows rep ≡ 0

-- the lines of each owner, with so much room
abbrev pub lists_of : List OwnerList → ℕ → LineList
lists_of owners room = record { owners = map (λ owner. owner.lines) owners; room = room }

-- the lines of each owner have room for so many more places
abbrev pub HaveRoom : List OwnerList → ℕ → Type 0
HaveRoom owners room = (place : ℕ) (owner : OwnerList) → slice_get owners place ≡ Some owner → room ≤ owner.room

-- where there is room there are lines for each owner, each with that room, and none are of another owner's references
pub record AreOwners (owners : List OwnerList) (room : ℕ) : Type 0 where
  pub all : 0 < room → 33 ≤ length owners
  pub rooms : HaveRoom owners room
  pub own : (owner : ℕ) → AreOf owner (lines_of (lists_of owners room) owner)

-- the references that have a line are awaited, and no others
abbrev pub AreAwaited : LineList → Type 0
AreAwaited lines = (rep : WireRep) → is_awaited (reps_in lines.owners) rep ≡ has_line lines rep

-- what holds of the entries, of the marks, of the stamps by space, of the lines, of the next stamp and of the room
pub record AreWaiting (rows : List (ℕ × Entry)) (marked : List ℕ) (entries_room : ℕ) (froms : NumberLists) (lines : LineList) (next room : ℕ) : Type 0 where
  pub rising : IsRising rows
  pub above : IsAbove rows next
  pub marks : AreMarked rows marked
  pub stamps : (peer : ℕ) → numbers_of froms peer ≡ stamps_from peer rows
  pub waits : AreOpen (has_line lines) rows
  pub lined : AreLined lines rows
  pub awaited : AreAwaited lines
  -- stamps that are to come stand in no line
  pub fresh : (rep : WireRep) (stamp : ℕ) → next ≤ stamp → times_in lines rep stamp ≡ 0
  -- no line is longer than what came
  pub few : (rep : WireRep) → places_for lines rep ≤ next
  pub entry_room : 0 < room → 0 < entries_room
  pub stamp_room : 0 < room → 0 < froms.room
  pub line_room : room ≤ lines.room + 1
  pub small : next + room ≤ 2 ^ 62
