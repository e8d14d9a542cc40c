-- What sending Dirties for references makes of the sessions and of the table.
use Rattle.std.specs.Prelude.{◌≡◌, ℕ, ◌+◌, ◌<◌, ◌≤◌, ◌^◌, ◌-◌, ◌==◌, true, false, List, [], ◌∷◌, length, map, slice_get, Option, Some, Ok, if◌then◌else◌}
use Rattle.std.specs.List.{AllByRecursion, IsDistinct, list_any}
use Rattle.nob_ids.specs.Names.{is_same}
use Rattle.nob_ids.specs.declared.limits.Limits.{Limits}
use Rattle.nob_ids.specs.declared.wire_rep.WireRep.{WireRep}
use Rattle.nob_model_session.specs.End.{last_item}
use Rattle.nob_model_session.specs.declared.entry.EndEntry.{EndEntry}
use Rattle.nob_model_session.specs.declared.entry.EndEntry.TheVariants.{Send}
use Rattle.nob_model_session.specs.declared.entry.Kind.TheVariants.{Note}
use Rattle.nob_item.specs.declared.item.Item.TheVariants as items
use Rattle.nob_session.specs.Stands as session
use Rattle.nob_session.specs.Stands.{Roomy, is_open_end}
use Rattle.nob_table_rows.specs.Standings.{is_unknown, pending_standing}
use Rattle.nob_table.specs.Table.{Table, SameObjects, standing, place_of, surrogate_total, is_far}
use Rattle.nob_table.specs.Table as table
use Rattle.nob_model_work.specs.Gifts.{dirty_for}
use Rattle.nob_model_history.specs.Ends.{items_to, payload_of, with_sends}
use Rattle.nob_space_items.specs.Messages.{owner_count}

-- the place of a reference once Dirties for these were sent, the first of them with place n: that of its last Dirty among them, or the one before
abbrev pub place_after : (n : ℕ) → List WireRep → WireRep → Option ℕ → Option ℕ
place_after n [] other before = before
place_after n (rep ∷ reps) other before = place_after (n + 1) reps other (if is_same rep other then Some n else before)

-- the table can tell of Dirties for these references: each is another space's and unknown, none stands twice, and there is room for all
pub record CanAsk (t : Table) (reps : List WireRep) : Type 0 where
  pub each : AllByRecursion (λ rep. (is_far t rep ≡ true) × (is_unknown (standing t rep).state ≡ true)) reps
  pub apart : IsDistinct is_same reps
  pub few : surrogate_total t + length reps ≤ table.most_surrogates
  pub room : length reps ≤ t.surrogate_room
  pub low : t.dirties + length reps < 2 ^ 128

-- the table has these references as pending surrogates, the last in order, and all else as before
pub record AsksFor (old new : Table) (reps : List WireRep) : Type 0 where
  pub standings : (other : WireRep) → standing new other ≡ (if list_any (is_same other) reps then pending_standing else standing old other)
  pub places : (other : WireRep) → place_of new other ≡ place_after old.dirties reps other (place_of old other)
  pub dirties : new.dirties ≡ old.dirties + length reps
  pub objects : SameObjects old new

-- an end can send so many items without memory
abbrev pub CanSend : ℕ → Roomy → Type 0
CanSend count end = (is_open_end end.end ≡ true) × (end.end.handed + count ≤ last_item) × (count ≤ end.room)

-- the ends with the owners of these references can send the Dirties
pub record CanSendAll (ends : List Roomy) (reps : List WireRep) : Type 0 where
  pub owners : AllByRecursion (λ rep. (1 ≤ rep.owner) × (rep.owner ≤ length ends)) reps
  pub each : (place : ℕ) (end : Roomy) → slice_get ends place ≡ Some end → 1 ≤ owner_count (place + 1) reps → CanSend (owner_count (place + 1) reps) end

-- an end has sent the Dirty for a reference
pub record SendsOne (old new : Roomy) (rep : WireRep) : Type 0 where
  pub ending : new.end.ending ≡ old.end.ending
  pub handed : new.end.handed ≡ old.end.handed + 1
  pub room : old.room ≤ new.room + 1
  pub answer : (me peer : ℕ) (limits : Limits) (L : List EndEntry) → session.Stands me peer limits old.end L → session.Stands me peer limits new.end (Send (payload_of (items.Dirty rep.index)) Note (Ok (old.end.handed + 1)) ∷ L)

-- the end with the owner of a reference has sent its Dirty, and every other end is as before
pub record SendsNext (old new : List Roomy) (rep : WireRep) : Type 0 where
  pub each : length new ≡ length old
  pub elsewhere : (place : ℕ) → place + 1 == rep.owner ≡ false → slice_get new place ≡ slice_get old place
  pub here : (end : Roomy) → slice_get new (rep.owner - 1) ≡ Some end → (before : Roomy) × (slice_get old (rep.owner - 1) ≡ Some before) × SendsOne before end rep

-- each end has sent the Dirties for those of these references that its peer owns, in order
pub record SendsAll (old new : List Roomy) (reps : List WireRep) : Type 0 where
  pub each : length new ≡ length old
  pub ends : (place : ℕ) (end : Roomy) → slice_get new place ≡ Some end → (before : Roomy) × (slice_get old place ≡ Some before)
      × ((me peer : ℕ) (limits : Limits) (L : List EndEntry) → session.Stands me peer limits before.end L → session.Stands me peer limits end.end (with_sends (items_to (place + 1) (map dirty_for reps)) L))
