-- What was asked of the owner of each reference and answered, by reference.
use Rattle.std.specs.Prelude.{ℕ, Bool, ◌&&◌, not, ◌==◌, List, [], ◌∷◌, filter, Option, Some, None, if◌then◌else◌}
use Rattle.std.specs.List.{list_any}
use Rattle.std.specs.Map.{lookup}
use Rattle.indexmap.specs.IndexMap.{insert_entry}
use Rattle.nob_ids.specs.Names.{is_same}
use Rattle.nob_ids.specs.declared.wire_rep.WireRep.{WireRep}
use Rattle.nob_item.specs.Kinds.{counted_in}
use Rattle.nob_item.specs.declared.item.Item.{Item}
use Rattle.nob_item.specs.declared.item.Item.TheVariants as items
use Rattle.nob_model_types.specs.Sessions.{is_peer}
use Rattle.nob_model_types.specs.Turns.{no_turns, is_standing, with_dirty, with_answer, with_clean}
use Rattle.nob_model_types.specs.declared.turns.OwnerAnswer.{OwnerAnswer}
use Rattle.nob_model_types.specs.declared.turns.OwnerAnswer.TheVariants as said
use Rattle.nob_model_types.specs.declared.turns.Turns.{Turns}
use Rattle.nob_check_tables.specs.Closed.{is_among}

-- the turns that were found, none where there is no row
abbrev pub found_turns : Option Turns → Turns
found_turns None = no_turns
found_turns (Some turns) = turns

-- the turns of a reference
abbrev pub turns_in : WireRep → List (WireRep × Turns) → Turns
turns_in rep rows = found_turns (lookup (is_same rep) rows)

-- the rows with other turns of a reference
abbrev pub with_turns : WireRep → Turns → List (WireRep × Turns) → List (WireRep × Turns)
with_turns rep turns rows = insert_entry is_same rows rep turns

-- whether a reference with these turns gets a Dirty when space s acts on an item that carries it
abbrev pub wants_dirty_by : (s n : ℕ) → List ℕ → WireRep → Turns → Bool
wants_dirty_by s n closed rep turns = is_peer s n rep.owner && not (is_among rep.owner closed) && not (is_standing turns)

-- the rows once a reference got a Dirty, if it gets one
abbrev pub rows_with_dirty : (s n : ℕ) → List ℕ → WireRep → List (WireRep × Turns) → List (WireRep × Turns)
rows_with_dirty s n closed rep rows = if wants_dirty_by s n closed rep (turns_in rep rows) then with_turns rep (with_dirty (turns_in rep rows)) rows else rows

-- the rows once each of some references got a Dirty, if it gets one, each once
abbrev pub rows_with_dirties : (s n : ℕ) → List ℕ → List WireRep → List (WireRep × Turns) → List (WireRep × Turns)
rows_with_dirties s n closed [] rows = rows
rows_with_dirties s n closed (rep ∷ reps) rows = if list_any (is_same rep) reps then rows_with_dirties s n closed reps rows else rows_with_dirty s n closed rep (rows_with_dirties s n closed reps rows)

-- the rows once the owner of a reference answered
abbrev pub rows_with_answer : WireRep → OwnerAnswer → List (WireRep × Turns) → List (WireRep × Turns)
rows_with_answer rep answer rows = with_turns rep (with_answer answer (turns_in rep rows)) rows

-- the rows once a reference was cleaned
abbrev pub rows_with_clean : WireRep → List (WireRep × Turns) → List (WireRep × Turns)
rows_with_clean rep rows = with_turns rep (with_clean (turns_in rep rows)) rows

-- the rows without those of the references that p owns
abbrev pub without_rows : ℕ → List (WireRep × Turns) → List (WireRep × Turns)
without_rows p rows = filter (λ row. not (p == row.0.owner)) rows

-- the rows once an item from p was acted on
abbrev pub with_item : (s n p : ℕ) → Option Item → List ℕ → List (WireRep × Turns) → List (WireRep × Turns)
with_item s n p None closed rows = rows
with_item s n p (Some (items.Call call target method value)) closed rows = rows_with_dirties s n closed (counted_in (items.Call call target method value)) rows
with_item s n p (Some (items.Reply call status value)) closed rows = rows_with_dirties s n closed (counted_in (items.Reply call status value)) rows
with_item s n p (Some (items.Settle item)) closed rows = rows
with_item s n p (Some (items.Dirty index)) closed rows = rows
with_item s n p (Some (items.DirtyOk index)) closed rows = rows_with_answer (record { owner = p; index = index }) said.Granted rows
with_item s n p (Some (items.DirtyNo index)) closed rows = rows_with_answer (record { owner = p; index = index }) said.Refused rows
with_item s n p (Some (items.Clean index)) closed rows = rows
