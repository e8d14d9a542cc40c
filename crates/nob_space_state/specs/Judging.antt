-- What is answered to the events on objects and on what is outstanding, by the state.
use Rattle.std.specs.Prelude.{ℕ, ◌||◌, ◌==◌, not, nat_le, Option, Some, None, if◌then◌else◌}
use Rattle.nob_ids.specs.declared.wire_rep.WireRep.{WireRep}
use Rattle.nob_table.specs.Table.{standing, live}
use Rattle.nob_model_types.specs.declared.refusal.Refusal.{Refusal}
use Rattle.nob_model_types.specs.declared.refusal.Refusal.TheVariants as refusals
use Rattle.nob_model_types.specs.declared.refusal.Use.TheVariants as uses
use Rattle.nob_model.specs.Right.{greatest_hand, most_objects, last_number, own_ref}
use Rattle.nob_pins.specs.Bundles.{count_of}
use Rattle.nob_space_state.specs.Parts.{State}
use Rattle.nob_space_state.specs.Looks.{has_holds, is_gone, is_cut, has_clients}

-- why a Dup is refused
unfoldable pub dup_refusal : ℕ → State → WireRep → Option Refusal
dup_refusal s st rep =
    if is_gone s st.table rep then Some refusals.NoObject
    else if rep.index == 0 then Some refusals.NotHeld
    else if not (has_holds st.table rep) then Some refusals.NotHeld
    else if is_cut s st.sessions rep then Some refusals.Closed
    else if nat_le greatest_hand (standing st.table rep).counts.hand then Some refusals.Limit
    else None

-- why a Release is refused
unfoldable pub release_refusal : ℕ → State → WireRep → Option Refusal
release_refusal s st rep =
    if is_gone s st.table rep then Some refusals.NoObject
    else if rep.index == 0 then Some refusals.NotHeld
    else if (standing st.table rep).counts.hand == 0 then Some refusals.NotHeld
    else None

-- why an Export is refused
unfoldable pub export_refusal : State → Option Refusal
export_refusal st = if nat_le most_objects (live st.table) || nat_le last_number st.table.exported then Some refusals.Limit else None

-- why a Withdraw is refused
unfoldable pub withdraw_refusal : ℕ → State → ℕ → Option Refusal
withdraw_refusal s st index =
    if index == 0 then Some (refusals.StillUsed uses.Agent)
    else if is_gone s st.table (own_ref s index) then Some refusals.NoObject
    else if has_holds st.table (own_ref s index) then Some (refusals.StillUsed uses.Held)
    else if not (count_of st.pins.bundles (own_ref s index) == 0) then Some (refusals.StillUsed uses.InTransit)
    else if has_clients st.dirty index then Some (refusals.StillUsed uses.Listed)
    else None
