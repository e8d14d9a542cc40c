-- The faults of an item, by the state.
use Rattle.std.specs.Prelude.{ℕ, Bool, ◌&&◌, ◌==◌, not, Option}
use Rattle.std.specs.List.{list_any}
use Rattle.nob_ids.specs.declared.reason.Reason.{Reason}
use Rattle.nob_ids.specs.declared.reason.Reason.TheVariants.{BadReference, OutOfPlace}
use Rattle.nob_item.specs.Kinds.{counted_in}
use Rattle.nob_item.specs.declared.item.Item.{Item}
use Rattle.nob_item.specs.declared.item.Item.TheVariants as items
use Rattle.nob_pins.specs.Bundles.{has_bundle}
use Rattle.nob_table_rows.specs.Standings.{is_pending, is_unknown}
use Rattle.nob_table.specs.Table.{standing}
use Rattle.nob_model_acting.specs.Acting.{awaits_reply, fault_if, first_fault}
use Rattle.nob_model.specs.Right.{own_ref}
use Rattle.nob_space_state.specs.Looks.{is_gone}
use Rattle.nob_space_state.specs.Parts.{State}

-- whether an item carries a reference to an object of space s that isn't live
abbrev pub carries_none : ℕ → State → Item → Bool
carries_none s st item = list_any (is_gone s st.table) (counted_in item)

-- whether an index was never given to an object of space s
abbrev pub was_never_given : (s index : ℕ) → State → Bool
was_never_given s index st = is_unknown (standing st.table (own_ref s index)).state

-- whether a Dirty to p for the object of an index waits for its answer
abbrev pub awaits_answer : (p index : ℕ) → State → Bool
awaits_answer p index st = not (index == 0) && is_pending (standing st.table (own_ref p index)).state

-- the first fault of an item from p at space s
unfoldable pub item_fault : (s p : ℕ) → Item → State → Option Reason
item_fault s p (items.Call call target method value) st = first_fault (fault_if (is_gone s st.table (own_ref s target)) BadReference) (fault_if (carries_none s st (items.Call call target method value)) BadReference)
item_fault s p (items.Reply call status value) st = first_fault (fault_if (not (list_any (awaits_reply p call) st.work.calls)) OutOfPlace) (fault_if (carries_none s st (items.Reply call status value)) BadReference)
item_fault s p (items.Settle item) st = fault_if (not (has_bundle st.pins.bundles p item)) OutOfPlace
item_fault s p (items.Dirty index) st = fault_if (was_never_given s index st) BadReference
item_fault s p (items.DirtyOk index) st = fault_if (not (awaits_answer p index st)) OutOfPlace
item_fault s p (items.DirtyNo index) st = fault_if (not (awaits_answer p index st)) OutOfPlace
item_fault s p (items.Clean index) st = fault_if (was_never_given s index st) BadReference
