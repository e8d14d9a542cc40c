-- Why an item has no spelling: the first of I4, I5 and I3.
use Rattle.std.specs.Prelude.{ℕ, List, ◌++◌, Result, Ok, Err, if◌then◌else◌, not}
use Rattle.nob_pickle.specs.Writing.{pickle_of}
use Rattle.nob_pickle.specs.declared.value.Value.{Value}
use Rattle.nob_item.specs.Spelling.{call_head, reply_head, note}
use Rattle.nob_item.specs.Judging.{◌>>=◌, of_value, is_call_number, is_item_number, is_status}
use Rattle.nob_item.specs.declared.item.Item.{Item}
use Rattle.nob_item.specs.declared.item.Item.TheVariants as items
use Rattle.nob_item.specs.declared.fault.ItemFault.{ItemFault}
use Rattle.nob_item.specs.declared.fault.ItemFault.TheVariants as faults

-- a value's pickle behind a head
abbrev pub behind : List ℕ → Value → Result (List ℕ) ItemFault
behind head value = of_value (pickle_of value) >>= λ pickle. Ok (head ++ pickle)

-- the spelling of an item, or the first reason against it
abbrev pub bytes_of : Item → Result (List ℕ) ItemFault
bytes_of (items.Call call target method value) = if not (is_call_number call) then Err faults.Number else behind (call_head call target method) value
bytes_of (items.Reply call status value) = if not (is_call_number call) then Err faults.Number else if not (is_status status) then Err faults.Status else behind (reply_head call status) value
bytes_of (items.Settle item) = if not (is_item_number item) then Err faults.Number else Ok (note 3 item)
bytes_of (items.Dirty index) = Ok (note 4 index)
bytes_of (items.DirtyOk index) = Ok (note 5 index)
bytes_of (items.DirtyNo index) = Ok (note 6 index)
bytes_of (items.Clean index) = Ok (note 7 index)
