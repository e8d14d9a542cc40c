-- Reading an item from its bytes, with the first fault that is met.
use Rattle.std.specs.Prelude.{ℕ, ◌==◌, ◌&&◌, ◌||◌, Bool, false, List, [], ◌∷◌, length, nat_le, Result, Ok, Err, if◌then◌else◌}
use Rattle.nob_bytes.specs.Numbers as numbers
use Rattle.nob_pickle.specs.Limits.{most_in_all}
use Rattle.nob_pickle.specs.Reading.{value_read, wants_memory as pickle_wants_memory}
use Rattle.nob_item.specs.Judging.{◌>>=◌, of_value, is_call_number, is_item_number, is_status}
use Rattle.nob_item.specs.declared.item.Item.{Item}
use Rattle.nob_item.specs.declared.item.Item.TheVariants as items
use Rattle.nob_item.specs.declared.fault.ItemFault.{ItemFault}
use Rattle.nob_item.specs.declared.fault.ItemFault.TheVariants as faults

-- a number of so many bytes, and the bytes after it
abbrev pub number_at : ℕ → List ℕ → Result (ℕ × List ℕ) ItemFault
number_at size bs = numbers.number_at faults.Short size bs

-- a call's number, judged as soon as it is read
unfoldable pub call_number_at : List ℕ → Result (ℕ × List ℕ) ItemFault
call_number_at bs = do
  n ← number_at 8 bs
  if is_call_number n.0 then Ok n else Err faults.Number

-- an item's number, judged as soon as it is read
unfoldable pub item_number_at : List ℕ → Result (ℕ × List ℕ) ItemFault
item_number_at bs = do
  n ← number_at 8 bs
  if is_item_number n.0 then Ok n else Err faults.Number

-- a status, judged as soon as it is read
unfoldable pub status_at : List ℕ → Result (ℕ × List ℕ) ItemFault
status_at [] = Err faults.Short
status_at (status ∷ bs) = if is_status status then Ok (status, bs) else Err faults.Status

-- a number with no byte after it
abbrev pub alone : ℕ × List ℕ → Result ℕ ItemFault
alone n = if length n.1 == 0 then Ok n.0 else Err faults.Trailing

-- the number of a Call, its target, its method, and the bytes after them
unfoldable pub call_front : List ℕ → Result (ℕ × ℕ × ℕ × List ℕ) ItemFault
call_front bs = do
  call ← call_number_at bs
  target ← number_at 8 call.1
  method ← number_at 2 target.1
  Ok (call.0, target.0, method.0, method.1)

-- a Call behind its first byte: all that stands after its numbers is its value
unfoldable pub call_at : List ℕ → Result Item ItemFault
call_at bs = do
  front ← call_front bs
  value ← of_value (value_read front.3)
  Ok (items.Call front.0 front.1 front.2 value)

-- the number and the status of a Reply, and the bytes after them
unfoldable pub reply_front : List ℕ → Result (ℕ × ℕ × List ℕ) ItemFault
reply_front bs = do
  call ← call_number_at bs
  status ← status_at call.1
  Ok (call.0, status.0, status.1)

-- a Reply behind its first byte: all that stands after its numbers is its value
unfoldable pub reply_at : List ℕ → Result Item ItemFault
reply_at bs = do
  front ← reply_front bs
  value ← of_value (value_read front.2)
  Ok (items.Reply front.0 front.1 value)

-- the item's number in a Settle behind its first byte
unfoldable pub settle_at : List ℕ → Result ℕ ItemFault
settle_at bs = item_number_at bs >>= alone

-- the index in one of the other notes behind its first byte
unfoldable pub index_at : List ℕ → Result ℕ ItemFault
index_at bs = number_at 8 bs >>= alone

-- a note by its first byte
unfoldable pub note_by : ℕ → List ℕ → Result Item ItemFault
note_by first bs =
    if first == 3 then (settle_at bs >>= λ item. Ok (items.Settle item))
    else if first == 4 then (index_at bs >>= λ index. Ok (items.Dirty index))
    else if first == 5 then (index_at bs >>= λ index. Ok (items.DirtyOk index))
    else if first == 6 then (index_at bs >>= λ index. Ok (items.DirtyNo index))
    else if first == 7 then (index_at bs >>= λ index. Ok (items.Clean index))
    else Err faults.Tag

-- an item by its first byte
unfoldable pub item_by : ℕ → List ℕ → Result Item ItemFault
item_by first bs = if first == 1 then call_at bs else if first == 2 then reply_at bs else note_by first bs

-- whether reading a value wants memory: it has at most 16,000 bytes, and they begin as bytes or a list with something in it do
abbrev pub value_wants_memory : List ℕ → Bool
value_wants_memory bs = nat_le (length bs) most_in_all && pickle_wants_memory bs

-- what a test says of what was read, and no where there is a fault already
abbrev pub is_read_and : {A : Type 0} → (A → Bool) → Result A ItemFault → Bool
is_read_and test (Ok x) = test x
is_read_and test (Err fault) = false

-- whether a Call behind its first byte wants memory: its numbers are sound, and its value wants it
abbrev pub call_wants_memory : List ℕ → Bool
call_wants_memory bs = is_read_and (λ front. value_wants_memory front.3) (call_front bs)

-- whether a Reply behind its first byte wants memory: its numbers are sound, and its value wants it
abbrev pub reply_wants_memory : List ℕ → Bool
reply_wants_memory bs = is_read_and (λ front. value_wants_memory front.2) (reply_front bs)

-- whether an item by its first byte wants memory: no note does
abbrev pub item_wants_memory : ℕ → List ℕ → Bool
item_wants_memory first bs = (first == 1 && call_wants_memory bs) || (first == 2 && reply_wants_memory bs)

-- whether reading an item wants memory: for its value alone
abbrev pub wants_memory : List ℕ → Bool
wants_memory [] = false
wants_memory (first ∷ bs) = item_wants_memory first bs

-- the item that all of the bytes spell
abbrev pub item_read : List ℕ → Result Item ItemFault
item_read [] = Err faults.Short
item_read (first ∷ bs) = item_by first bs
