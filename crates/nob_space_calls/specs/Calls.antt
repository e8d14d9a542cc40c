-- The calls of a space and the ready replies to them, as a contract sees them.
use Rattle.std.specs.Prelude.{ℕ, ◌<◌, ◌≤◌, Bool, List, [], ◌∷◌, Option, Some, None}
use Rattle.std.specs.List.{AllByRecursion}
use Rattle.nob_item.specs.declared.item.Item.{Item}
use Rattle.nob_item.specs.declared.item.Item.TheVariants as items
use Rattle.nob_model_types.specs.declared.message.Message.{Message}
use Rattle.nob_model_types.specs.Messages.{replies_to}
use Rattle.nob_model_work.specs.declared.work.OwnCall.{OwnCall}

-- the calls, the first made first; the ready replies, in order of becoming ready; and how many more of both fit without memory
pub record CallLists : Type 0 where
  pub calls : List OwnCall
  pub replies : List Message
  pub calls_room : ℕ
  pub replies_room : ℕ

-- whether a message is the Reply to a call
abbrev pub is_reply : ℕ → Message → Bool
is_reply k message = replies_to k message.item

-- the call that an item is the Reply to
abbrev pub replied_call : Item → Option ℕ
replied_call (items.Reply call status value) = Some call
replied_call (items.Call call target method value) = None
replied_call (items.Settle number) = None
replied_call (items.Dirty note) = None
replied_call (items.DirtyOk note) = None
replied_call (items.DirtyNo note) = None
replied_call (items.Clean note) = None

-- the call of the reply that became ready first
abbrev pub first_call : List Message → Option ℕ
first_call [] = None
first_call (reply ∷ later) = replied_call reply.item

-- a number stands above those of all calls
abbrev pub IsAbove : List OwnCall → ℕ → Type 0
IsAbove calls number = AllByRecursion (λ own. own.call < number) calls

-- what had room before has it still
abbrev pub KeepsRooms : CallLists → CallLists → Type 0
KeepsRooms old new = (old.calls_room ≤ new.calls_room) × (old.replies_room ≤ new.replies_room)
