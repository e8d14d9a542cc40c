-- Items that carry references, and whose messages wait.
use Rattle.std.specs.Prelude.{ℕ, Bool, false, List, Option, Some, None}
use Rattle.std.specs.List.{list_any}
use Rattle.nob_item.specs.Kinds.{counted_in}
use Rattle.nob_item.specs.declared.item.Item.{Item}
use Rattle.nob_model_types.specs.Messages.{is_of}
use Rattle.nob_model_types.specs.declared.message.Message.{Message}
use Rattle.nob_model_history.specs.Transit.{is_some_of}

-- whether an item, where there is one, carries counted references
abbrev pub carries_any : Option Item → Bool
carries_any None = false
carries_any (Some item) = is_some_of (counted_in item)

-- whether the message of item k from p is among those that wait
abbrev pub is_waiting : (p k : ℕ) → List Message → Bool
is_waiting p k messages = list_any (is_of p k) messages
