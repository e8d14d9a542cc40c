-- The messages of a space that were acted on and aren't over, as a contract sees them.
use Rattle.std.specs.Prelude.{List, [], ◌∷◌, Option, Some, None}
use Rattle.nob_model_types.specs.declared.message.Message.{Message}
use Rattle.nob_space_messages.specs.Jobs.{JobLists}
use Rattle.nob_space_messages.specs.Waiting.{WaitingList}

-- those that wait for their references, and those that are ready or run
pub record MessageLists : Type 0 where
  pub waiting : WaitingList
  pub jobs : JobLists

-- a message that there may be, as a list
abbrev pub if_any : Option Message → List Message
if_any None = []
if_any (Some message) = message ∷ []
