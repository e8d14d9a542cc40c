-- What the readers of events answer.
use Rattle.std.specs.Prelude.{◌≡◌, ℕ, List, [], Result}
use Rattle.nob_model_types.specs.declared.event.Event.{Event}
use Rattle.nob_model_text.specs.declared.unread.Unread.{Unread}
use Rattle.nob_model_text.specs.Events.{IsSpoken, event_text}
use Rattle.nob_model_text.specs.Reading.{Reads}

-- the text is the event's, and a script can have it
abbrev pub Speaks : List ℕ → Event → Type 0
Speaks text event = IsSpoken event × (text ≡ event_text [] event)

-- where the text is this event's, and a script can have it, it is read, unless memory runs out
abbrev pub ReadsSpoken : List ℕ → Result Event Unread → Event → Type 0
ReadsSpoken text result event = IsSpoken event → text ≡ event_text [] event → Reads (λ e. e ≡ event) result
