-- What an answered event was for a thread that waits for a reply.
use Rattle.std.specs.Prelude.{ℕ, Bool, false, ◌&&◌, nat_lt, length, if◌then◌else◌}
use Rattle.nob_model_types.specs.declared.event.Event.{Event}
use Rattle.nob_model_types.specs.declared.event.Event.TheVariants as events
use Rattle.nob_model_types.specs.declared.answer.Answer.{Answer}
use Rattle.nob_model_types.specs.declared.answer.Answer.TheVariants as answers
use Rattle.nob_node_parts.specs.declared.replies.Coming.{Coming}
use Rattle.nob_node_parts.specs.declared.replies.Coming.TheVariants.{Called, Came, Acted, Nothing}

-- whether an answer says that items were accepted
abbrev pub has_accepted : Answer → Bool
has_accepted (answers.Took count) = nat_lt 0 count
has_accepted (_) = false

-- a call was made; an item was accepted that may be a reply, as it has more bytes than a note can have; an item was acted on; or nothing of these
abbrev pub coming_by : Event → Answer → Coming
coming_by (events.Call target method value) answer = Called
coming_by (events.Arrive frame) answer = if has_accepted answer && nat_lt 9 (length frame.payload) then Came else Nothing
coming_by (events.Act peer) answer = Acted
coming_by (_) answer = Nothing
