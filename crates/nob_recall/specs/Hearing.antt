-- What a space has heard of another one, and which frames can bring it nothing more. The newest entry stands FIRST.
use Rattle.std.specs.Prelude.{ℕ, ◌+◌, ◌-◌, ◌^◌, max, min, Bool, ◌&&◌, ◌||◌, ◌==◌, nat_lt, nat_le, List, [], ◌∷◌, Result, Ok, if◌then◌else◌}
use Rattle.nob_frame.specs.Kinds.{is_data, is_ack}
use Rattle.nob_frame.specs.declared.frame.Frame.{Frame}
use Rattle.nob_model_types.specs.declared.answer.Answer.{Answer}
use Rattle.nob_model_types.specs.declared.answer.Answer.TheVariants as answers
use Rattle.nob_model_types.specs.declared.entry.Entry.{Entry}
use Rattle.nob_model_types.specs.declared.event.Event.{Event}
use Rattle.nob_model_types.specs.declared.event.Event.TheVariants as events
use Rattle.nob_model_types.specs.declared.refusal.Refusal.{Refusal}
use Rattle.nob_recall.specs.declared.heard.Heard.{Heard}

-- before any entry: the first session, of which nothing came
abbrev pub no_word : Heard
no_word = record { session = 1; accepted = 0; ack = 0 }

-- what is heard of space a once the arrival of a frame took so many items: more of the session that the frame is of, if that is the present one
abbrev pub heard_frame : ℕ → Frame → ℕ → Heard → Heard
heard_frame a frame count h = if frame.from == a && frame.session == h.session then record { session = h.session; accepted = min (h.accepted + count) (2 ^ 64 - 1); ack = max h.ack frame.ack } else h

-- once a session with p opened under a higher number: nothing of it
abbrev pub heard_open : (a p k : ℕ) → Heard → Heard
heard_open a p k h = if p == a && nat_lt h.session k then record { session = k; accepted = 0; ack = 0 } else h

-- once an event was answered so
abbrev pub heard_by : ℕ → Event → Result Answer Refusal → Heard → Heard
heard_by a (events.Arrive frame) (Ok (answers.Took count)) h = heard_frame a frame count h
heard_by a (events.Open peer) (Ok (answers.Opened number)) h = heard_open a peer number h
heard_by a _ _ h = h

-- what space b has heard of space a: the highest session with a that it opened, and in that how many items of a it accepted, and the greatest acknowledgement of a that came
abbrev pub heard : (a b : ℕ) → List Entry → Heard
heard a b [] = no_word
heard a b (entry ∷ J) = if entry.space == b then heard_by a entry.event entry.result (heard a b J) else heard a b J

-- whether a frame brings no item that wasn't accepted: it is an Ack, or a Data frame with the number of one that was. A Close may always bring something
abbrev pub brings_none : Frame → ℕ → Bool
brings_none frame accepted = is_ack frame.kind || (is_data frame.kind && nat_le frame.seq accepted)

-- whether a frame can bring nothing more to a space that has heard so much of its sender: its session is over there; or it acknowledges nothing, and brings no item, that hadn't come
abbrev pub is_past : Frame → Heard → Bool
is_past frame h = nat_lt frame.session h.session || (frame.session == h.session && (nat_le frame.ack h.ack && brings_none frame h.accepted))
