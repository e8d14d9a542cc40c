-- Which traces speak of the first session alone, as each trace of version 1 does.
use Rattle.std.specs.Prelude.{◌&&◌, Bool, true, false, nat_le, List, Result, Ok, Err}
use Rattle.std.specs.List.{list_all}
use Rattle.nob_frame.specs.declared.frame.Frame.{Frame}
use Rattle.nob_frame.specs.declared.version.Version.{Version}
use Rattle.nob_frame.specs.declared.version.Version.TheVariants.{One, Two}
use Rattle.nob_model_types.specs.declared.event.Event.{Event}
use Rattle.nob_model_types.specs.declared.event.Event.TheVariants as events
use Rattle.nob_model_types.specs.declared.answer.Answer.{Answer}
use Rattle.nob_model_types.specs.declared.answer.Answer.TheVariants as answers
use Rattle.nob_model_types.specs.declared.refusal.Refusal.{Refusal}
use Rattle.nob_trace.specs.declared.stamped.Stamped.{Stamped}
use Rattle.nob_trace.specs.declared.trace.Trace.{Trace}

-- whether a frame names no session after the first
abbrev pub names_first : Frame → Bool
names_first frame = nat_le frame.session 1

-- whether an event speaks of no session after the first: one that opens a session anew speaks of such a session
abbrev pub is_of_first : Event → Bool
is_of_first (events.Arrive frame) = names_first frame
is_of_first (events.Open peer) = false
is_of_first event = true

-- whether a result gives no frame of a session after the first
abbrev pub gives_first : Result Answer Refusal → Bool
gives_first (Ok (answers.Frames frames)) = list_all names_first frames
gives_first (Ok answer) = true
gives_first (Err refusal) = true

-- whether an entry speaks of no session after the first
abbrev pub speaks_of_first : Stamped → Bool
speaks_of_first entry = is_of_first entry.event && gives_first entry.result

-- whether a trace's version can speak of each of its entries: version 1 knows the first session alone
abbrev pub is_known_in : Version → List Stamped → Bool
is_known_in One entries = list_all speaks_of_first entries
is_known_in Two entries = true

-- whether a trace's version can speak of all that stands in it
abbrev pub is_known : Trace → Bool
is_known trace = is_known_in trace.version trace.entries
