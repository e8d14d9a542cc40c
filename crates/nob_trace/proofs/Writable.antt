-- What a trace can have has a spelling.
use Rattle.std.proofs.Common.{List, [], ◌∷◌, Result, Ok, Err}
use Rattle.std.specs.List.{AllByRecursion}
use Rattle.nob_frame.specs.declared.frame.Frame.{Frame}
use Rattle.nob_frame.specs.Spelling.{Fits}
use Rattle.nob_frame.specs.declared.version.Version.{Version}
use Rattle.nob_model_types.specs.declared.event.Event.{Event}
use Rattle.nob_model_types.specs.declared.event.Event.TheVariants as events
use Rattle.nob_model_types.specs.declared.answer.Answer.{Answer}
use Rattle.nob_model_types.specs.declared.answer.Answer.TheVariants as answers
use Rattle.nob_model_types.specs.declared.refusal.Refusal.{Refusal}
use Rattle.nob_trace.specs.declared.stamped.Stamped.{Stamped}
use Rattle.nob_trace.specs.Frames.{IsFramed}
use Rattle.nob_trace.specs.Entries.{EventFits, TransmitFits, HasSpelling, IsTraced, IsTracedEvent, IsTracedResult}

arrival : (version : Version) (event : Event) → IsTracedEvent version event → EventFits version event
arrival version events.Export is = tt
arrival version (events.Dup r) is = tt
arrival version (events.Release r) is = tt
arrival version (events.Call t m v) is = tt
arrival version (events.TakeReply c) is = tt
arrival version events.Claim is = tt
arrival version (events.Finish j o) is = tt
arrival version (events.Act p) is = tt
arrival version events.Settle is = tt
arrival version events.Clean is = tt
arrival version (events.Withdraw x) is = tt
arrival version (events.Transmit p) is = tt
arrival version (events.Arrive f) is = is.0
arrival version (events.Tick p) is = tt
arrival version (events.Close p) is = tt
arrival version (events.Open p) is = is.0

frames : (version : Version) (fs : List Frame) → AllByRecursion (IsFramed version) fs → AllByRecursion (Fits version) fs
frames version [] all = tt
frames version (f ∷ fs) all = (all.0.0, frames version fs all.1)

transmit : (version : Version) (result : Result Answer Refusal) → IsTracedResult version result → TransmitFits version result
transmit version (Ok (answers.Exported r)) is = tt
transmit version (Ok answers.Done) is = tt
transmit version (Ok (answers.Called c)) is = tt
transmit version (Ok (answers.Replied s v)) is = tt
transmit version (Ok answers.Ended) is = tt
transmit version (Ok (answers.Job j)) is = tt
transmit version (Ok answers.Finished) is = tt
transmit version (Ok answers.Dropped) is = tt
transmit version (Ok (answers.Acted n)) is = tt
transmit version (Ok (answers.Closed r)) is = tt
transmit version (Ok (answers.Settled p n)) is = tt
transmit version (Ok (answers.Cleaned r)) is = tt
transmit version (Ok answers.Withdrawn) is = tt
transmit version (Ok (answers.Frames fs)) is = frames version fs is
transmit version (Ok (answers.Took n)) is = tt
transmit version (Ok (answers.Opened n)) is = tt
transmit version (Err refusal) is = tt

pub entries : (version : Version) (es : List Stamped) → AllByRecursion (IsTraced version) es → AllByRecursion (HasSpelling version) es
entries version [] all = tt
entries version (e ∷ es) all = ((arrival version e.event all.0.1, transmit version e.result all.0.2), entries version es all.1)
