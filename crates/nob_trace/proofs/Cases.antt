-- Events and results of traces by what is read of them.
use Rattle.std.proofs.Common.{◌≡◌, ℕ, true, false, true≢false, refl, sym, ap, ◌∙◌, List, [], ◌∷◌, Result, Ok, Err}
use Rattle.nob_frame.specs.declared.version.Version.{Version}
use Rattle.nob_model_types.specs.declared.event.Event.{Event}
use Rattle.nob_model_types.specs.declared.event.Event.TheVariants as events
use Rattle.nob_model_types.specs.declared.answer.Answer.{Answer}
use Rattle.nob_model_types.specs.declared.answer.Answer.TheVariants as answers
use Rattle.nob_model_types.specs.declared.refusal.Use.TheVariants as uses
use Rattle.nob_model_types.specs.declared.refusal.Refusal.{Refusal}
use Rattle.nob_model_types.specs.declared.refusal.Refusal.TheVariants as refusals
use Rattle.nob_model_text.specs.Events.{event_text}
use Rattle.nob_model_text.specs.Answers.{answer_text}
use Rattle.nob_model_reading.specs.Spoken.{Speaks}
use Rattle.nob_model_reading.specs.Told.{IsTold, Tells}
use Rattle.nob_trace.specs.Entries.{has_event, IsTracedEvent, IsTracedResult, arrival_text, transmit_text, result_text}

-- an event of a script is one of a trace of a version that has it
pub no_arrival : (version : Version) (text : List ℕ) (event : Event) → Speaks text event → has_event version event ≡ true → IsTracedEvent version event × (text ≡ event_text (arrival_text version event) event)
no_arrival version text events.Export speaks has = speaks
no_arrival version text (events.Dup r) speaks has = speaks
no_arrival version text (events.Release r) speaks has = speaks
no_arrival version text (events.Call t m v) speaks has = speaks
no_arrival version text (events.TakeReply c) speaks has = speaks
no_arrival version text events.Claim speaks has = speaks
no_arrival version text (events.Finish j o) speaks has = speaks
no_arrival version text (events.Act p) speaks has = speaks
no_arrival version text events.Settle speaks has = speaks
no_arrival version text events.Clean speaks has = speaks
no_arrival version text (events.Withdraw x) speaks has = speaks
no_arrival version text (events.Transmit p) speaks has = speaks
no_arrival version text (events.Arrive f) speaks has = absurd speaks.0
no_arrival version text (events.Tick p) speaks has = speaks
no_arrival version text (events.Close p) speaks has = speaks
no_arrival version text (events.Open p) speaks has = ((has, speaks.0), speaks.1)

-- a trace's version has each event that can stand in it
pub traced_had : (version : Version) (event : Event) → IsTracedEvent version event → has_event version event ≡ true
traced_had version (events.Open p) is = is.0
traced_had version event is = refl

-- so what a version hasn't is none that can stand in its traces
pub not_had : (version : Version) (found event : Event) → IsTracedEvent version event → found ≡ event → has_event version found ≡ false → ⊥
not_had version found event is same none = true≢false (sym (traced_had version event is) ∙ ap (has_event version) (sym same) ∙ none)

-- an answer that has a text of its own is one of a trace
pub no_frames : (version : Version) (text : List ℕ) (answer : Answer) → Tells text answer → IsTracedResult version (Ok answer) × (text ≡ answer_text (transmit_text version answer) answer)
no_frames version text (answers.Exported r) tells = tells
no_frames version text answers.Done tells = tells
no_frames version text (answers.Called c) tells = tells
no_frames version text (answers.Replied s v) tells = tells
no_frames version text answers.Ended tells = tells
no_frames version text (answers.Job j) tells = tells
no_frames version text answers.Finished tells = tells
no_frames version text answers.Dropped tells = tells
no_frames version text (answers.Acted n) tells = tells
no_frames version text (answers.Closed r) tells = tells
no_frames version text (answers.Settled p n) tells = tells
no_frames version text (answers.Cleaned r) tells = tells
no_frames version text answers.Withdrawn tells = tells
no_frames version text (answers.Frames fs) tells = absurd tells.0
no_frames version text (answers.Took n) tells = tells
no_frames version text (answers.Opened n) tells = tells

-- a result whose text begins neither as a refusal nor as frames is an answer of its own text
pub by_answer : (version : Version) (P : Result Answer Refusal → Type 0) (text : List ℕ) (r : Result Answer Refusal) → IsTracedResult version r → text ≡ result_text version r
    → ((rest : List ℕ) → text ≡ 83 ∷ rest → ⊥) → ((rest : List ℕ) → text ≡ 102 ∷ 114 ∷ rest → ⊥) → ((a : Answer) → IsTold a → text ≡ answer_text [] a → P (Ok a)) → P r
by_answer version P text (Ok (answers.Exported r)) is spelt refused given told = told (answers.Exported r) is spelt
by_answer version P text (Ok answers.Done) is spelt refused given told = told answers.Done is spelt
by_answer version P text (Ok (answers.Called c)) is spelt refused given told = told (answers.Called c) is spelt
by_answer version P text (Ok (answers.Replied s v)) is spelt refused given told = told (answers.Replied s v) is spelt
by_answer version P text (Ok answers.Ended) is spelt refused given told = told answers.Ended is spelt
by_answer version P text (Ok (answers.Job j)) is spelt refused given told = told (answers.Job j) is spelt
by_answer version P text (Ok answers.Finished) is spelt refused given told = told answers.Finished is spelt
by_answer version P text (Ok answers.Dropped) is spelt refused given told = told answers.Dropped is spelt
by_answer version P text (Ok (answers.Acted n)) is spelt refused given told = told (answers.Acted n) is spelt
by_answer version P text (Ok (answers.Closed r)) is spelt refused given told = told (answers.Closed r) is spelt
by_answer version P text (Ok (answers.Settled p n)) is spelt refused given told = told (answers.Settled p n) is spelt
by_answer version P text (Ok (answers.Cleaned r)) is spelt refused given told = told (answers.Cleaned r) is spelt
by_answer version P text (Ok answers.Withdrawn) is spelt refused given told = told answers.Withdrawn is spelt
by_answer version P text (Ok (answers.Frames [])) is spelt refused given told = absurd (given _ spelt)
by_answer version P text (Ok (answers.Frames (f ∷ fs))) is spelt refused given told = absurd (given _ spelt)
by_answer version P text (Ok (answers.Took n)) is spelt refused given told = told (answers.Took n) is spelt
by_answer version P text (Ok (answers.Opened n)) is spelt refused given told = told (answers.Opened n) is spelt
by_answer version P text (Err refusals.NoPeer) is spelt refused given told = absurd (refused _ spelt)
by_answer version P text (Err refusals.Closed) is spelt refused given told = absurd (refused _ spelt)
by_answer version P text (Err refusals.NoObject) is spelt refused given told = absurd (refused _ spelt)
by_answer version P text (Err refusals.NotHeld) is spelt refused given told = absurd (refused _ spelt)
by_answer version P text (Err refusals.QueueFull) is spelt refused given told = absurd (refused _ spelt)
by_answer version P text (Err refusals.SeqEnd) is spelt refused given told = absurd (refused _ spelt)
by_answer version P text (Err refusals.TooBig) is spelt refused given told = absurd (refused _ spelt)
by_answer version P text (Err refusals.NoCall) is spelt refused given told = absurd (refused _ spelt)
by_answer version P text (Err refusals.NotReady) is spelt refused given told = absurd (refused _ spelt)
by_answer version P text (Err refusals.Nothing) is spelt refused given told = absurd (refused _ spelt)
by_answer version P text (Err (refusals.StillUsed uses.Held)) is spelt refused given told = absurd (refused _ spelt)
by_answer version P text (Err (refusals.StillUsed uses.InTransit)) is spelt refused given told = absurd (refused _ spelt)
by_answer version P text (Err (refusals.StillUsed uses.Listed)) is spelt refused given told = absurd (refused _ spelt)
by_answer version P text (Err (refusals.StillUsed uses.Agent)) is spelt refused given told = absurd (refused _ spelt)
by_answer version P text (Err refusals.NoJob) is spelt refused given told = absurd (refused _ spelt)
by_answer version P text (Err refusals.Limit) is spelt refused given told = absurd (refused _ spelt)
by_answer version P text (Err refusals.StillOpen) is spelt refused given told = absurd (refused _ spelt)
by_answer version P text (Err refusals.StillHeld) is spelt refused given told = absurd (refused _ spelt)
