-- Of what kind the answer to an event is.
use Rattle.std.specs.Prelude.{◌≡◌, Bool, true, false, ◌||◌, List, [], ◌∷◌, Result, Ok, Err, IfOk}
use Rattle.std.specs.List.{AllByRecursion}
use Rattle.nob_model_types.specs.declared.event.Event.{Event}
use Rattle.nob_model_types.specs.declared.event.Event.TheVariants as events
use Rattle.nob_model_types.specs.declared.answer.Answer.{Answer}
use Rattle.nob_model_types.specs.declared.answer.Answer.TheVariants as answers
use Rattle.nob_model_types.specs.declared.refusal.Refusal.{Refusal}
use Rattle.nob_kept.specs.declared.receipt.Receipt.{Receipt}

-- whether an answer names an object that was made known
abbrev pub is_exported : Answer → Bool
is_exported (answers.Exported rep) = true
is_exported (_) = false

-- whether it says that something was done
abbrev pub is_done : Answer → Bool
is_done answers.Done = true
is_done (_) = false

-- whether it names a call that was made
abbrev pub is_called : Answer → Bool
is_called (answers.Called call) = true
is_called (_) = false

-- whether it is a reply, or says that none comes
abbrev pub is_reply : Answer → Bool
is_reply (answers.Replied status value) = true
is_reply answers.Ended = true
is_reply (_) = false

-- whether it is a job
abbrev pub is_job : Answer → Bool
is_job (answers.Job job) = true
is_job (_) = false

-- whether it says how a job ended
abbrev pub is_end : Answer → Bool
is_end answers.Finished = true
is_end answers.Dropped = true
is_end (_) = false

-- whether it names an item that was acted on
abbrev pub is_acted : Answer → Bool
is_acted (answers.Acted item) = true
is_acted (_) = false

-- whether it says that a session closed
abbrev pub is_closing : Answer → Bool
is_closing (answers.Closed reason) = true
is_closing (_) = false

-- whether it names a message that was settled
abbrev pub is_settled : Answer → Bool
is_settled (answers.Settled peer item) = true
is_settled (_) = false

-- whether it names a reference that was given up
abbrev pub is_cleaned : Answer → Bool
is_cleaned (answers.Cleaned rep) = true
is_cleaned (_) = false

-- whether it says that an object was withdrawn
abbrev pub is_withdrawn : Answer → Bool
is_withdrawn answers.Withdrawn = true
is_withdrawn (_) = false

-- whether it is frames
abbrev pub is_frames : Answer → Bool
is_frames (answers.Frames frames) = true
is_frames (_) = false

-- whether it says how many items were accepted
abbrev pub is_taken : Answer → Bool
is_taken (answers.Took count) = true
is_taken (_) = false

-- whether it names a session that was opened
abbrev pub is_opened : Answer → Bool
is_opened (answers.Opened number) = true
is_opened (_) = false

-- whether an answer is of the kind with which an event is answered
abbrev pub is_answer_to : Event → Answer → Bool
is_answer_to events.Export answer = is_exported answer
is_answer_to (events.Dup rep) answer = is_done answer
is_answer_to (events.Release rep) answer = is_done answer
is_answer_to (events.Call target method value) answer = is_called answer
is_answer_to (events.TakeReply call) answer = is_reply answer
is_answer_to events.Claim answer = is_job answer
is_answer_to (events.Finish job outcome) answer = is_end answer
is_answer_to (events.Act peer) answer = is_acted answer || is_closing answer
is_answer_to events.Settle answer = is_settled answer
is_answer_to events.Clean answer = is_cleaned answer
is_answer_to (events.Withdraw index) answer = is_withdrawn answer
is_answer_to (events.Transmit peer) answer = is_frames answer
is_answer_to (events.Arrive frame) answer = is_taken answer || is_closing answer
is_answer_to (events.Tick peer) answer = is_done answer || is_closing answer
is_answer_to (events.Close peer) answer = is_closing answer
is_answer_to (events.Open peer) answer = is_opened answer

-- a result is one of an event: an answer of its kind, or a refusal
abbrev pub IsResultOf : Event → Result Answer Refusal → Type 0
IsResultOf event result = IfOk result (λ answer. is_answer_to event answer ≡ true)

-- the result of each of these receipts is one of its event
abbrev pub AreOfTheirEvents : List Receipt → Type 0
AreOfTheirEvents receipts = AllByRecursion (λ receipt. IsResultOf receipt.event receipt.result) receipts

-- answers of these are all that an event may be answered with
abbrev pub IsAnsweredBy : (is_one : Answer → Bool) → Event → Type 0
IsAnsweredBy is_one event = (answer : Answer) → is_answer_to event answer ≡ true → is_one answer ≡ true

-- of the newest of these receipts, which stands FIRST, the event is answered by such
abbrev pub IsNewestAnsweredBy : (is_one : Answer → Bool) → List Receipt → Type 0
IsNewestAnsweredBy is_one [] = ⊥
IsNewestAnsweredBy is_one (receipt ∷ earlier) = IsAnsweredBy is_one receipt.event

-- an answer is of the kind of the event of the newest of these receipts
abbrev pub IsToNewest : List Receipt → Answer → Type 0
IsToNewest [] answer = ⊥
IsToNewest (receipt ∷ earlier) answer = is_answer_to receipt.event answer ≡ true

-- the newest of these receipts has this result
abbrev pub IsNewest : List Receipt → Result Answer Refusal → Type 0
IsNewest [] result = ⊥
IsNewest (receipt ∷ earlier) result = receipt.result ≡ result

-- an answer of a type as a space gives it, or a refusal
abbrev pub result_as : {A : Type 0} → (A → Answer) → Result A Refusal → Result Answer Refusal
result_as as_answer (Ok answer) = Ok (as_answer answer)
result_as as_answer (Err refusal) = Err refusal
