-- What the readers of answers answer.
use Rattle.std.specs.Prelude.{◌≡◌, ℕ, ◌^◌, ◌<◌, List, [], Result}
use Rattle.nob_ids.specs.Names.{IsSpace}
use Rattle.nob_model_types.specs.declared.answer.Job.{Job}
use Rattle.nob_model_types.specs.declared.answer.Answer.{Answer}
use Rattle.nob_model_types.specs.declared.answer.Answer.TheVariants as answers
use Rattle.nob_model_text.specs.declared.unread.Unread.{Unread}
use Rattle.nob_model_text.specs.Values.{HasText}
use Rattle.nob_model_text.specs.Events.{IsRep}
use Rattle.nob_model_text.specs.Answers.{answer_text}
use Rattle.nob_model_text.specs.Reading.{Reads}

-- a job with numbers of their types, whose argument has a text
pub record IsJob (job : Job) : Type 0 where
  pub number : job.job < 2 ^ 64
  pub client : IsSpace job.client
  pub call : job.call < 2 ^ 64
  pub target : job.target < 2 ^ 64
  pub method : job.method < 2 ^ 16
  pub value : HasText job.value

-- an answer that has a text of its own: its numbers are of their types, its value has a text, and it is no transmit's
abbrev pub IsTold : Answer → Type 0
IsTold (answers.Exported rep) = IsRep rep
IsTold answers.Done = Unit {0}
IsTold (answers.Called call) = call < 2 ^ 64
IsTold (answers.Replied status value) = (status < 2 ^ 8) × HasText value
IsTold answers.Ended = Unit {0}
IsTold (answers.Job job) = IsJob job
IsTold answers.Finished = Unit {0}
IsTold answers.Dropped = Unit {0}
IsTold (answers.Acted item) = item < 2 ^ 64
IsTold (answers.Closed reason) = Unit {0}
IsTold (answers.Settled peer item) = IsSpace peer × (item < 2 ^ 64)
IsTold (answers.Cleaned rep) = IsRep rep
IsTold answers.Withdrawn = Unit {0}
IsTold (answers.Frames frames) = ⊥
IsTold (answers.Took count) = count < 2 ^ 64
IsTold (answers.Opened number) = number < 2 ^ 32

-- the text is the answer's, and the answer has one of its own
abbrev pub Tells : List ℕ → Answer → Type 0
Tells text answer = IsTold answer × (text ≡ answer_text [] answer)

-- where the text is this answer's, and the answer has one of its own, it is read, unless memory runs out
abbrev pub ReadsTold : List ℕ → Result Answer Unread → Answer → Type 0
ReadsTold text result answer = IsTold answer → text ≡ answer_text [] answer → Reads (λ a. a ≡ answer) result
