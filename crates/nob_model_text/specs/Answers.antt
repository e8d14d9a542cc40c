-- The one spelling of each answer and each refusal in scripts and traces.
use Rattle.std.specs.Prelude.{ℕ, List, ◌∷◌, ◌++◌, codes}
use Rattle.std.specs.Fmt.{decimal}
use Rattle.nob_ids.specs.Reasons.{reason_number}
use Rattle.nob_model_types.specs.declared.answer.Job.{Job}
use Rattle.nob_model_types.specs.declared.answer.Answer.{Answer}
use Rattle.nob_model_types.specs.declared.answer.Answer.TheVariants as answers
use Rattle.nob_model_types.specs.declared.refusal.Use.{Use}
use Rattle.nob_model_types.specs.declared.refusal.Use.TheVariants as uses
use Rattle.nob_model_types.specs.declared.refusal.Refusal.{Refusal}
use Rattle.nob_model_types.specs.declared.refusal.Refusal.TheVariants as refusals
use Rattle.nob_model_text.specs.Values.{rep_text, value_text}

-- a job: its number, the space that calls, the number of its call, the index of the object, the method, the argument
abbrev pub job_text : Job → List ℕ
job_text job =
    codes "job " ++ (decimal job.job ++ (codes " from " ++ (decimal job.client ++ (codes " call " ++ (decimal job.call ++ (codes " on " ++ (decimal job.target ++ (codes " method " ++ (decimal job.method ++ 32 ∷ value_text job.value)))))))))

-- an answer, where the frames of a transmit are written so
abbrev pub answer_text : List ℕ → Answer → List ℕ
answer_text frames (answers.Exported rep) = codes "exported " ++ rep_text rep
answer_text frames answers.Done = codes "ok"
answer_text frames (answers.Called call) = codes "call " ++ decimal call
answer_text frames (answers.Replied status value) = codes "reply " ++ (decimal status ++ 32 ∷ value_text value)
answer_text frames answers.Ended = codes "ended"
answer_text frames (answers.Job job) = job_text job
answer_text frames answers.Finished = codes "finished"
answer_text frames answers.Dropped = codes "dropped"
answer_text frames (answers.Acted item) = codes "acted " ++ decimal item
answer_text frames (answers.Closed reason) = codes "closed " ++ decimal (reason_number reason)
answer_text frames (answers.Settled peer item) = codes "settled " ++ (decimal peer ++ 32 ∷ decimal item)
answer_text frames (answers.Cleaned rep) = codes "cleaned " ++ rep_text rep
answer_text frames answers.Withdrawn = codes "withdrawn"
answer_text frames (answers.Frames given) = frames
answer_text frames (answers.Took count) = codes "took " ++ decimal count
answer_text frames (answers.Opened number) = codes "opened " ++ decimal number

-- why an object can't be withdrawn: a number of its own behind the refusal's
abbrev pub use_text : Use → List ℕ
use_text uses.Held = codes "S11(1)"
use_text uses.InTransit = codes "S11(2)"
use_text uses.Listed = codes "S11(3)"
use_text uses.Agent = codes "S11(4)"

-- a refusal: its number
abbrev pub refusal_text : Refusal → List ℕ
refusal_text refusals.NoPeer = codes "S1"
refusal_text refusals.Closed = codes "S2"
refusal_text refusals.NoObject = codes "S3"
refusal_text refusals.NotHeld = codes "S4"
refusal_text refusals.QueueFull = codes "S5"
refusal_text refusals.SeqEnd = codes "S6"
refusal_text refusals.TooBig = codes "S7"
refusal_text refusals.NoCall = codes "S8"
refusal_text refusals.NotReady = codes "S9"
refusal_text refusals.Nothing = codes "S10"
refusal_text (refusals.StillUsed use_left) = use_text use_left
refusal_text refusals.NoJob = codes "S12"
refusal_text refusals.Limit = codes "S13"
refusal_text refusals.StillOpen = codes "S15"
refusal_text refusals.StillHeld = codes "S16"
