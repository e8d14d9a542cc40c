-- Jobs and receipts: what is claimed and what is ended. In lists of receipts, and of jobs that are read off them, the newest stands FIRST.
use Rattle.std.specs.Prelude.{ℕ, Bool, true, false, List, [], ◌∷◌, map, Option, Some, None, Result, Ok, Err}
use Rattle.nob_model_types.specs.declared.event.Event.{Event}
use Rattle.nob_model_types.specs.declared.event.Event.TheVariants as events
use Rattle.nob_model_types.specs.declared.answer.Answer.{Answer}
use Rattle.nob_model_types.specs.declared.answer.Answer.TheVariants as answers
use Rattle.nob_model_types.specs.declared.answer.Job.{Job}
use Rattle.nob_model_types.specs.declared.refusal.Refusal.{Refusal}
use Rattle.nob_keeper.specs.Receipt.{Receipt}

-- the job that an event is to end, if it is to end one
abbrev pub finishes : Event → Option ℕ
finishes (events.Finish job outcome) = Some job
finishes _ = None

-- whether a result is no refusal
abbrev pub is_accepted : Result Answer Refusal → Bool
is_accepted (Ok answer) = true
is_accepted (Err refusal) = false

-- the job that is to be ended in front of others, where that was accepted
abbrev pub with_ended : Option ℕ → (accepted : Bool) → List ℕ → List ℕ
with_ended None accepted others = others
with_ended (Some job) true others = job ∷ others
with_ended (Some job) false others = others

-- the jobs that were ended by receipts
abbrev pub ended : List Receipt → List ℕ
ended [] = []
ended (receipt ∷ earlier) = with_ended (finishes receipt.event) (is_accepted receipt.result) (ended earlier)

-- whether an event is a Claim
abbrev pub is_claim : Event → Bool
is_claim events.Claim = true
is_claim _ = false

-- a job, or its number, in front of others, if there is one
abbrev pub with_job : {X : Type 0} → Option X → List X → List X
with_job None others = others
with_job (Some job) others = job ∷ others

-- the job that a result gives
abbrev pub job_of : Result Answer Refusal → Option Job
job_of (Ok (answers.Job job)) = Some job
job_of _ = None

-- the job that a result of an event gives, where it was a Claim
abbrev pub claimed_if : (was_claim : Bool) → Result Answer Refusal → Option Job
claimed_if true result = job_of result
claimed_if false result = None

-- the jobs that were claimed by receipts
abbrev pub claimed : List Receipt → List Job
claimed [] = []
claimed (receipt ∷ earlier) = with_job (claimed_if (is_claim receipt.event) receipt.result) (claimed earlier)

-- whether the newest receipt says that its event was accepted
abbrev pub was_accepted : List Receipt → Bool
was_accepted [] = false
was_accepted (receipt ∷ earlier) = is_accepted receipt.result

-- the numbers of jobs
abbrev pub numbers : List Job → List ℕ
numbers jobs = map (λ job. job.job) jobs

-- the number of a job, if there is one
abbrev pub number_in : Option Job → Option ℕ
number_in None = None
number_in (Some job) = Some job.job

-- the index of the object that a job calls, if there is one
abbrev pub target_in : Option Job → Option ℕ
target_in None = None
target_in (Some job) = Some job.target
