-- Raised: events, answers and work whose jobs have numbers so much higher, as where a life counts its jobs from 1 and earlier lives had some.
use Rattle.std.specs.Prelude.{ℕ, ◌+◌, map, Result, Ok, Err}
use Rattle.nob_model_types.specs.declared.event.Event.{Event}
use Rattle.nob_model_types.specs.declared.event.Event.TheVariants as events
use Rattle.nob_model_types.specs.declared.answer.Answer.{Answer}
use Rattle.nob_model_types.specs.declared.answer.Answer.TheVariants as answers
use Rattle.nob_model_types.specs.declared.answer.Job.{Job}
use Rattle.nob_model_types.specs.declared.refusal.Refusal.{Refusal}
use Rattle.nob_model_types.specs.declared.entry.Entry.{Entry}
use Rattle.nob_model_work.specs.declared.work.Run.{Run}
use Rattle.nob_model_work.specs.declared.work.Outstanding.{Outstanding}

-- a job under a number so much higher
abbrev pub raised_job : ℕ → Job → Job
raised_job more job = record { job = job.job + more; call = job.call; target = job.target; client = job.client; method = job.method; value = job.value }

-- an event: the job that ends has the higher number
abbrev pub raised_event : ℕ → Event → Event
raised_event more (events.Finish job outcome) = events.Finish (job + more) outcome
raised_event more event = event

-- an answer: the job that was claimed has the higher number
abbrev pub raised_answer : ℕ → Answer → Answer
raised_answer more (answers.Job job) = answers.Job (raised_job more job)
raised_answer more answer = answer

-- the answer in a result
abbrev pub raised_result : ℕ → Result Answer Refusal → Result Answer Refusal
raised_result more (Ok answer) = Ok (raised_answer more answer)
raised_result more (Err refusal) = Err refusal

-- an entry: its event and its result
abbrev pub raised_entry : ℕ → Entry → Entry
raised_entry more entry = record { space = entry.space; event = raised_event more entry.event; result = raised_result more entry.result }

-- a job that runs
abbrev pub raised_run : ℕ → Run → Run
raised_run more run = record { job = run.job + more; message = run.message }

-- outstanding work: each job that runs has the higher number
abbrev pub raised_work : ℕ → Outstanding → Outstanding
raised_work more work = record { waiting = work.waiting; ready = work.ready; running = map (raised_run more) work.running; replies = work.replies; calls = work.calls }
