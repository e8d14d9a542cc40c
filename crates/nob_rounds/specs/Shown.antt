-- What the entries of all spaces, the first first, show that a choice looks at.
use Rattle.std.specs.Prelude.{ℕ, max, List, filter_map, Option, Some, None, Result, Ok}
use Rattle.std.specs.List.{fold}
use Rattle.nob_ids.specs.declared.wire_rep.WireRep.{WireRep}
use Rattle.nob_model_types.specs.declared.answer.Answer.{Answer}
use Rattle.nob_model_types.specs.declared.answer.Answer.TheVariants as answers
use Rattle.nob_model_types.specs.declared.refusal.Refusal.{Refusal}
use Rattle.nob_model_types.specs.declared.entry.Entry.{Entry}

-- the object that an answer names as a new one
abbrev pub object_by : Result Answer Refusal → Option WireRep
object_by (Ok (answers.Exported rep)) = Some rep
object_by _ = None

-- the objects that were exported, the first first
abbrev pub objects_of : List Entry → List WireRep
objects_of entries = filter_map (λ (entry : Entry). object_by entry.result) entries

-- the number of the call that was made, or 0
abbrev pub call_by : Result Answer Refusal → ℕ
call_by (Ok (answers.Called call)) = call
call_by _ = 0

-- the number of the job that was claimed, or 0
abbrev pub job_by : Result Answer Refusal → ℕ
job_by (Ok (answers.Job job)) = job.job
job_by _ = 0

-- the greatest of what entries have, by a word that says what one has
abbrev pub greatest : (Entry → ℕ) → List Entry → ℕ
greatest word entries = fold (λ (most : ℕ) (entry : Entry). max most (word entry)) 0 entries

-- the greatest number of a call of any space, 0 where none was made
abbrev pub greatest_call : List Entry → ℕ
greatest_call entries = greatest (λ (entry : Entry). call_by entry.result) entries

-- the greatest number of a job of any space, 0 where none was claimed
abbrev pub greatest_job : List Entry → ℕ
greatest_job entries = greatest (λ (entry : Entry). job_by entry.result) entries
