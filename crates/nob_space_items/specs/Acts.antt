-- What acting on the item at the front of an inbox comes to.
use Rattle.std.specs.Prelude.{◌≡◌, ◌⊎◌, ℕ, List, Option, Some, None, Result, Ok, Err, IsOk, IsTrue}
use Rattle.nob_item.specs.Reading.{wants_memory}
use Rattle.nob_model_types.specs.declared.answer.Answer.{Answer}
use Rattle.nob_model_types.specs.declared.answer.Answer.TheVariants as answers
use Rattle.nob_model_types.specs.declared.refusal.Refusal.{Refusal}
use Rattle.nob_model_types.specs.declared.deed.Cause.TheVariants as causes
use Rattle.nob_model_types.specs.declared.deed.Deed.{Deed}
use Rattle.nob_model_types.specs.declared.deed.Deed.TheVariants as did
use Rattle.nob_space_state.specs.declared.error.SpaceError.{SpaceError}
use Rattle.nob_space_state.specs.declared.error.SpaceError.TheVariants as errors
use Rattle.nob_space_items.specs.declared.acting.ActResult.{ActResult}
use Rattle.nob_space_items.specs.declared.acting.ActResult.TheVariants as results

-- what it came to, as an answer
abbrev pub act_answer : ActResult → Answer
act_answer (results.Acted item) = answers.Acted item
act_answer (results.Closed reason) = answers.Closed reason

-- what was done, by what it came to
abbrev pub act_deed : ℕ → ActResult → Deed
act_deed p (results.Acted item) = did.Act p item
act_deed p (results.Closed reason) = did.Closing p reason causes.Item

-- the item at the front can be read only with memory
abbrev pub FrontWants : Option (ℕ × List ℕ) → Type 0
FrontWants None = ⊥
FrontWants (Some front) = IsTrue (wants_memory front.1)

-- a result is right for the item at this front, unless memory was wanted: to read the item, or where nothing else refuses the event
abbrev pub ActsOrWants : Option (ℕ × List ℕ) → Result ActResult SpaceError → Result Answer Refusal → Type 0
ActsOrWants front (Ok done) right = right ≡ Ok (act_answer done)
ActsOrWants front (Err (errors.Refused refusal)) right = right ≡ Err refusal
ActsOrWants front (Err errors.OutOfMemory) right = IsOk right ⊎ FrontWants front
