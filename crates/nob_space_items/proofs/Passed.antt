-- An error of acting on an item, handed on.
use Rattle.std.proofs.Common.{◌≡◌, ℕ, List, Option, Result, Ok, Err, IsErrAnd, inl, sym, subst}
use Rattle.nob_model_types.specs.declared.answer.Answer.{Answer}
use Rattle.nob_model_types.specs.declared.refusal.Refusal.{Refusal}
use Rattle.nob_space_state.specs.declared.error.SpaceError.{SpaceError}
use Rattle.nob_space_state.specs.declared.error.SpaceError.TheVariants as errors
use Rattle.nob_space_state.specs.Stands.{AnswersOrWants}
use Rattle.nob_space_items.specs.declared.acting.ActResult.{ActResult}
use Rattle.nob_space_items.specs.Acts.{ActsOrWants}

-- an error that is right of what is done with an item is right of the item at the front
acts_same : {A : Type 0} (answer : A → Answer) (front : Option (ℕ × List ℕ)) (right : Result Answer Refusal) (error : SpaceError) → AnswersOrWants answer (Err error) right → ActsOrWants front (Err error) right
acts_same answer front right (errors.Refused refusal) told = told
acts_same answer front right errors.OutOfMemory told = inl told

-- so is one that is handed on
pub acts_on : {A : Type 0} (answer : A → Answer) (front : Option (ℕ × List ℕ)) (result : Result ActResult SpaceError) (right : Result Answer Refusal) (error : SpaceError) → IsErrAnd result (λ e. e ≡ error) → AnswersOrWants answer (Err error) right → ActsOrWants front result right
acts_on answer front (Ok x) right error is told = absurd is
acts_on answer front (Err e) right error is told = subst (λ (f : SpaceError). ActsOrWants front (Err f) right) (sym is) (acts_same answer front right error told)
