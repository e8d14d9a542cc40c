-- Errors that are handed on: what is said of the error holds of the result.
use Rattle.std.proofs.Common.{◌≡◌, List, Option, Some, None, Result, Ok, Err, IsOk, IsErrAnd, MatchResult, sym, subst, ap, ◌∙◌}
use Rattle.std.specs.Prelude.{OnOk, OnErr}
use Rattle.nob_ids.specs.declared.limits.Limits.{Limits}
use Rattle.nob_model_types.specs.declared.answer.Answer.{Answer}
use Rattle.nob_model_types.specs.declared.deed.Deed.{Deed}
use Rattle.nob_model_types.specs.declared.here.Here.{Here}
use Rattle.nob_model_types.specs.declared.refusal.Refusal.{Refusal}
use Rattle.nob_space_state.specs.declared.error.SpaceError.{SpaceError}
use Rattle.nob_space_state.specs.declared.error.SpaceError.TheVariants as errors
use Rattle.nob_space_state.specs.Parts.{State}
use Rattle.nob_space_state.specs.Stands.{Stands, Answers, AnswersOrWants}
use Rattle.nob_space_state.proofs.Claiming.{wants_same}

-- what stands for a list of a space stands for that of the same space
pub same_space : {limits : Limits} {st : State} {D : List Deed} (new old : Here) → new ≡ old → Stands old.space old.n limits st D → Stands new.space new.n limits st D
same_space {limits} {st} {D} new old is stands = subst (λ (here : Here). Stands here.space here.n limits st D) (sym is) stands

-- a refusal that is handed on is the right one
pub refused_on : {A : Type 0} (answer : A → Answer) (result : Result A Refusal) (right : Result Answer Refusal) (refusal : Refusal) → IsErrAnd result (λ e. e ≡ refusal) → right ≡ Err refusal → Answers answer result right
refused_on answer (Ok x) right refusal is told = absurd is
refused_on answer (Err e) right refusal is told = told ∙ ap (λ (f : Refusal). Err f) (sym is)

-- a refusal that the space hands on is the right one
pub refused_as : {A : Type 0} (answer : A → Answer) (result : Result A SpaceError) (right : Result Answer Refusal) (refusal : Refusal) → IsErrAnd result (λ e. e ≡ errors.Refused refusal) → right ≡ Err refusal → AnswersOrWants answer result right
refused_as answer (Ok x) right refusal is told = absurd is
refused_as answer (Err e) right refusal is told = subst (λ (f : SpaceError). AnswersOrWants answer (Err f) right) (sym is) told

-- where memory is wanted nothing else refuses the event
pub wants_as : {A : Type 0} (answer : A → Answer) (result : Result A SpaceError) (right : Result Answer Refusal) → IsErrAnd result (λ e. e ≡ errors.OutOfMemory) → IsOk right → AnswersOrWants answer result right
wants_as answer (Ok x) right is told = absurd is
wants_as answer (Err e) right is told = subst (λ (f : SpaceError). AnswersOrWants answer (Err f) right) (sym is) told

-- an error that is handed on is the right one, or a want of memory, of what is the same
pub error_on : {A B : Type 0} (answer : A → Answer) (again : B → Answer) (result : Result B SpaceError) (one other : Result Answer Refusal) (error : SpaceError) → IsErrAnd result (λ e. e ≡ error) → one ≡ other → AnswersOrWants answer (Err error) one → AnswersOrWants again result other
error_on answer again (Ok x) one other error is same told = absurd is
error_on answer again (Err e) one other error is same told = subst (λ (f : SpaceError). AnswersOrWants again (Err f) other) (sym is) (wants_same answer again one other error same told)

-- a refusal that is handed on is the one that is found
pub refusal_on : {A : Type 0} (found : Option Refusal) (result : Result A Refusal) (refusal : Refusal) → IsErrAnd result (λ e. e ≡ refusal) → found ≡ Some refusal → MatchResult result (λ _. found ≡ None) (λ e. found ≡ Some e)
refusal_on found (Ok x) refusal is told = absurd is
refusal_on found (Err e) refusal is told = told ∙ ap (λ (f : Refusal). Some f) (sym is)

-- what holds after an error
pub after_error : {A E : Type 0} (P : Type 0) (result : Result A E) → P → OnErr result P
after_error P (Ok x) holds = tt
after_error P (Err e) holds = holds

-- what holds after any result holds after an answer
pub after_any : {A E P : Type 0} (result : Result A E) → P → OnOk result P
after_any (Ok x) holds = holds
after_any (Err e) holds = tt
