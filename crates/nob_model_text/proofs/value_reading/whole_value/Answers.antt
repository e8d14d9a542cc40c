use Rattle.std.proofs.Common.{sym, ◌∙◌, []}
use Rattle.std.proofs.lemmas.List.{append-nil}
use Rattle.nob_pickle.specs.Shape.{tree}
use Rattle.nob_pickle.proofs.Forests.{same_value}
use Rattle.nob_model_text.specs.Values.{value_text}
use Rattle.nob_model_text.proofs.Read.{by_error, passed, not_empty}
use Rattle.nob_model_text.proofs.value_reading.whole_value.Goals as goal

pub returns-clause-only : goal.returns-clause-only
returns-clause-only c value fits spelt =
    same_value _ value (c.in_ok-value.ensures.only (tree value) [] fits.0 fits.1 tt (spelt ∙ sym (append-nil (value_text value)))).0

pub returns-in_err-value-clause-only : goal.returns-in_err-value-clause-only
returns-in_err-value-clause-only c value fits spelt =
    passed _ c.from_residual.result c.in_err-value.field-0.0 c.from_residual.ensures.1
    (by_error _ (c.in_err-value.ensures.only (tree value) [] fits.0 fits.1 tt (spelt ∙ sym (append-nil (value_text value)))))

pub returns-then-not-is_empty-clause-only : goal.returns-then-not-is_empty-clause-only
returns-then-not-is_empty-clause-only c value fits spelt =
    let none = (c.in_ok-value.ensures.only (tree value) [] fits.0 fits.1 tt (spelt ∙ sym (append-nil (value_text value)))).1 in
    not_empty c.in_ok-value.rest.now c.is_empty.result none c.is_empty.ensures c.if-not-is_empty.true
