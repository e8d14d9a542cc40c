use Rattle.std.proofs.Common.{arith, sym, ◌∙◌, []}
use Rattle.std.proofs.lemmas.List.{append-nil}
use Rattle.nob_model_text.specs.Values.{rep_text}
use Rattle.nob_model_text.proofs.Read.{by_error, passed, not_empty}
use Rattle.nob_model_reading.proofs.parts.whole_rep.Goals as goal

pub returns-in_err-owner-clause-only : goal.returns-in_err-owner-clause-only
returns-in_err-owner-clause-only c rep fits spelt =
    passed _ c.from_residual.result c.in_err-owner.field-0.0 c.from_residual.ensures.1
    (by_error _ (c.in_err-owner.ensures.only rep.owner rep.index [] (omega (arith, fits.0.1)) fits.1 tt (spelt ∙ sym (append-nil (rep_text rep)))))

pub returns-then-not-is_empty-clause-only : goal.returns-then-not-is_empty-clause-only
returns-then-not-is_empty-clause-only c rep fits spelt =
    not_empty c.in_ok-owner.rest.now c.is_empty.result (c.in_ok-owner.ensures.only rep.owner rep.index [] (omega (arith, fits.0.1)) fits.1 tt (spelt ∙ sym (append-nil (rep_text rep)))).2 c.is_empty.ensures c.if-not-is_empty.true
