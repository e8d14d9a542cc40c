use Rattle.test_definitions.specs.Outputs.{IsOutput, IsRefused}
use Rattle.test_definitions.proofs.Choosing.{answers_so}
use Rattle.test_definitions.proofs.output_of.Goals as goal

pub returns-then-is_copy : goal.returns-then-is_copy
returns-then-is_copy c = answers_so _ _ _ _ c.copy_of.result (λ text is. IsOutput.copy c.if-is_copy.true is) (λ fault is. IsRefused.copy c.if-is_copy.true is) c.copy_of.ensures

pub returns-then-begins_as_trace : goal.returns-then-begins_as_trace
returns-then-begins_as_trace c =
    let begins = c.begins_as_trace.ensures.yes c.if-begins_as_trace.true in
    answers_so _ _ _ _ c.verdict_of.result (λ text is. IsOutput.verdict c.if-is_copy.false begins is) (λ fault is. IsRefused.verdict c.if-is_copy.false begins is) c.verdict_of.ensures
