use Rattle.std.proofs.Common.{◌∙◌}
use Rattle.nob_space_state.proofs.pinning.send_pinned.Goals as goal

pub returns-then-is_empty-clause-answer : goal.returns-then-is_empty-clause-answer
returns-then-is_empty-clause-answer c me other limits L stands = c.send_reserved.ensures.answer me other limits L (c.reserve.ensures.same ∙ stands)

pub returns-clause-answer : goal.returns-clause-answer
returns-clause-answer c me other limits L stands = c.send_reserved-number.ensures.answer me other limits L (c.reserve-else-is_err-2.ensures.same ∙ stands)
