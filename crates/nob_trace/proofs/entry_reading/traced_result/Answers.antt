use Rattle.std.proofs.Common.{Result, ◌≡◌}
use Rattle.nob_model_types.specs.declared.answer.Answer.{Answer}
use Rattle.nob_model_types.specs.declared.refusal.Refusal.{Refusal}
use Rattle.nob_model_text.specs.Reading.{Reads}
use Rattle.nob_trace.proofs.Cases.{by_answer}
use Rattle.nob_trace.proofs.entry_reading.traced_result.Goals as goal

pub returns-clause-only : goal.returns-clause-only
returns-clause-only c response is spelt =
    by_answer c.args.version (λ (a : Result Answer Refusal). Reads (λ r. r ≡ a) c.answer_result.result) c.args.text.now response is spelt (c.begins_as_refusal.ensures.no c.if-begins_as_refusal.false) (c.begins_as_frames.ensures.no c.if-begins_as_frames.false) c.answer_result.ensures.only
