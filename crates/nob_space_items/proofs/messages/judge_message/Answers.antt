use Rattle.std.proofs.Common.{ap, sym, ◌∙◌}
use Rattle.nob_space_state.specs.Parts.{state_of}
use Rattle.nob_space_items.specs.Messages.{message_refusal}
use Rattle.nob_space_state.proofs.Passing.{refusal_on}
use Rattle.nob_space_items.proofs.Refused.{message_there}
use Rattle.nob_space_items.proofs.messages.judge_message.Goals as goal

pub returns-clause-answer : goal.returns-clause-answer
returns-clause-answer c limits D stands =
    message_there stands c.args.item.now c.refuse_message.ensures.known.0 c.refuse_message.ensures.known.1
    ∙ ap (message_refusal (state_of c.args.parts.now)) (sym (c.as_slice.ensures ∙ c.wanted_refs-wanted.ensures))
    ∙ c.in_ok-refuse_message.ensures.refusal

pub returns-in_err-refuse_message-clause-answer : goal.returns-in_err-refuse_message-clause-answer
returns-in_err-refuse_message-clause-answer c limits D stands =
    refusal_on _ c.from_residual.result c.in_err-refuse_message.field-0.0 c.from_residual.ensures.1
    (message_there stands c.args.item.now c.refuse_message.ensures.known.0 c.refuse_message.ensures.known.1
    ∙ ap (message_refusal (state_of c.args.parts.now)) (sym (c.as_slice.ensures ∙ c.wanted_refs-wanted.ensures))
    ∙ c.in_err-refuse_message.ensures.refusal)
