use Rattle.std.proofs.Common.{◌<◌, List, length, sym, ap, subst, ◌∙◌}
use Rattle.nob_model_types.specs.declared.message.Message.{Message}
use Rattle.nob_model_types.specs.Messages.{message_after}
use Rattle.nob_model_types.proofs.Mapped.{changed_next}
use Rattle.nob_check_ledgers.proofs.lending.message_loans.Goals as goal

pub loop-message-preserved : goal.loop-message-preserved
loop-message-preserved c =
    let change : Message → Message = λ message. message_after c.args.past.now.here.space c.args.past.now.here.n c.args.past.now.deeds message in
    let at = c.loop-message in
    let lt : at.message-index < length c.args.messages = subst (λ (messages : List Message). at.message-index < length messages) (c.deref_mut-message-items.ensures.value ∙ c.into_vec-messages.ensures) c.loop-message-test.true in
    changed_next change c.args.messages at.message-items at.message-index c.message-item.result c.lend_message.new.message at.invariant lt c.message-item.is (c.lend_message.ensures ∙ ap change (sym c.message-item.is))
