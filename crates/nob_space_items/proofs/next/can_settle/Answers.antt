use Rattle.std.proofs.Common.{is_some, sym, ap, ◌∙◌}
use Rattle.nob_space_state.proofs.Nexts.{mapped_some}
use Rattle.nob_space_items.proofs.Settleable.{to_settle_there}
use Rattle.nob_space_items.proofs.next.can_settle.Goals as goal

pub returns : goal.returns
returns c limits D stands = c.is_some.ensures ∙ mapped_some (λ message. message.now) c.first_settleable.result ∙ ap is_some (c.first_settleable.ensures ∙ sym (to_settle_there stands))
