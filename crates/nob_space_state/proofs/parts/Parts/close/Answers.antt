use Rattle.std.proofs.Common.{sym, ◌∙◌}
use Rattle.nob_ids.specs.declared.reason.Reason.TheVariants.{Asked}
use Rattle.nob_space_state.proofs.Closings.{close_of_none, close_of_closed, close_of_open}
use Rattle.nob_space_state.proofs.Orderly.{close_is}
use Rattle.nob_space_state.proofs.parts.Parts.close.Goals as goal

pub returns-then-not-is_peer-clause-answer : goal.returns-then-not-is_peer-clause-answer
returns-then-not-is_peer-clause-answer c limits D stands = close_of_none _ _ _ _ (sym c.is_peer.ensures ∙ c.if-not-is_peer.true)

pub returns-then-has_closed-clause-answer : goal.returns-then-has_closed-clause-answer
returns-then-has_closed-clause-answer c limits D stands = close_of_closed stands c.args.peer (sym c.is_peer.ensures ∙ c.if-not-is_peer.false) (sym c.has_closed.ensures ∙ c.if-has_closed.true)

pub returns-clause-answer : goal.returns-clause-answer
returns-clause-answer c limits D stands = close_of_open stands c.args.peer (sym c.is_peer.ensures ∙ c.if-not-is_peer.false) (sym c.has_closed.ensures ∙ c.if-has_closed.false)

pub returns-clause-stands : goal.returns-clause-stands
returns-clause-stands c limits D stands = c.close_for.ensures.asked limits D stands (close_is c.args.self.now.here.space c.args.self.now.here.n limits D c.args.peer Asked (returns-clause-answer c limits D stands))
