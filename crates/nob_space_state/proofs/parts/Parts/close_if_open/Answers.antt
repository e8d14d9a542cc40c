use Rattle.std.proofs.Common.{sym, ◌∙◌}
use Rattle.nob_space_state.proofs.Unpinned.{below_more, below_closed}
use Rattle.nob_space_state.proofs.parts.Parts.close_if_open.Goals as goal

pub returns-then-not-is_peer-clause-shut : goal.returns-then-not-is_peer-clause-shut
returns-then-not-is_peer-clause-shut c = below_more c.args.self.now (λ peer. absurd (let bad = sym peer ∙ sym c.is_peer.ensures ∙ c.if-not-is_peer.true in cc))

pub returns-then-has_closed-clause-shut : goal.returns-then-has_closed-clause-shut
returns-then-has_closed-clause-shut c = below_more c.args.self.now (λ peer. sym c.has_closed.ensures ∙ c.if-has_closed.true)

pub returns-clause-shut : goal.returns-clause-shut
returns-clause-shut c = below_closed c.args.self.now c.close_for.new.self c.close_for.ensures.here (sym c.is_peer.ensures ∙ c.if-not-is_peer.false) (sym c.has_closed.ensures ∙ c.if-has_closed.false) c.close_for.ensures.asked
