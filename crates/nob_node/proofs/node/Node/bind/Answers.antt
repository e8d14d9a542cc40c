use Rattle.std.proofs.Common.{inl, refl}
use Rattle.nob_node.proofs.Asked.{bound_then}
use Rattle.nob_node.proofs.node.Node.bind.Goals as goal

-- the agent's hold on the reference that the name had stood for is given back
pub returns-in-Some-2-clause-bound : goal.returns-in-Some-2-clause-bound
returns-in-Some-2-clause-bound g c =
    bound_then c.give_back.result c.args.self.now c.bind_at-bound.new.self c.give_back.new.self c.args.hold.now.rep c.in-Some-2.before c.in_ok-before.ensures.held c.give_back.ensures.given

-- the name had stood for nothing
pub returns-in-None-clause-bound : goal.returns-in-None-clause-bound
returns-in-None-clause-bound g c = (c.bind_at-bound.new.self, c.in_ok-before.ensures.held, inl refl)
