use Rattle.std.proofs.Common.{arith}
use Rattle.nob_space_calls.proofs.Stamped.{few_replies}
use Rattle.nob_space_calls.proofs.ready.Ready.len.Goals as goal

pub returns-clause-fits : goal.returns-clause-fits
returns-clause-fits c = omega (arith, c.len.ensures.count, few_replies c.self.inside.next c.self.inside.messages.rows c.self.invariant.rising c.self.invariant.below, c.self.invariant.small)
