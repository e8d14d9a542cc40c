use Rattle.std.proofs.Common.{rules}
use Rattle.nob_agents.proofs.Ended.{gone_more}
use Rattle.nob_agents.proofs.way.Way.pass.Goals as goal

pub returns-then-has_gone-clause-tied : goal.returns-then-has_gone-clause-tied
returns-then-has_gone-clause-tied g c = gone_more c.args.parcel c.args.self.now (search rules)
