use Rattle.std.proofs.Common.{rules, Some, inr, refl}
use Rattle.nob_dispatch.specs.Serving.{given}
use Rattle.nob_dispatch.proofs.Follows.{sent, lost}
use Rattle.nob_dispatch.proofs.hand.send_back.Goals as goal

pub returns-in_default-clause-follows : goal.returns-in_default-clause-follows
returns-in_default-clause-follows g c = λ all follows. sent c.args.returns.now.has_heard_gone c.give_as.new.self.has_heard_gone all (given c.args.returns.now) (given c.give_as.new.self) c.args.back (search rules) c.in_default.ensures.gone c.in_default.ensures.answer follows

pub returns-clause-follows : goal.returns-clause-follows
returns-clause-follows g c = λ all follows. lost c.args.returns.now.has_heard_gone c.give_as.new.self.has_heard_gone (Some (c.args.back.job, c.args.back.index)) all (given c.args.returns.now) (given c.give_as.new.self) c.in-Err.ensures.gone c.in-Err.ensures.err follows

pub returns-in_default-clause-given : goal.returns-in_default-clause-given
returns-in_default-clause-given g c = inr (c.args.back, c.in_default.ensures.answer, refl)
