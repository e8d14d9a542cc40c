use Rattle.std.proofs.Common.{refl}
use Rattle.nob_keeper.proofs.Blanks.{blank_backlog}
use Rattle.nob_keeper.proofs.held.Held.backlog.Goals as goal

pub returns-then-not-is_of : goal.returns-then-not-is_of
returns-then-not-is_of c = blank_backlog c.args.identity.now

pub returns : goal.returns
returns c = (c.args.self.now.kept, (c.if-not-is_of.ensures {u = tt}).0 refl, c.backlog.ensures.account, c.backlog.ensures.backlog)
