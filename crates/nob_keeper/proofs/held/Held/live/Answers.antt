use Rattle.std.proofs.Common.{refl}
use Rattle.nob_keeper.proofs.Blanks.{blank_live}
use Rattle.nob_keeper.proofs.held.Held.live.Goals as goal

pub returns-then-not-is_of : goal.returns-then-not-is_of
returns-then-not-is_of c = blank_live c.args.identity.now

pub returns : goal.returns
returns c = (c.args.self.now.kept, (c.if-not-is_of.ensures {u = tt}).0 refl, c.live.ensures.account, c.live.ensures.live)
