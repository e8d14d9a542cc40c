use Rattle.std.proofs.Common.{refl}
use Rattle.nob_keeper.proofs.Blanks.{blank_tally}
use Rattle.nob_keeper.proofs.held.Held.tally.Goals as goal

pub returns-then-not-is_of : goal.returns-then-not-is_of
returns-then-not-is_of c = blank_tally c.args.identity.now c.args.peer c.first_tally.result c.first_tally.ensures

pub returns : goal.returns
returns c = (c.args.self.now.kept, (c.if-not-is_of.ensures {u = tt}).0 refl, c.tally.ensures.account, c.tally.ensures.tally)
