use Rattle.nob_kept.proofs.Segments.{some_filled}
use Rattle.nob_kept.proofs.kept.Kept.close_as.Goals as goal

pub returns-clause-filled : goal.returns-clause-filled
returns-clause-filled c = some_filled c.args.self.size c.close_with.result c.close_with.ensures.size c.close_with.ensures.filled
