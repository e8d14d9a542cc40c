use Rattle.std.proofs.Common.{refl}
use Rattle.nob_kept.proofs.Summaries.{summary_of}
use Rattle.nob_kept.proofs.kept.Kept.end_as.Goals as goal

pub returns-clause-summary : goal.returns-clause-summary
returns-clause-summary c =
    let told = c.end_with.ensures in
    summary_of c.args.identity.now c.args.self c.args.seats.items c.end_with.result ((c.if-not-is_of.ensures {u = tt}).0 refl) told.summary told.receipts told.account
