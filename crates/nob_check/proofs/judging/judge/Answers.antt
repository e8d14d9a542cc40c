use Rattle.nob_check.proofs.Judged.{judged_right}
use Rattle.nob_check.proofs.judging.judge.Goals as goal

pub returns : goal.returns
returns c = judged_right c.args.journal.now c.no_entry.result c.in_ok-judging.judging c.in_ok-verdict.verdict c.no_entry.ensures c.in_ok-judging.ensures c.in_ok-verdict.ensures
