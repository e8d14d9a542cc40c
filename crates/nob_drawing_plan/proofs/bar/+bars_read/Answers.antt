use Rattle.std.proofs.Common.{sym, ◌∙◌}
use Rattle.nob_drawing_plan.proofs.Quiet.{quiet_step}
use Rattle.nob_drawing_plan.proofs.bar.+bars_read.Goals as goal

pub returns-then-branch : goal.returns-then-branch
returns-then-branch t c =
    quiet_step c.args.n c.args.journal.now c.entry-item.result _ c.in-len1-up.len_at_least c.entry-item.is (sym (c.in_ok-is_quiet-in-len1-up.ensures {u = tt}) ∙ c.if-branch.true) (c.in_ok-before-in-len1-up.ensures {u = tt})
