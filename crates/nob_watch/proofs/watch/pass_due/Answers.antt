use Rattle.nob_watch.proofs.Watches.{due_here}
use Rattle.nob_watch.proofs.watch.pass_due.Goals as goal

pub pass-requires : goal.pass-requires
pass-requires c = due_here c.args.heads.now c.in-Some.dated.now c.args.rerun.now.n c.due.ensures.spaces c.in-Some.ensures.due c.requires.few
