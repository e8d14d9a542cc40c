use Rattle.nob_drawing_choice.proofs.Turned.{bar_next}
use Rattle.nob_drawing_choice.proofs.lives.lives_of.Goals as goal

pub loop-bar-preserved : goal.loop-bar-preserved
loop-bar-preserved c = bar_next c.args.bars.now c.loop-bar.bar-index c.bar-item.result c.args.journal.now _ _ c.loop-bar-test.true c.bar-item.is c.loop-bar.invariant c.in_ok-put_turns.ensures
