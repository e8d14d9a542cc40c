use Rattle.std.specs.Fmt.{decimal}
use Rattle.nob_case_texts.proofs.Listed.{written_behind}
use Rattle.nob_case_texts.proofs.text.push_spaces.Goals as goal

pub loop-space-preserved : goal.loop-space-preserved
loop-space-preserved c =
    written_behind decimal c.in-Some.others.now c.loop-space.space-index c.space-item.result _ _ _ _ c.loop-space-test.true c.space-item.is c.in_ok-push_str.ensures.bytes c.in_ok-push_space-2.ensures c.loop-space.invariant
