use Rattle.std.proofs.Common.{◌-◌, ◌∙◌, length, drop}
use Rattle.nob_drawing_plan.proofs.Passed.{next_of}
use Rattle.nob_drawing_choice.proofs.Turned.{entry_next}
use Rattle.nob_drawing_choice.proofs.lives.named.Goals as goal

pub loop-passed-preserved : goal.loop-passed-preserved
loop-passed-preserved c =
    let journal = c.args.journal.now in
    let passed = c.loop-passed.passed in
    let entry = c.index-journal-journal.result in
    entry_next entry (drop (length journal - passed) journal) _ _ _ _
    (next_of journal passed entry c.loop-passed-test.true c.index-journal-journal.is)
    c.loop-passed.invariant (c.from_vec.ensures ∙ c.in_ok-names.ensures) c.in_ok-push.ensures.items
