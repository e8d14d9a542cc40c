use Rattle.std.proofs.Common.{◌-◌, length, drop}
use Rattle.nob_drawing_plan.proofs.Passed.{next_of, row_of}
use Rattle.nob_drawing_choice.proofs.Placed.{places_next}
use Rattle.nob_drawing_choice.proofs.choosing.places.Goals as goal

pub loop-passed-preserved : goal.loop-passed-preserved
loop-passed-preserved c =
    let journal = c.args.journal.now in
    let passed = c.loop-passed.passed in
    let entry = c.index-journal-journal.result in
    let next = places_next c.args.choice.now c.args.fault c.args.lives.now entry (drop (length journal - passed) journal) _ _ _ _ _ _ _
    (next_of journal passed entry c.loop-passed-test.true c.index-journal-journal.is)
    (row_of journal passed c.loop-passed-test.true)
    c.loop-passed.invariant.0 c.loop-passed.invariant.1 c.is_chosen-chosen.ensures c.in_ok-more.ensures.count c.in_ok-more.ensures.places in
    (next.0, next.1, c.in_ok-more.ensures.bound)
