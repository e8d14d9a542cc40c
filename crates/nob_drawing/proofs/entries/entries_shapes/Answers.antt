use Rattle.std.proofs.Common.{◌-◌, length, drop}
use Rattle.nob_drawing_plan.proofs.Passed.{next_of, row_of}
use Rattle.nob_drawing.proofs.Walked.{entries_next}
use Rattle.nob_drawing.proofs.entries.entries_shapes.Goals as goal

pub loop-passed-preserved : goal.loop-passed-preserved
loop-passed-preserved c =
    let journal = c.args.journal.now in
    let passed = c.loop-passed.passed in
    let entry = c.index-journal-journal.result in
    entries_next c.args.page.now c.args.places.now c.args.lives.now entry (drop (length journal - passed) journal) _ _ _ _ _ _
    (next_of journal passed entry c.loop-passed-test.true c.index-journal-journal.is)
    (row_of journal passed c.loop-passed-test.true)
    c.loop-passed.invariant c.place_of-row.ensures c.names_at-names.ensures c.in_ok-shapes.ensures
