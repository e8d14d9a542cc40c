use Rattle.std.proofs.Common.{◌-◌, length, drop}
use Rattle.nob_drawing_plan.proofs.Passed.{next_of, row_of}
use Rattle.nob_drawing_plan.proofs.Newest.{flights_next}
use Rattle.nob_drawing_plan.proofs.flight.flights.Goals as goal

pub loop-passed-preserved : goal.loop-passed-preserved
loop-passed-preserved c =
    let journal = c.args.journal.now in
    let passed = c.loop-passed.passed in
    let entry = c.index-journal-journal.result in
    flights_next entry (drop (length journal - passed) journal) _ _ _ _ _ _ _ _
    (next_of journal passed entry c.loop-passed-test.true c.index-journal-journal.is)
    (row_of journal passed c.loop-passed-test.true)
    c.loop-passed.invariant (rw c.as_slice.ensures.value at c.in_ok-more.ensures.arrows) (rw c.as_slice.ensures.value at c.in_ok-more.ensures.strays) (rw c.frames_of.ensures at c.in_ok-departures.ensures)
