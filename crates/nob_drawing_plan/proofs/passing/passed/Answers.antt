use Rattle.std.proofs.Common.{◌-◌, length, drop}
use Rattle.nob_drawing_plan.proofs.Passed.{lent_in, of_next, next_of, row_of}
use Rattle.nob_drawing_plan.proofs.passing.passed.Goals as goal

pub after_entry-requires : goal.after_entry-requires
after_entry-requires c = record { lent = lent_in c.args.n c.index-journal-journal.result.space (drop (length c.args.journal.now - c.loop-row.row) c.args.journal.now) c.loop-row.pass.ledgers.items c.loop-row.invariant.stands }

pub loop-row-preserved : goal.loop-row-preserved
loop-row-preserved c =
    let journal = c.args.journal.now in
    let row = c.loop-row.row in
    let entry = c.index-journal-journal.result in
    let now = c.loop-row.pass in
    let next = c.in_ok-pass.pass in
    of_next c.args.n _ entry (drop (length journal - row) journal) _ now.ledgers.items next.ledgers.items now.bars.items next.bars.items now.own next.own
    (next_of journal row entry c.loop-row-test.true c.index-journal-journal.is)
    (row_of journal row c.loop-row-test.true)
    c.loop-row.invariant c.in_ok-pass.ensures.ledgers c.in_ok-pass.ensures.bars c.in_ok-pass.ensures.own
