use Rattle.std.proofs.Common.{arith}
use Rattle.nob_recall.proofs.Hearings.{stands_none}
use Rattle.nob_recall.proofs.table.new_table.Goals as goal

pub returns : goal.returns
returns c =
    let low = c.loop-table.invariant.few in
    let past = c.loop-table-test.false in
    stands_none c.loop-table.table.items (omega (arith, low, past)) c.loop-table.invariant.none
