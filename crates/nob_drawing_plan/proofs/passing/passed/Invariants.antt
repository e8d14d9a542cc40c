use Rattle.std.proofs.Common.{◌-◌, length, drop}
use Rattle.nob_drawing_plan.proofs.Passed.{IsOf}
use Rattle.nob_drawing_plan.proofs.passing.passed.Given as goal

-- what is kept is of the entries so far
abbrev pub invariant-loop-row : goal.invariant-loop-row
invariant-loop-row l = IsOf l.n (drop (length l.journal - l.row) l.journal) l.pass.ledgers.items l.pass.bars.items l.pass.own
