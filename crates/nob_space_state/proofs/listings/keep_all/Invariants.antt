use Rattle.std.proofs.Common.{take}
use Rattle.nob_table.specs.Table.{Marked}
use Rattle.nob_space_state.specs.Looks.{KeepsMore}
use Rattle.nob_space_state.proofs.listings.keep_all.Given as goal

abbrev pub invariant-loop-rep : goal.invariant-loop-rep
invariant-loop-rep l = record {
  table : Marked l.fn.table l.table;
  kept : KeepsMore l.fn.table l.table (take l.rep-index l.reps);
}
