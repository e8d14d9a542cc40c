use Rattle.std.proofs.Common.{◌≡◌, ◌++◌, drop}
use Rattle.nob_recall.proofs.memory.put_copies.Given as goal

-- what was put and what is left are all
abbrev pub invariant-loop-frame : goal.invariant-loop-frame
invariant-loop-frame l = l.all.items ++ drop l.frame-index l.frames ≡ l.initial.all.items ++ l.frames
