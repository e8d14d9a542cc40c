use Rattle.std.proofs.Common.{◌≡◌, ◌++◌, drop}
use Rattle.nob_watch.proofs.making.copies_of.Given as goal

-- what was put and what is left are all
abbrev pub invariant-loop-frame : goal.invariant-loop-frame
invariant-loop-frame l = l.copies.items ++ drop l.frame-index l.frames ≡ l.frames
