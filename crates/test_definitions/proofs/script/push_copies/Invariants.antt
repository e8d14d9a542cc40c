use Rattle.std.proofs.Common.{◌≡◌, ◌++◌, drop}
use Rattle.test_definitions.proofs.script.push_copies.Given as goal

-- what was pushed and what is left are all
abbrev pub invariant-loop-frame : goal.invariant-loop-frame
invariant-loop-frame l = l.frames.items ++ drop l.frame-index l.more ≡ l.fn.frames.items ++ l.more
