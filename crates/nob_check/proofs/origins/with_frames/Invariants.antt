use Rattle.std.proofs.Common.{take, ◌++◌, List}
use Rattle.nob_frame.specs.declared.frame.Frame.{Frame}
use Rattle.nob_check.specs.Marks.{AreOf}
use Rattle.nob_check.proofs.origins.with_frames.Given as goal

-- the table has those before and the frames so far
abbrev pub invariant-loop-frame : goal.invariant-loop-frame
invariant-loop-frame l = (before : List Frame) → AreOf before l.initial.set → AreOf (before ++ take l.frame-index l.frames) l.set
