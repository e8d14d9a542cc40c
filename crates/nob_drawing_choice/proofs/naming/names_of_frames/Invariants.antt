use Rattle.std.proofs.Common.{◌≡◌, ◌++◌, drop, flat_map}
use Rattle.nob_drawing_choice.specs.Naming.{names_of_frame}
use Rattle.nob_drawing_choice.proofs.naming.names_of_frames.Given as goal

-- what the frames so far name, and what the others do
abbrev pub invariant-loop-frame : goal.invariant-loop-frame
invariant-loop-frame l = l.names.items ++ flat_map names_of_frame (drop l.frame-index l.frames) ≡ flat_map names_of_frame l.frames
