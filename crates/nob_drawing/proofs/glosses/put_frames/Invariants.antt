use Rattle.std.proofs.Common.{◌≡◌, ◌++◌, drop, flat_map}
use Rattle.nob_drawing.specs.Glosses.{frame_gloss}
use Rattle.nob_drawing.proofs.glosses.put_frames.Given as goal

-- what is written and what is left are all
abbrev pub invariant-loop-frame : goal.invariant-loop-frame
invariant-loop-frame l = l.words.items ++ flat_map frame_gloss (drop l.frame-index l.frames) ≡ l.initial.words.items ++ flat_map frame_gloss l.frames
