use Rattle.std.proofs.Common.{◌≡◌, take}
use Rattle.nob_model_session.proofs.entry.Frames.copy.Given as goal

abbrev pub invariant-loop-frame : goal.invariant-loop-frame
invariant-loop-frame l = l.items.items ≡ take l.frame-index l.frame-items
