use Rattle.std.proofs.Common.{◌≡◌, ◌++◌, drop}
use Rattle.std.specs.String.{string_bytes}
use Rattle.nob_frame.specs.Spelling.{Fits}
use Rattle.nob_trace.specs.Frames.{spaced_text}
use Rattle.nob_trace.proofs.Written.{SameAll}
use Rattle.nob_trace.proofs.writing.put_frames.Given as goal

-- what is written and what is left are all
abbrev pub invariant-loop-frame : goal.invariant-loop-frame
invariant-loop-frame l =
    (string_bytes l.text ++ spaced_text l.version (drop l.frame-index l.list) ≡ string_bytes l.initial.text ++ spaced_text l.version l.list) × SameAll (Fits l.version) l.list l.frame-index
