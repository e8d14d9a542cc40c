use Rattle.std.proofs.Common.{◌≡◌, ◌++◌, ◌+◌, ◌-◌}
use Rattle.std.specs.String.{string_bytes}
use Rattle.nob_demo_scripts.specs.Run.{numbers_text, sent_text}
use Rattle.nob_demo_scripts.proofs.text.frames_text.Given as goal

-- the numbers so far and those that are left are all
abbrev pub invariant-loop-i : goal.invariant-loop-i
invariant-loop-i l = string_bytes l.text ++ numbers_text (l.before + l.i + 1) (l.count - l.i) ≡ sent_text l.before l.count
