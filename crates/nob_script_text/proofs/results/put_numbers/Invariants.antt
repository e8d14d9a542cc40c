use Rattle.std.proofs.Common.{◌≡◌, ◌+◌, ◌++◌, drop}
use Rattle.std.specs.String.{string_bytes}
use Rattle.nob_script_text.specs.Worlds.{numbers_text}
use Rattle.nob_script_text.proofs.results.put_numbers.Given as goal

-- what is written and what is left are all
abbrev pub invariant-loop-place : goal.invariant-loop-place
invariant-loop-place l = string_bytes l.text ++ numbers_text (l.before + l.place) (drop l.place l.frames) ≡ string_bytes l.fn.text ++ numbers_text l.before l.frames
