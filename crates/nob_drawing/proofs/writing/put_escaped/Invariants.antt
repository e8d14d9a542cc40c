use Rattle.std.proofs.Common.{◌≡◌, ◌++◌, drop}
use Rattle.nob_drawing.specs.Writing.{escaped}
use Rattle.nob_drawing.proofs.writing.put_escaped.Given as goal

-- what is written and what is left are all
abbrev pub invariant-loop-byte : goal.invariant-loop-byte
invariant-loop-byte l = l.text.items ++ escaped (drop l.byte-index l.words) ≡ l.initial.text.items ++ escaped l.words
