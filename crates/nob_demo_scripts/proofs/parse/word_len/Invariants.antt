use Rattle.std.proofs.Common.{◌≡◌, ◌+◌, drop}
use Rattle.nob_demo_scripts.specs.Grammar.{length_of_word}
use Rattle.nob_demo_scripts.proofs.parse.word_len.Given as goal

-- no space stands before this place
abbrev pub invariant-loop-i : goal.invariant-loop-i
invariant-loop-i l = l.i + length_of_word (drop l.i l.text) ≡ length_of_word l.text
