use Rattle.std.proofs.Common.{◌≡◌, ◌++◌, drop}
use Rattle.nob_drawing.specs.Words.{lives_words}
use Rattle.nob_drawing.proofs.captions.lives_words.Given as goal

-- what is written and what is left are all
abbrev pub invariant-loop-name : goal.invariant-loop-name
invariant-loop-name l = l.words.items ++ lives_words (drop l.name-index l.names) ≡ lives_words l.names
