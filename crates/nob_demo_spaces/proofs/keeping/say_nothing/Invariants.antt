use Rattle.std.proofs.Common.{◌≡◌, false, drop, map}
use Rattle.nob_demo_spaces.specs.Words.{say_nothing}
use Rattle.nob_demo_spaces.proofs.keeping.say_nothing.Given as goal

-- the words that are left say what all say
abbrev pub invariant-loop-word : goal.invariant-loop-word
invariant-loop-word g l = say_nothing l.after_keep (map g.S.AsStr.text (drop l.word-index l.words)) ≡ say_nothing false (map g.S.AsStr.text l.words)
