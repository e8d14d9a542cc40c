use Rattle.std.proofs.Common.{◌≡◌, ◌++◌, drop, map}
use Rattle.std.specs.String.{string_bytes}
use Rattle.nob_case_texts.specs.Words.{reference_word, behind_text}
use Rattle.nob_case_texts.proofs.text.push_references.Given as goal

-- what is written and what is left are all
abbrev pub invariant-loop-rep : goal.invariant-loop-rep
invariant-loop-rep l =
    string_bytes l.text ++ behind_text (map reference_word (drop l.rep-index l.others)) ≡ string_bytes l.initial.text ++ behind_text (map reference_word l.others)
