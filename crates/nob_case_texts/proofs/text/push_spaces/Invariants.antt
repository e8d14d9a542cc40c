use Rattle.std.proofs.Common.{◌≡◌, ◌++◌, drop, map}
use Rattle.std.specs.String.{string_bytes}
use Rattle.std.specs.Fmt.{decimal}
use Rattle.nob_case_texts.specs.Words.{behind_text}
use Rattle.nob_case_texts.proofs.text.push_spaces.Given as goal

-- what is written and what is left are all
abbrev pub invariant-loop-space : goal.invariant-loop-space
invariant-loop-space l =
    string_bytes l.text ++ behind_text (map decimal (drop l.space-index l.others)) ≡ string_bytes l.initial.text ++ behind_text (map decimal l.others)
