-- When two results have one text in traces of a version, and what is said of a trace.
use Rattle.std.specs.Prelude.{◌≡◌, ℕ, ◌+◌, List, ◌++◌, codes, Result}
use Rattle.std.specs.Fmt.{decimal}
use Rattle.nob_frame.specs.declared.version.Version.{Version}
use Rattle.nob_model_types.specs.declared.answer.Answer.{Answer}
use Rattle.nob_model_types.specs.declared.refusal.Refusal.{Refusal}
use Rattle.nob_trace.specs.Entries.{TransmitFits, result_text}

-- two results have a text in traces of this version, and it is the same
abbrev pub HaveOneText : Version → Result Answer Refusal → Result Answer Refusal → Type 0
HaveOneText version one other = TransmitFits version one × TransmitFits version other × (result_text version one ≡ result_text version other)

-- what is said where so many results are right
abbrev pub right_line : ℕ → List ℕ
right_line count = codes "right " ++ (decimal count ++ codes "\n")

-- what is said where so many results are right and the next one isn't
abbrev pub wrong_line : ℕ → List ℕ
wrong_line count = codes "wrong " ++ (decimal (count + 1) ++ codes "\n")
