-- What a reader of a word answers.
use Rattle.std.specs.Prelude.{Result, Ok, Err}
use Rattle.nob_case_texts.specs.declared.unanswered.Unanswered.{Unanswered}
use Rattle.nob_case_texts.specs.declared.unanswered.Unanswered.TheVariants.{NoCase, Memory}

-- something is read of which P holds, unless memory runs out
abbrev pub Reads : {X : Type 0} → (X → Type 0) → Result X Unanswered → Type 0
Reads P (Ok x) = P x
Reads P (Err Memory) = Unit {0}
Reads P (Err NoCase) = ⊥
