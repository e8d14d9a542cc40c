-- What the text of an answer is, where it is a word, a number, or of references or spaces.
use Rattle.std.specs.Prelude.{◌≡◌, ℕ, List, ◌++◌, ◌∷◌, codes}
use Rattle.std.specs.Fmt.{decimal}
use Rattle.nob_ids.specs.Reasons.{reason_number}
use Rattle.nob_case_texts.specs.declared.answer.Answer.{Answer}
use Rattle.nob_case_texts.specs.declared.answer.Answer.TheVariants as answers
use Rattle.nob_case_texts.specs.Words.{reference_word, references_text, spaces_text, standing_text}

-- a word is written as it is, and what is counted behind its name: of other answers this says nothing
abbrev pub Writes : Answer → List ℕ → Type 0
Writes (answers.Word word) text = text ≡ word.now
Writes (answers.Number number) text = text ≡ decimal number
Writes (answers.Sent number) text = text ≡ codes "item " ++ decimal number
Writes (answers.Took count) text = text ≡ codes "took " ++ decimal count
Writes (answers.Closed reason) text = text ≡ codes "closed " ++ decimal (reason_number reason)
Writes (answers.Reference rep) text = text ≡ reference_word rep
Writes (answers.References reps) text = text ≡ references_text reps.items
Writes (answers.Spaces spaces) text = text ≡ spaces_text spaces.items
Writes (answers.Stands standing) text = text ≡ standing_text standing
Writes (answers.Idle place rep) text = text ≡ codes "place " ++ (decimal place ++ 32 ∷ reference_word rep)
Writes (answers.Counts objects surrogates) text = text ≡ codes "objects " ++ (decimal objects ++ (codes " surrogates " ++ decimal surrogates))
Writes answer text = Unit {0}
