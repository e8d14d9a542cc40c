-- What callers count.
use Rattle.std.specs.Prelude.{ℕ, ℤ, pos, ◌+◌, ◌==◌, min, if◌then◌else◌, List, [], ◌∷◌, Result, Ok}
use Rattle.std.specs.Int.{int_max}
use Rattle.nob_pickle.specs.declared.value.Value.{Value}
use Rattle.nob_pickle.specs.declared.value.Value.TheVariants as values
use Rattle.nob_model_types.specs.declared.answer.Answer.{Answer}
use Rattle.nob_model_types.specs.declared.answer.Answer.TheVariants as answers
use Rattle.nob_model_types.specs.declared.entry.Entry.{Entry}
use Rattle.nob_model_types.specs.declared.refusal.Refusal.{Refusal}
use Rattle.nob_demo_spaces.specs.declared.score.Score.{Score}

-- nothing was answered
abbrev pub empty : Score
empty = record { answered = 0; greatest = pos 0 }

-- a sum, but at most the greatest number of 64 bits
abbrev pub sum_of : ℕ → ℕ → ℕ
sum_of m n = min (m + n) 18446744073709551615

-- the greater of a total and a value, where that is a whole number
abbrev pub greater_of : Value → ℤ → ℤ
greater_of (values.Int number) total = int_max total number
greater_of value total = total

-- a score after a reply of this status and value: where the status is 0 the call was answered, and a whole number is a total
abbrev pub with_reply : (status : ℕ) → Value → Score → Score
with_reply status value score = if status == 0 then record { answered = sum_of score.answered 1; greatest = greater_of value score.greatest } else score

-- what two scores count
abbrev pub with_score : Score → Score → Score
with_score other score = record { answered = sum_of score.answered other.answered; greatest = int_max score.greatest other.greatest }

-- a score after a reply that was taken: one whose value isn't a whole number is no total, and doesn't count
abbrev pub with_total : (status : ℕ) → Value → Score → Score
with_total status (values.Int number) score = with_reply status (values.Int number) score
with_total status value score = score

-- a score after a result of a space: the reply that was taken may be a total, and nothing else counts
abbrev pub with_result : Result Answer Refusal → Score → Score
with_result (Ok (answers.Replied status value)) score = with_total status value score
with_result result score = score

-- what the entries of a journal, the newest FIRST, say that was answered with totals
abbrev pub score_of : List Entry → Score
score_of [] = empty
score_of (entry ∷ earlier) = with_result entry.result (score_of earlier)
