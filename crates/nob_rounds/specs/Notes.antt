-- What the entries of all spaces, the first first, tell of what happened.
use Rattle.std.specs.Prelude.{ℕ, Bool, true, false, nat_le, List, length, filter, Result, Ok}
use Rattle.nob_model_types.specs.declared.answer.Answer.{Answer}
use Rattle.nob_model_types.specs.declared.answer.Answer.TheVariants as answers
use Rattle.nob_model_types.specs.declared.refusal.Refusal.{Refusal}
use Rattle.nob_model_types.specs.declared.entry.Entry.{Entry}
use Rattle.nob_rounds.specs.declared.results.Kind.{Kind}
use Rattle.nob_rounds.specs.declared.results.Kind.TheVariants as kinds
use Rattle.nob_rounds.specs.declared.facts.Facts.{Facts}

-- whether an object was exported
abbrev pub is_export : Result Answer Refusal → Bool
is_export (Ok (answers.Exported rep)) = true
is_export _ = false

-- whether a reply was taken
abbrev pub is_reply : Result Answer Refusal → Bool
is_reply (Ok (answers.Replied status value)) = true
is_reply _ = false

-- whether a message was settled
abbrev pub is_settlement : Result Answer Refusal → Bool
is_settlement (Ok (answers.Settled peer item)) = true
is_settlement _ = false

-- whether a reference was given up
abbrev pub is_cleaning : Result Answer Refusal → Bool
is_cleaning (Ok (answers.Cleaned rep)) = true
is_cleaning _ = false

-- whether an object was withdrawn
abbrev pub is_withdrawal : Result Answer Refusal → Bool
is_withdrawal (Ok answers.Withdrawn) = true
is_withdrawal _ = false

-- whether a session was opened anew
abbrev pub is_opening : Result Answer Refusal → Bool
is_opening (Ok (answers.Opened number)) = true
is_opening _ = false

-- whether something is new: items came, one was acted on, a message was settled, a reference was given up, a session closed
abbrev pub is_news : Result Answer Refusal → Bool
is_news (Ok (answers.Took count)) = nat_le 1 count
is_news (Ok (answers.Acted item)) = true
is_news (Ok (answers.Settled peer item)) = true
is_news (Ok (answers.Cleaned rep)) = true
is_news (Ok (answers.Closed reason)) = true
is_news _ = false

-- whether a result says something of this kind
abbrev pub is_of : Kind → Result Answer Refusal → Bool
is_of kinds.Export result = is_export result
is_of kinds.Reply result = is_reply result
is_of kinds.Settlement result = is_settlement result
is_of kinds.Cleaning result = is_cleaning result
is_of kinds.Withdrawal result = is_withdrawal result
is_of kinds.Opening result = is_opening result
is_of kinds.News result = is_news result

-- how many entries say something of this kind
abbrev pub count_of : Kind → List Entry → ℕ
count_of kind entries = length (filter (λ (entry : Entry). is_of kind entry.result) entries)

-- how many entries say something new
abbrev pub news_in : List Entry → ℕ
news_in entries = count_of kinds.News entries

-- how often objects were exported, replies taken, messages settled, references given up, objects withdrawn, and sessions opened anew
abbrev pub facts_of : List Entry → Facts
facts_of entries = record { exports = count_of kinds.Export entries; replies = count_of kinds.Reply entries; settlements = count_of kinds.Settlement entries; cleanings = count_of kinds.Cleaning entries; withdrawals = count_of kinds.Withdrawal entries; openings = count_of kinds.Opening entries }
