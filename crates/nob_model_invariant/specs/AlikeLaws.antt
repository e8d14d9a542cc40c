-- The laws of runs that are read with more spaces than there are.
use Rattle.std.specs.Prelude.{◌≡◌, ◌≤◌, ◌↔◌, ℕ, List}
use Rattle.nob_ids.specs.declared.limits.Limits.{Limits}
use Rattle.nob_model_types.specs.declared.entry.Entry.{Entry}
use Rattle.nob_model_journal.specs.declared.verdict.Verdict.{Verdict}
use Rattle.nob_model_journal.specs.Journals.{deeds_at, history_at}
use Rattle.nob_model_journal.specs.Runs.{WorldRun}
use Rattle.nob_model_journal.specs.Verdicts.{IsVerdict, most_spaces}
use Rattle.nob_model_invariant.specs.Typed.{AreOfTypes}
use Rattle.nob_model_invariant.specs.FirstSpaces.{AmongFirst}

-- in every run of a world of n spaces each space speaks of the first n alone
abbrev pub FirstLaw : Type 0
FirstLaw = (n : ℕ) (limits : ℕ → Limits) (J : List Entry) → WorldRun n limits J → AreOfTypes J → (s : ℕ) → AmongFirst n (deeds_at s J)

-- in every run of a world of n spaces the history of each is the same where m are counted
abbrev pub HistoriesLaw : Type 0
HistoriesLaw = (n m : ℕ) (limits : ℕ → Limits) (J : List Entry) → n ≤ m → WorldRun n limits J → AreOfTypes J → (s : ℕ) → history_at s n J ≡ history_at s m J

-- a journal is judged alike whether n spaces are counted or m
abbrev pub IsJudgedAlike : (n m : ℕ) → List Entry → Type 0
IsJudgedAlike n m J = (verdict : Verdict) → IsVerdict n J verdict ↔ IsVerdict m J verdict

-- every run of a world of n spaces is judged alike where m are counted
abbrev pub VerdictsLaw : Type 0
VerdictsLaw = (n m : ℕ) (limits : ℕ → Limits) (J : List Entry) → n ≤ m → WorldRun n limits J → AreOfTypes J → IsJudgedAlike n m J

-- every run of a world of at most 32 spaces is judged alike by its own number and by 32
abbrev pub AlikeLaw : Type 0
AlikeLaw = (n : ℕ) (limits : ℕ → Limits) (J : List Entry) → n ≤ most_spaces → WorldRun n limits J → AreOfTypes J → IsJudgedAlike n most_spaces J
