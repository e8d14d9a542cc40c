-- What is said of a journal: that all holds that the runtime promises of all spaces together, or what fails first.
use Rattle.std.specs.Prelude.{ℕ, List}
use Rattle.nob_model_types.specs.declared.entry.Entry.{Entry}
use Rattle.nob_model_journal.specs.declared.verdict.Promise.TheVariants as promises
use Rattle.nob_model_journal.specs.declared.verdict.Verdict.{Verdict}
use Rattle.nob_model_journal.specs.declared.verdict.Verdict.TheVariants.{Yes, No}
use Rattle.nob_model_journal.specs.Fronts.{Fronts}
use Rattle.nob_model_journal.specs.Safety.{SafeWithdraw}
use Rattle.nob_model_journal.specs.Losses.{NoFalseLoss}
use Rattle.nob_model_journal.specs.Findings.{Found}

-- a verdict on a journal of n spaces: yes where all four promises are kept, else the first that isn't
abbrev pub IsVerdict : ℕ → List Entry → Verdict → Type 0
IsVerdict n J Yes = Fronts n J × SafeWithdraw n J × NoFalseLoss n J × Found J
IsVerdict n J (No promises.Fronts) = Fronts n J → ⊥
IsVerdict n J (No promises.Withdraws) = Fronts n J × (SafeWithdraw n J → ⊥)
IsVerdict n J (No promises.Losses) = Fronts n J × SafeWithdraw n J × (NoFalseLoss n J → ⊥)
IsVerdict n J (No promises.Found) = Fronts n J × SafeWithdraw n J × NoFalseLoss n J × (Found J → ⊥)

-- so many spaces a journal has where none is stated
abbrev pub most_spaces : ℕ
most_spaces = 32
