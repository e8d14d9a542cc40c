-- What a counter answers.
use Rattle.std.specs.Prelude.{ℕ, zero, suc, ℤ}
use Rattle.std.specs.Int.{w64, int_wrapping_add}
use Rattle.nob_pickle.specs.declared.value.Value.{Value}
use Rattle.nob_pickle.specs.declared.value.Value.TheVariants as values
use Rattle.nob_dispatch_objects.specs.declared.object.Outcome.{Outcome}
use Rattle.nob_dispatch_objects.specs.declared.object.Outcome.TheVariants as outcomes

-- the total after a call: method 0 adds a whole number
abbrev pub total_after : (method : ℕ) → Value → ℤ → ℤ
total_after zero (values.Int number) total = int_wrapping_add w64 total number
total_after method value total = total

-- what a call comes to: method 0 answers the total with a whole number added, any other value is a fault, and there is no other method
abbrev pub outcome_of : (method : ℕ) → Value → ℤ → Outcome
outcome_of zero (values.Int number) total = outcomes.Answer (values.Int (int_wrapping_add w64 total number))
outcome_of zero value total = outcomes.Fault values.Unit
outcome_of (suc method) value total = outcomes.NoMethod
