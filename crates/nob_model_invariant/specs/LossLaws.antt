-- The laws of losses in runs of a world.
use Rattle.std.specs.Prelude.{ℕ, List}
use Rattle.nob_ids.specs.declared.limits.Limits.{Limits}
use Rattle.nob_model_types.specs.declared.entry.Entry.{Entry}
use Rattle.nob_model_journal.specs.Runs.{WorldRun}
use Rattle.nob_model_journal.specs.Losses.{NoFalseLoss}
use Rattle.nob_model_invariant.specs.Typed.{AreOfTypes}
use Rattle.nob_model_invariant.specs.LossInvariant.{Settled, Waiting, Denials, Numbers, Copies}
use Rattle.nob_model_invariant.specs.Leaks.{NoLeak}

-- in every run of a world what was acted on is settled, or its message waits
abbrev pub SettledLaw : Type 0
SettledLaw = (n : ℕ) (limits : ℕ → Limits) (J : List Entry) → WorldRun n limits J → Settled n J

-- in every run of a world the references of messages that wait are accounted for
abbrev pub WaitingLaw : Type 0
WaitingLaw = (n : ℕ) (limits : ℕ → Limits) (J : List Entry) → WorldRun n limits J → Waiting n J

-- in every run of a world all copies of what an owner denied are settled
abbrev pub DenialsLaw : Type 0
DenialsLaw = (n : ℕ) (limits : ℕ → Limits) (J : List Entry) → WorldRun n limits J → Denials n J

-- in every run of a world the sessions of copies aren't above the ones in which the spaces are
abbrev pub NumbersLaw : Type 0
NumbersLaw = (n : ℕ) (limits : ℕ → Limits) (J : List Entry) → WorldRun n limits J → AreOfTypes J → Numbers n J

-- in every run of a world the copies of a reference wait while it is pending, and are excused where it is refused
abbrev pub CopiesLaw : Type 0
CopiesLaw = (n : ℕ) (limits : ℕ → Limits) (J : List Entry) → WorldRun n limits J → AreOfTypes J → Copies n J

-- in every run of a world no reference is lost without a cause
abbrev pub LossesLaw : Type 0
LossesLaw = (n : ℕ) (limits : ℕ → Limits) (J : List Entry) → WorldRun n limits J → AreOfTypes J → NoFalseLoss n J

-- in every run of a world no object leaks
abbrev pub LeaksLaw : Type 0
LeaksLaw = (n : ℕ) (limits : ℕ → Limits) (J : List Entry) → WorldRun n limits J → NoLeak n J
