-- The laws of what comes next in runs of a world.
use Rattle.std.specs.Prelude.{ℕ, List}
use Rattle.nob_ids.specs.declared.limits.Limits.{Limits}
use Rattle.nob_model_types.specs.declared.entry.Entry.{Entry}
use Rattle.nob_model_journal.specs.Runs.{WorldRun}
use Rattle.nob_model_journal.specs.Findings.{Found}
use Rattle.nob_model_invariant.specs.Typed.{AreOfTypes}
use Rattle.nob_model_invariant.specs.ArrivalInvariant.{Guarded, Answers}

-- in every run of a world what is under way is guarded
abbrev pub GuardedLaw : Type 0
GuardedLaw = (n : ℕ) (limits : ℕ → Limits) (J : List Entry) → WorldRun n limits J → AreOfTypes J → Guarded n J

-- in every run of a world client and owner keep to Calls and Replies
abbrev pub AnswersLaw : Type 0
AnswersLaw = (n : ℕ) (limits : ℕ → Limits) (J : List Entry) → WorldRun n limits J → AreOfTypes J → Answers n J

-- in every run of a world every reference is found
abbrev pub FoundLaw : Type 0
FoundLaw = (n : ℕ) (limits : ℕ → Limits) (J : List Entry) → WorldRun n limits J → AreOfTypes J → Found J
