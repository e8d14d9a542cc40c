-- What is proved of all that happens in a run of a world, in one record.
use Rattle.std.specs.Prelude.{ℕ, List}
use Rattle.nob_ids.specs.declared.limits.Limits.{Limits}
use Rattle.nob_model_types.specs.declared.entry.Entry.{Entry}
use Rattle.nob_model_journal.specs.Fronts.{Fronts}
use Rattle.nob_model_journal.specs.Safety.{SafeWithdraw}
use Rattle.nob_model_journal.specs.Losses.{NoFalseLoss}
use Rattle.nob_model_journal.specs.Findings.{Found}
use Rattle.nob_model_journal.specs.Runs.{WorldRun}
use Rattle.nob_model_invariant.specs.Leaks.{NoLeak}
use Rattle.nob_model_invariant.specs.Typed.{AreOfTypes}

-- what is proved of all that happens in a world of n spaces
pub record IsSafe (n : ℕ) (J : List Entry) : Type 0 where
  -- what each space acted on from each peer is a gapless front of what that peer sent it, and nothing after that session's close
  pub fronts : Fronts n J
  -- no owner withdraws an object while a space on an open session can use it or its reference is in open transit
  pub withdraws : SafeWithdraw n J
  -- no reference is lost without a cause
  pub losses : NoFalseLoss n J
  -- every reference is found: no session is closed for a fault in what came over it
  pub found : Found J
  -- no object leaks: once all is quiet, each live object that no space can use can be withdrawn
  pub leaks : NoLeak n J

-- every run of a world is safe, each space with limits of its own
abbrev pub SafeLaw : Type 0
SafeLaw = (n : ℕ) (limits : ℕ → Limits) (J : List Entry) → WorldRun n limits J → AreOfTypes J → IsSafe n J
