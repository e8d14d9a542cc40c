-- The invariant of a run, from its points.
use Rattle.std.proofs.Common.{ℕ, List}
use Rattle.nob_ids.specs.declared.limits.Limits.{Limits}
use Rattle.nob_model_types.specs.declared.entry.Entry.{Entry}
use Rattle.nob_model_journal.specs.Journals.{deeds_at}
use Rattle.nob_model_journal.specs.Runs.{WorldRun}
use Rattle.nob_model.proofs.Lending.{all_lent}
use Rattle.nob_model_invariant.proofs.Entries.{right_deeds_at}
use Rattle.nob_model_invariant.proofs.Order.{sessions}
use Rattle.nob_model_invariant.proofs.Bad.{readings}
use Rattle.nob_model_invariant.proofs.SafetyPoints as points
use Rattle.nob_model_invariant.proofs.Naming.{names}
use Rattle.nob_model_invariant.proofs.Listings.{listings}
use Rattle.nob_model_invariant.proofs.Guarding.{guarded_law}
use Rattle.nob_model_invariant.proofs.Answering.{answers_law}
use Rattle.nob_model_invariant.proofs.Numbers.{numbers}
use Rattle.nob_model_invariant.proofs.Points as losses
use Rattle.nob_model_invariant.specs.Invariant.{Loans}
use Rattle.nob_model_invariant.specs.Laws.{InvariantLaw}

-- what is ready has lent all that it carries
lent : (n : ℕ) (limits : ℕ → Limits) (J : List Entry) → WorldRun n limits J → Loans n J
lent n limits J run = record {
  ready = λ s. (all_lent s n (limits s) (deeds_at s J) (right_deeds_at n limits J run s)).ready;
  running = λ s. (all_lent s n (limits s) (deeds_at s J) (right_deeds_at n limits J run s)).running;
  replies = λ s. (all_lent s n (limits s) (deeds_at s J) (right_deeds_at n limits J run s)).replies;
}

pub invariant : InvariantLaw
invariant n limits J run typed = record {
  sessions = sessions n limits J run typed;
  readings = readings n limits J run typed;
  clients = points.clients n limits J run;
  owners = points.owners n limits J run;
  names = names n limits J run typed;
  listings = listings n limits J run typed;
  holdings = points.holdings n limits J run;
  loans = lent n limits J run;
  living = points.living n limits J run;
  guarded = guarded_law n limits J run typed;
  answers = answers_law n limits J run typed;
  settlements = points.settlements n limits J run;
  settled = losses.settled n limits J run;
  waiting = losses.waiting n limits J run;
  denials = losses.denials n limits J run;
  numbers = numbers n limits J run typed;
  copies = losses.copied n limits J run typed;
}
