-- Every run of a world has its fronts.
use Rattle.nob_model_journal.specs.Journals.{deeds_at}
use Rattle.nob_model_invariant.specs.SafetyLaws.{FrontsLaw}
use Rattle.nob_model_invariant.proofs.Entries.{right_deeds_at}
use Rattle.nob_model_invariant.proofs.Order.{in_order}
use Rattle.nob_model_invariant.proofs.Open.{acts_open, sends_open}

pub fronts_law : FrontsLaw
fronts_law n limits J run typed = record {
  order = in_order n limits J run typed;
  acts = λ s. acts_open s n (limits s) (deeds_at s J) (right_deeds_at n limits J run s);
  sends = λ s. sends_open s n (limits s) (deeds_at s J) (right_deeds_at n limits J run s);
}
