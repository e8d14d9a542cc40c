-- Every run of a world is safe.
use Rattle.nob_model_invariant.proofs.Fronts.{fronts_law}
use Rattle.nob_model_invariant.proofs.Withdrawing.{safe_withdraw}
use Rattle.nob_model_invariant.proofs.Finding.{found_law}
use Rattle.nob_model_invariant.proofs.Excused.{losses}
use Rattle.nob_model_invariant.proofs.Leaking.{leaks}
use Rattle.nob_model_invariant.specs.Safe.{SafeLaw}

pub safe_law : SafeLaw
safe_law n limits J run typed = record {
  fronts = fronts_law n limits J run typed;
  withdraws = safe_withdraw n limits J run typed;
  losses = losses n limits J run typed;
  found = found_law n limits J run typed;
  leaks = leaks n limits J run;
}
