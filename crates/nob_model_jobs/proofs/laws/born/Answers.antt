use Rattle.nob_model_jobs.proofs.Born.{born_alike_law}
use Rattle.nob_model_jobs.proofs.laws.born.Goals as goal

-- src/laws.rt:13:1
pub returns : goal.returns
returns c = born_alike_law
