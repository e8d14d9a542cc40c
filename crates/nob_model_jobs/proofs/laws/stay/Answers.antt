use Rattle.nob_model_jobs.proofs.Life.{stay_law}
use Rattle.nob_model_jobs.proofs.laws.stay.Goals as goal

-- src/laws.rt:23:1
pub returns : goal.returns
returns c = stay_law
