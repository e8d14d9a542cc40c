use Rattle.nob_model_jobs.proofs.Life.{life_law}
use Rattle.nob_model_jobs.proofs.laws.life.Goals as goal

-- src/laws.rt:18:1
pub returns : goal.returns
returns c = life_law
