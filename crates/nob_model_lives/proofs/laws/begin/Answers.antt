use Rattle.nob_model_lives.proofs.Unused.{first_law}
use Rattle.nob_model_lives.proofs.laws.begin.Goals as goal

-- src/laws.rt:15:1
pub returns-clause-first : goal.returns-clause-first
returns-clause-first c = first_law
