use Rattle.nob_cases.proofs.Strangers.{none_taken}
use Rattle.nob_cases.proofs.transit.clear.Goals as goal

pub returns-in-Ok-clause-known : goal.returns-in-Ok-clause-known
returns-in-Ok-clause-known c = none_taken _ _ _ _ c.in-Ok.ensures.answer
