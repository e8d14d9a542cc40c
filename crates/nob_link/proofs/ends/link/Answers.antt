use Rattle.std.proofs.Common.{rules}
use Rattle.nob_link.proofs.Steps.{begins, forks}
use Rattle.nob_link.proofs.ends.link.Goals as goal

pub bounded_with-requires-clause-rule : goal.bounded_with-requires-clause-rule
bounded_with-requires-clause-rule c = begins

pub another-taker-requires-clause-rule : goal.another-taker-requires-clause-rule
another-taker-requires-clause-rule c = forks _ _ (search rules) (search rules)
