use Rattle.nob_exchange.specs.Exchanges.{acted, settled}
use Rattle.nob_exchange.proofs.asking.work_once.Goals as goal

pub returns-then-settled-clause-has : goal.returns-then-settled-clause-has
returns-then-settled-clause-has c past has = c.in_ok-cleaned.ensures.has (settled c.args.peer past) (c.in_ok-settled.ensures.has (acted c.args.peer past) (c.in_ok-acted.ensures.has past has))

pub returns-else-settled-clause-has : goal.returns-else-settled-clause-has
returns-else-settled-clause-has c past has = c.in_ok-cleaned.ensures.has (settled c.args.peer past) (c.in_ok-settled.ensures.has (acted c.args.peer past) (c.in_ok-acted.ensures.has past has))
