use Rattle.nob_cases.proofs.Strangers.{none_closed}
use Rattle.nob_cases.proofs.transit.close.Goals as goal

pub returns : goal.returns
returns c = none_closed c.args.table.now.bundles _ c.args.closed.now.peer c.close.ensures
