use Rattle.nob_cases.proofs.Strangers.{none_taken}
use Rattle.nob_cases.proofs.transit.settle.Goals as goal

pub returns-in-Ok : goal.returns-in-Ok
returns-in-Ok c = none_taken c.args.table.now.bundles c.settle.new.self.bundles c.in-Some.settled.peer c.in-Some.settled.item c.in-Ok.ensures.answer
