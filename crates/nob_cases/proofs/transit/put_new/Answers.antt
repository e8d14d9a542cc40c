use Rattle.nob_pins.specs.Bundles.{bundle_of}
use Rattle.nob_pins.specs.Evidence.{reps_of}
use Rattle.nob_cases.proofs.Strangers.{none_put}
use Rattle.nob_cases.proofs.transit.put_new.Goals as goal

pub returns : goal.returns
returns c = none_put c.args.table.now.bundles c.put.new.self.bundles (bundle_of c.args.peer c.args.item (reps_of c.in_ok-pins.pins.items)) c.requires.peer (rw c.reserve.ensures.bundles at c.in-Ok.ensures.adds)
