use Rattle.nob_offers.proofs.Bells.{heard}
use Rattle.nob_offers.proofs.laws.heard_before_sleep.Goals as goal

pub returns : goal.returns
returns c = heard
