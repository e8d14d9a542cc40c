use Rattle.nob_offers.proofs.Turns.{no_wait}
use Rattle.nob_offers.proofs.laws.no_wait.Goals as goal

pub returns : goal.returns
returns c = no_wait
