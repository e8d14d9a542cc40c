use Rattle.nob_offers.proofs.Offers.{seen}
use Rattle.nob_offers.proofs.laws.seen_before_rest.Goals as goal

pub returns : goal.returns
returns c = seen
