use Rattle.nob_offers.proofs.Retries.{tried}
use Rattle.nob_offers.proofs.laws.tried_before_rest.Goals as goal

pub returns : goal.returns
returns c = tried
