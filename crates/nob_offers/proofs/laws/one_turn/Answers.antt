use Rattle.nob_offers.proofs.Turns.{one_turn}
use Rattle.nob_offers.proofs.laws.one_turn.Goals as goal

pub returns : goal.returns
returns c = one_turn
