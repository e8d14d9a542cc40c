use Rattle.nob_item.proofs.Whole.{one_item as the_law}
use Rattle.nob_item.proofs.laws.one_item.Goals as goal

pub returns : goal.returns
returns c = the_law c.no_front.ensures
