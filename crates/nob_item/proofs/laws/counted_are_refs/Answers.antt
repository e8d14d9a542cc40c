use Rattle.nob_item.proofs.Whole.{counted_are_refs as the_law}
use Rattle.nob_item.proofs.laws.counted_are_refs.Goals as goal

pub returns : goal.returns
returns c = the_law
