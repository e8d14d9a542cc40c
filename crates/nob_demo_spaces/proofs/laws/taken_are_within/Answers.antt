use Rattle.nob_demo_spaces.proofs.Within as within
use Rattle.nob_demo_spaces.proofs.laws.taken_are_within.Goals as goal

pub returns : goal.returns
returns c = within.taken_are_within
