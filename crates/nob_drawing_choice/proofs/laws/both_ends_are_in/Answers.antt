use Rattle.nob_drawing_choice.proofs.Both.{both_ends_are_in}
use Rattle.nob_drawing_choice.proofs.laws.both_ends_are_in.Goals as goal

pub returns : goal.returns
returns c = both_ends_are_in
