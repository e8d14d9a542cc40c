use Rattle.nob_drawing_choice.proofs.Both.{turns_are_in}
use Rattle.nob_drawing_choice.proofs.laws.turns_are_in.Goals as goal

pub returns : goal.returns
returns c = turns_are_in
