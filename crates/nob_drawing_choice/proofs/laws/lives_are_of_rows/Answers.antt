use Rattle.nob_drawing_choice.proofs.Turned.{lives_are_of_rows}
use Rattle.nob_drawing_choice.proofs.laws.lives_are_of_rows.Goals as goal

pub returns : goal.returns
returns c = lives_are_of_rows
