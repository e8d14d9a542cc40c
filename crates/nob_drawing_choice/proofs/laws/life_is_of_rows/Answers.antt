use Rattle.nob_drawing_choice.proofs.Both.{life_is_of_rows}
use Rattle.nob_drawing_choice.proofs.laws.life_is_of_rows.Goals as goal

pub returns : goal.returns
returns c = life_is_of_rows
