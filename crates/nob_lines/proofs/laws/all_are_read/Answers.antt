use Rattle.nob_lines.proofs.Staged.{all_are_read as the_law}
use Rattle.nob_lines.proofs.laws.all_are_read.Goals as goal

pub returns : goal.returns
returns c = the_law
