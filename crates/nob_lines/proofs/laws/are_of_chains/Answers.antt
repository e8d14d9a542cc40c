use Rattle.nob_lines.proofs.Staged.{are_of_chains as the_law}
use Rattle.nob_lines.proofs.laws.are_of_chains.Goals as goal

pub returns : goal.returns
returns c = the_law
