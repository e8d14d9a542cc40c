use Rattle.nob_fault.proofs.Coming.{only_what_came as the_law}
use Rattle.nob_fault.proofs.laws.only_what_came.Goals as goal

pub returns : goal.returns
returns c = the_law
