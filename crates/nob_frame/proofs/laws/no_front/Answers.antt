use Rattle.nob_frame.proofs.Codec.{no_front as the_law}
use Rattle.nob_frame.proofs.laws.no_front.Goals as goal

pub returns : goal.returns
returns c = the_law
