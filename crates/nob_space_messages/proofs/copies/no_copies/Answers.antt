use Rattle.nob_space_messages.proofs.Carried.{zeros_at}
use Rattle.nob_space_messages.proofs.copies.no_copies.Goals as goal

pub returns : goal.returns
returns c owner = zeros_at 33 owner
