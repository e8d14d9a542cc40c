use Rattle.nob_space_state.proofs.Returned.{back_one}
use Rattle.nob_space_state.proofs.returns.give_back.Goals as goal

pub returns : goal.returns
returns c = back_one c.args.table.now c.release.new.self c.args.rep (c.in-Ok.ensures {u = tt}).answer (c.in-Ok.ensures {u = tt}).released c.release.ensures.left
