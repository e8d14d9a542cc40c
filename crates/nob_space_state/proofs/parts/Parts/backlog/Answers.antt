use Rattle.std.proofs.Common.{sym}
use Rattle.nob_space_state.proofs.Tallied.{backlog_there}
use Rattle.nob_space_state.proofs.parts.Parts.backlog.Goals as goal

pub returns : goal.returns
returns c limits D stands = rw (c.calls_len.ensures, c.ready_len.ensures, c.running_len.ensures) (sym (backlog_there stands))
