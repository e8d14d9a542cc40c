use Rattle.std.proofs.Common.{◌∙◌}
use Rattle.nob_model_history.specs.Histories.{history}
use Rattle.nob_watch.proofs.Peers.{said_by}
use Rattle.nob_watch.proofs.sealing.is_said.Goals as goal

pub returns : goal.returns
returns c L stands = c.is_as.ensures ∙ said_by (history c.args.space.now.id c.args.space.now.n L) c.args.peer.now c.tally-tally.result (c.tally-tally.ensures L stands)
