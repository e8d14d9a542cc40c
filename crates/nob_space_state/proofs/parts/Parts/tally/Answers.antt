use Rattle.std.proofs.Common.{sym}
use Rattle.nob_model_history.specs.Histories.{history_of}
use Rattle.nob_space_state.proofs.Ends.{at_peer, end_there}
use Rattle.nob_space_state.proofs.Orderly.{orderly}
use Rattle.nob_space_state.proofs.Tallied.{tally_there}
use Rattle.nob_space_state.proofs.parts.Parts.tally.Goals as goal

pub returns : goal.returns
returns c limits D stands =
    let is = at_peer c.args.self.now.sessions.items c.place.result c.args.peer c.index-session.result.now c.place.ensures.value c.index-session.ensures in
    let there = end_there c.args.self.now.here.space c.args.self.now.here.n limits c.args.self.now.sessions.items (history_of c.args.self.now.here.space c.args.self.now.here.n D) c.args.peer c.index-session.result.now stands.ends c.requires.peer is in
    rw (c.number.ensures, c.handed.ensures, c.taken.ensures, c.ending.ensures) (sym (tally_there c.args.self.now.here.space c.args.self.now.here.n c.args.peer limits c.index-session.result.now.end D (orderly stands).rises there.2))
