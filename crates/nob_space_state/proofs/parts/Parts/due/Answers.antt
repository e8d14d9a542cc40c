use Rattle.std.proofs.Common.{◌≡◌, ◌-◌, List, true, get_or, sym, ap, subst, ◌∙◌}
use Rattle.nob_session.specs.Calls.{frames_of}
use Rattle.nob_session.specs.Dues.{due_of}
use Rattle.nob_session.specs.Stands.{Roomy, End}
use Rattle.nob_session.proofs.Alike.{onward_is}
use Rattle.nob_model_types.specs.Sessions.{is_peer}
use Rattle.nob_model_history.specs.Histories.{history_of}
use Rattle.nob_space_state.proofs.Ends.{at_peer, end_there}
use Rattle.nob_space_state.proofs.Nexts.{due_no_peer, due_there}
use Rattle.nob_space_state.proofs.parts.Parts.due.Goals as goal

pub returns-then-not-is_peer : goal.returns-then-not-is_peer
returns-then-not-is_peer c limits D stands = sym (due_no_peer c.args.self.now.here.space c.args.self.now.here.n c.args.peer limits.window (history_of c.args.self.now.here.space c.args.self.now.here.n D) (sym c.is_peer.ensures ∙ c.if-not-is_peer.true))

pub returns-in-Some : goal.returns-in-Some
returns-in-Some c limits D stands =
    let peer : is_peer c.args.self.now.here.space c.args.self.now.here.n c.args.peer ≡ true = sym c.is_peer.ensures ∙ c.if-not-is_peer.false in
    let read : c.in-Some.session.now ≡ get_or c.args.self.now.sessions.items c.place.result c.in-Some.session.now = subst (λ (ends : List Roomy). c.in-Some.session.now ≡ get_or ends c.place.result c.in-Some.session.now) c.deref.ensures.value (c.in-Some.ensures {u = tt}).lookup.1 in
    let is = at_peer c.args.self.now.sessions.items c.place.result c.args.peer c.in-Some.session.now c.place.ensures.value read in
    let there = end_there c.args.self.now.here.space c.args.self.now.here.n limits c.args.self.now.sessions.items (history_of c.args.self.now.here.space c.args.self.now.here.n D) c.args.peer c.in-Some.session.now stands.ends peer is in
    c.due.ensures
    ∙ ap (λ (e : End). due_of e.transmitted (frames_of e)) (onward_is there.2)
    ∙ sym (due_there c.args.self.now.here.space c.args.self.now.here.n c.args.peer limits.window (history_of c.args.self.now.here.space c.args.self.now.here.n D) peer)
