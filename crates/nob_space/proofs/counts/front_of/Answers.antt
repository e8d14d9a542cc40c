use Rattle.std.proofs.Common.{◌≡◌, List, true, get_or, sym, subst, ◌∙◌}
use Rattle.nob_model_session.specs.declared.entry.EndEntry.TheVariants as ends
use Rattle.nob_model_session.specs.Texts.{front_text}
use Rattle.nob_session.specs.Stands.{Roomy}
use Rattle.nob_session.proofs.Alike.{told_onward}
use Rattle.nob_model_types.specs.Sessions.{is_peer}
use Rattle.nob_model_history.specs.Histories.{history_of}
use Rattle.nob_space_state.proofs.Ends.{at_peer, end_there}
use Rattle.nob_space.proofs.Counted.{front_shut, front_there}
use Rattle.nob_space.proofs.counts.front_of.Goals as goal

pub returns-then-has_closed : goal.returns-then-has_closed
returns-then-has_closed c limits D stands = front_shut stands c.args.peer (sym c.is_peer.ensures ∙ c.if-not-is_peer.false) (sym c.has_closed.ensures ∙ c.if-has_closed.true)

pub returns-in-Some : goal.returns-in-Some
returns-in-Some c limits D stands =
    let peer : is_peer c.args.parts.now.here.space c.args.parts.now.here.n c.args.peer ≡ true = sym c.is_peer.ensures ∙ c.if-not-is_peer.false in
    let read : c.in-Some.session.now ≡ get_or c.args.parts.now.sessions.items c.place.result c.in-Some.session.now = subst (λ (ends : List Roomy). c.in-Some.session.now ≡ get_or ends c.place.result c.in-Some.session.now) c.deref.ensures.value (c.in-Some.ensures {u = tt}).lookup.1 in
    let is = at_peer c.args.parts.now.sessions.items c.place.result c.args.peer c.in-Some.session.now c.place.ensures.value read in
    let there = end_there c.args.parts.now.here.space c.args.parts.now.here.n limits c.args.parts.now.sessions.items (history_of c.args.parts.now.here.space c.args.parts.now.here.n D) c.args.peer c.in-Some.session.now stands.ends peer is in
    told_onward (ends.Front (front_text c.front.result)) there.2 (λ M stood. c.front.ensures.answer c.args.parts.now.here.space c.args.peer limits M stood)
    ∙ sym (front_there stands c.args.peer peer (sym c.has_closed.ensures ∙ c.if-has_closed.false))
