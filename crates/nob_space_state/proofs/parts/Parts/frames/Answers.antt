use Rattle.std.proofs.Common.{◌≡◌, ◌-◌, List, true, Ok, IsOk, get_or, refl, sym, ap, subst, ◌∙◌, ◌≢◌, arith}
use Rattle.nob_frame.specs.declared.frame.Frame.{Frame}
use Rattle.std.proofs.lemmas.Bool.Decides.{nat_tests}
use Rattle.nob_session.specs.Calls.{frames_of}
use Rattle.nob_ids.specs.Names.{IsSpace}
use Rattle.nob_session.specs.Items.{IsPair}
use Rattle.nob_session.specs.Stands.{Roomy, End}
use Rattle.nob_session.proofs.Alike.{onward_is}
use Rattle.nob_model_types.specs.declared.answer.Answer.TheVariants as answers
use Rattle.nob_model_types.specs.Sessions.{is_peer}
use Rattle.nob_model_history.specs.Histories.{history_of}
use Rattle.nob_space_state.proofs.Passing.{wants_as}
use Rattle.nob_space_state.proofs.Ends.{at_peer, end_there, frames_right, frames_no_peer}
use Rattle.nob_space_state.proofs.parts.Parts.frames.Goals as goal

pub returns-then-not-is_peer-clause-answer : goal.returns-then-not-is_peer-clause-answer
returns-then-not-is_peer-clause-answer c limits D stands = frames_no_peer _ _ _ _ _ (sym c.is_peer.ensures ∙ c.if-not-is_peer.true)

pub returns-clause-answer : goal.returns-clause-answer
returns-clause-answer c limits D stands =
    let peer : is_peer c.args.self.now.here.space c.args.self.now.here.n c.args.peer ≡ true = sym c.is_peer.ensures ∙ c.if-not-is_peer.false in
    let read : c.in-Some.session.now ≡ get_or c.args.self.now.sessions.items c.place.result c.in-Some.session.now = subst (λ (ends : List Roomy). c.in-Some.session.now ≡ get_or ends c.place.result c.in-Some.session.now) c.deref.ensures.value (c.in-Some.ensures {u = tt}).lookup.1 in
    let is = at_peer c.args.self.now.sessions.items c.place.result c.args.peer c.in-Some.session.now c.place.ensures.value read in
    let there = end_there c.args.self.now.here.space c.args.self.now.here.n limits c.args.self.now.sessions.items (history_of c.args.self.now.here.space c.args.self.now.here.n D) c.args.peer c.in-Some.session.now stands.ends peer is in
    frames_right _ _ _ _ _ peer ∙ ap (λ (frames : List Frame). Ok (answers.Frames frames)) (sym (ap frames_of (onward_is there.2)) ∙ sym c.in_ok-frames.ensures.frames)

pub returns-in_err-frames-clause-answer : goal.returns-in_err-frames-clause-answer
returns-in_err-frames-clause-answer c limits D stands =
    wants_as _ c.from_residual.result _ c.from_residual.ensures.1
    (subst IsOk (sym (frames_right c.args.self.now.here.space c.args.self.now.here.n c.args.peer limits.window (history_of c.args.self.now.here.space c.args.self.now.here.n D) (sym c.is_peer.ensures ∙ c.if-not-is_peer.false))) refl)

pub returns-clause-spelt : goal.returns-clause-spelt
returns-clause-spelt c (limits, D, stands) here_is =
    let peer : is_peer c.args.self.now.here.space c.args.self.now.here.n c.args.peer ≡ true = sym c.is_peer.ensures ∙ c.if-not-is_peer.false in
    let read : c.in-Some.session.now ≡ get_or c.args.self.now.sessions.items c.place.result c.in-Some.session.now = subst (λ (ends : List Roomy). c.in-Some.session.now ≡ get_or ends c.place.result c.in-Some.session.now) c.deref.ensures.value (c.in-Some.ensures {u = tt}).lookup.1 in
    let is = at_peer c.args.self.now.sessions.items c.place.result c.args.peer c.in-Some.session.now c.place.ensures.value read in
    let there = end_there c.args.self.now.here.space c.args.self.now.here.n limits c.args.self.now.sessions.items (history_of c.args.self.now.here.space c.args.self.now.here.n D) c.args.peer c.in-Some.session.now stands.ends peer is in
    let pair : IsPair c.in-Some.session.now.end.me c.in-Some.session.now.end.peer =
    let me : c.in-Some.session.now.end.me ≡ c.args.self.now.here.space = ap (λ (e : End). e.me) (onward_is there.2) in
    let other : c.in-Some.session.now.end.peer ≡ c.args.peer = ap (λ (e : End). e.peer) (onward_is there.2) in
    let peer_is : IsSpace c.args.peer = (omega (arith, c.place.ensures.next), omega (arith, c.place.ensures.next, c.place.ensures.in_range)) in
    (subst IsSpace (sym me) here_is, subst IsSpace (sym other) peer_is, λ same. let apart : c.args.peer ≢ c.args.self.now.here.space = λ e. grind (arith, nat_tests, peer, e) in apart (sym other ∙ sym same ∙ me)) in
    c.in_ok-frames.ensures.spelt pair
