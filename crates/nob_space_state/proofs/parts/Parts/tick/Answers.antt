use Rattle.std.proofs.Common.{◌≡◌, ℕ, ◌-◌, ◌∷◌, true, Some, None, Ok, Err, refl, sym, ap, subst, ◌∙◌}
use lib.ListN.{set}
use Rattle.nob_model_session.specs.declared.entry.EndEntry.TheVariants as ends
use Rattle.nob_model_session.specs.Right.{IsRight}
use Rattle.nob_session.specs.Calls.{EndsBy}
use Rattle.nob_session.specs.Stands as session
use Rattle.nob_session.proofs.Alike.{called_onward}
use Rattle.nob_model_types.specs.Sessions.{is_peer}
use Rattle.nob_model_types.specs.declared.deed.Cause.TheVariants as causes
use Rattle.nob_model_types.specs.declared.deed.Deed.TheVariants as did
use Rattle.nob_model_types.specs.declared.answer.Answer.TheVariants as answers
use Rattle.nob_model_history.specs.Histories.{history_of}
use Rattle.nob_model.specs.Right.{tick_of}
use Rattle.nob_space_state.specs.Closing.{ClosesDown}
use Rattle.nob_space_state.specs.Parts.{state_of, with_sessions}
use Rattle.nob_space_state.specs.Stands.{Stands}
use Rattle.nob_space_state.proofs.Arrivals.{tick_of_none, tick_told}
use Rattle.nob_space_state.proofs.Closings.{vain_lent, ended_stands}
use Rattle.nob_space_state.proofs.Ends.{at_peer, end_there, stands_kept, tick_is_still, tick_calls, called_stands}
use Rattle.nob_space_state.proofs.Orderly.{tick_is, ticks_close_is}
use Rattle.nob_space_state.proofs.Passing.{same_space}
use Rattle.nob_space_state.proofs.parts.Parts.tick.Goals as goal

pub returns-then-not-is_peer-clause-answer : goal.returns-then-not-is_peer-clause-answer
returns-then-not-is_peer-clause-answer c limits D stands = tick_of_none _ _ _ _ _ (sym c.is_peer.ensures ∙ c.if-not-is_peer.true)

pub close_down-requires : goal.close_down-requires
close_down-requires c = vain_lent c.requires.2 c.in-Ok-Some.closed.peer

pub returns-in-Ok-None-clause-answer : goal.returns-in-Ok-None-clause-answer
returns-in-Ok-None-clause-answer c limits D stands =
    let peer : is_peer c.args.self.now.here.space c.args.self.now.here.n c.args.peer ≡ true = sym c.is_peer.ensures ∙ c.if-not-is_peer.false in
    let is = at_peer c.args.self.now.sessions.items c.place.result c.args.peer c.index_mut.result.now c.place.ensures.value c.index_mut.ensures.value in
    let there = end_there c.args.self.now.here.space c.args.self.now.here.n limits c.args.self.now.sessions.items (history_of c.args.self.now.here.space c.args.self.now.here.n D) c.args.peer c.index_mut.result.now stands.ends peer is in
    tick_told _ _ _ _ _ peer ∙ ap tick_of (sym (called_onward (ends.Tick (Ok None)) there.2 (λ M stood. subst (λ o. IsRight c.args.self.now.here.space c.args.peer limits (ends.Tick (Ok o)) M × session.Stands c.args.self.now.here.space c.args.peer limits c.tick.new.self.end (ends.Tick (Ok o) ∷ M)) c.in-Ok-None.field-0-is ((c.in-Ok-None.ensures {u = tt}).answer c.args.self.now.here.space c.args.peer limits M stood))).0)

pub returns-in-Ok-None-clause-stands : goal.returns-in-Ok-None-clause-stands
returns-in-Ok-None-clause-stands c limits D stands =
    let peer : is_peer c.args.self.now.here.space c.args.self.now.here.n c.args.peer ≡ true = sym c.is_peer.ensures ∙ c.if-not-is_peer.false in
    let is = at_peer c.args.self.now.sessions.items c.place.result c.args.peer c.index_mut.result.now c.place.ensures.value c.index_mut.ensures.value in
    let there = end_there c.args.self.now.here.space c.args.self.now.here.n limits c.args.self.now.sessions.items (history_of c.args.self.now.here.space c.args.self.now.here.n D) c.args.peer c.index_mut.result.now stands.ends peer is in
    subst (λ (k : ℕ). Stands c.args.self.now.here.space c.args.self.now.here.n limits (with_sessions (set c.args.self.now.sessions.items k c.tick.new.self) (state_of c.args.self.now)) (did.Tick c.args.peer ∷ D)) (sym c.place.ensures.value)
    (called_stands stands c.args.peer c.index_mut.result.now c.tick.new.self peer is (did.Tick c.args.peer) (ends.Tick (Ok None)) (tick_is_still c.args.self.now.here.space c.args.self.now.here.n c.args.peer D) (tick_calls c.args.self.now.here.space c.args.self.now.here.n c.args.peer D)
    (tick_is c.args.self.now.here.space c.args.self.now.here.n limits D c.args.peer (returns-in-Ok-None-clause-answer c limits D stands))
    (called_onward (ends.Tick (Ok None)) there.2 (λ M stood. subst (λ o. IsRight c.args.self.now.here.space c.args.peer limits (ends.Tick (Ok o)) M × session.Stands c.args.self.now.here.space c.args.peer limits c.tick.new.self.end (ends.Tick (Ok o) ∷ M)) c.in-Ok-None.field-0-is ((c.in-Ok-None.ensures {u = tt}).answer c.args.self.now.here.space c.args.peer limits M stood))).1)

pub returns-in-Ok-Some-clause-answer : goal.returns-in-Ok-Some-clause-answer
returns-in-Ok-Some-clause-answer c limits D stands =
    let peer : is_peer c.args.self.now.here.space c.args.self.now.here.n c.args.peer ≡ true = sym c.is_peer.ensures ∙ c.if-not-is_peer.false in
    let is = at_peer c.args.self.now.sessions.items c.place.result c.args.peer c.index_mut.result.now c.place.ensures.value c.index_mut.ensures.value in
    let there = end_there c.args.self.now.here.space c.args.self.now.here.n limits c.args.self.now.sessions.items (history_of c.args.self.now.here.space c.args.self.now.here.n D) c.args.peer c.index_mut.result.now stands.ends peer is in
    tick_told _ _ _ _ _ peer ∙ ap tick_of (sym (called_onward (ends.Tick (Ok (Some c.in-Ok-Some.closed))) there.2 (λ M stood. subst (λ o. IsRight c.args.self.now.here.space c.args.peer limits (ends.Tick (Ok o)) M × session.Stands c.args.self.now.here.space c.args.peer limits c.tick.new.self.end (ends.Tick (Ok o) ∷ M)) c.in-Ok-Some.field-0-is ((c.in-Ok-Some.ensures {u = tt}).answer c.args.self.now.here.space c.args.peer limits M stood))).0) ∙ ap (λ reason. Ok (answers.Closed reason)) (sym c.reason.ensures)

pub returns-in-Ok-Some-clause-stands : goal.returns-in-Ok-Some-clause-stands
returns-in-Ok-Some-clause-stands c limits D stands =
    let peer : is_peer c.args.self.now.here.space c.args.self.now.here.n c.args.peer ≡ true = sym c.is_peer.ensures ∙ c.if-not-is_peer.false in
    let is = at_peer c.args.self.now.sessions.items c.place.result c.args.peer c.index_mut.result.now c.place.ensures.value c.index_mut.ensures.value in
    same_space c.close_down.new.self.here c.args.self.now.here c.close_down.ensures.here (ended_stands stands c.args.peer c.reason.result causes.Ticks (λ e. ends.Tick (Ok (Some e))) refl c.index_mut.result.now c.tick.new.self (state_of c.close_down.new.self) c.in-Ok-Some.closed peer is
    (sym c.reason.ensures) (subst (λ o. EndsBy c.index_mut.result.now.end c.tick.new.self.end o) c.in-Ok-Some.field-0-is (c.in-Ok-Some.ensures {u = tt}).ends).1
    (λ before. (called_onward (ends.Tick (Ok (Some c.in-Ok-Some.closed))) before (λ M stood. subst (λ o. IsRight c.args.self.now.here.space c.args.peer limits (ends.Tick (Ok o)) M × session.Stands c.args.self.now.here.space c.args.peer limits c.tick.new.self.end (ends.Tick (Ok o) ∷ M)) c.in-Ok-Some.field-0-is ((c.in-Ok-Some.ensures {u = tt}).answer c.args.self.now.here.space c.args.peer limits M stood))).1)
    (subst (λ (k : ℕ). ClosesDown c.args.self.now.here.space c.in-Ok-Some.closed.peer (with_sessions (set c.args.self.now.sessions.items k c.tick.new.self) (state_of c.args.self.now)) (state_of c.close_down.new.self)) c.place.ensures.value c.close_down.ensures.closes)
    (ticks_close_is c.args.self.now.here.space c.args.self.now.here.n limits D c.args.peer c.reason.result (returns-in-Ok-Some-clause-answer c limits D stands)))

pub returns-in-Err-clause-answer : goal.returns-in-Err-clause-answer
returns-in-Err-clause-answer c limits D stands =
    let peer : is_peer c.args.self.now.here.space c.args.self.now.here.n c.args.peer ≡ true = sym c.is_peer.ensures ∙ c.if-not-is_peer.false in
    let is = at_peer c.args.self.now.sessions.items c.place.result c.args.peer c.index_mut.result.now c.place.ensures.value c.index_mut.ensures.value in
    let there = end_there c.args.self.now.here.space c.args.self.now.here.n limits c.args.self.now.sessions.items (history_of c.args.self.now.here.space c.args.self.now.here.n D) c.args.peer c.index_mut.result.now stands.ends peer is in
    tick_told _ _ _ _ _ peer ∙ ap tick_of (sym (called_onward (ends.Tick (Err c.in-Err.field-0)) there.2 (λ M stood. (c.in-Err.ensures {u = tt}).answer c.args.self.now.here.space c.args.peer limits M stood)).0)

pub returns-in-Err-clause-err : goal.returns-in-Err-clause-err
returns-in-Err-clause-err c limits D stands =
    let peer : is_peer c.args.self.now.here.space c.args.self.now.here.n c.args.peer ≡ true = sym c.is_peer.ensures ∙ c.if-not-is_peer.false in
    let is = at_peer c.args.self.now.sessions.items c.place.result c.args.peer c.index_mut.result.now c.place.ensures.value c.index_mut.ensures.value in
    subst (λ (k : ℕ). Stands c.args.self.now.here.space c.args.self.now.here.n limits (with_sessions (set c.args.self.now.sessions.items k c.tick.new.self) (state_of c.args.self.now)) D) (sym c.place.ensures.value)
    (stands_kept stands c.args.peer c.index_mut.result.now c.tick.new.self peer is (c.in-Err.ensures {u = tt}).err)
