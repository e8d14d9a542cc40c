use Rattle.std.proofs.Common.{◌≡◌, ℕ, ◌∷◌, true, Ok, Err, sym, subst, ◌∙◌}
use lib.ListN.{set}
use Rattle.nob_model_types.specs.Sessions.{is_peer}
use Rattle.nob_model_session.specs.declared.entry.EndEntry.TheVariants as ends
use Rattle.nob_session.proofs.Alike.{called_onward}
use Rattle.nob_model_types.specs.declared.deed.Deed.TheVariants as did
use Rattle.nob_model_history.specs.Histories.{history_of}
use Rattle.nob_space_state.specs.Parts.{state_of, with_sessions}
use Rattle.nob_space_state.specs.Stands.{Stands}
use Rattle.nob_space_state.proofs.Ends.{at_peer, end_there}
use Rattle.nob_space_state.proofs.Openings.{open_of_none, open_of_open_there, open_of_known, open_of_counted, open_of_carried, open_of_full, open_of_next, may_open, opened_stands}
use Rattle.nob_space_state.proofs.Orderly.{open_is}
use Rattle.nob_space_state.proofs.parts.Parts.open.Goals as goal

pub returns-then-not-is_peer-clause-answer : goal.returns-then-not-is_peer-clause-answer
returns-then-not-is_peer-clause-answer c limits D stands = open_of_none _ _ _ _ (sym c.is_peer.ensures ∙ c.if-not-is_peer.true)

pub returns-then-not-has_closed-clause-answer : goal.returns-then-not-has_closed-clause-answer
returns-then-not-has_closed-clause-answer c limits D stands = open_of_open_there stands c.args.peer (sym c.is_peer.ensures ∙ c.if-not-is_peer.false) (sym c.has_closed.ensures ∙ c.if-not-has_closed.true)

pub returns-then-has_of-clause-answer : goal.returns-then-has_of-clause-answer
returns-then-has_of-clause-answer c limits D stands = open_of_known stands c.args.peer (sym c.is_peer.ensures ∙ c.if-not-is_peer.false) (sym c.has_closed.ensures ∙ c.if-not-has_closed.false) (c.has_of.ensures.found c.if-has_of.true)

pub returns-then-has_of-2-clause-answer : goal.returns-then-has_of-2-clause-answer
returns-then-has_of-2-clause-answer c limits D stands = open_of_counted stands c.args.peer (sym c.is_peer.ensures ∙ c.if-not-is_peer.false) (sym c.has_closed.ensures ∙ c.if-not-has_closed.false) (c.has_of-2.ensures.found c.if-has_of-2.true)

pub returns-then-carries_any_of-clause-answer : goal.returns-then-carries_any_of-clause-answer
returns-then-carries_any_of-clause-answer c limits D stands = open_of_carried stands c.args.peer (sym c.is_peer.ensures ∙ c.if-not-is_peer.false) (sym c.has_closed.ensures ∙ c.if-not-has_closed.false) (sym c.carries_any_of.ensures ∙ c.if-carries_any_of.true)

pub returns-in_default-clause-answer : goal.returns-in_default-clause-answer
returns-in_default-clause-answer c limits D stands =
    open_of_full stands c.args.peer (sym c.is_peer.ensures ∙ c.if-not-is_peer.false) (sym c.has_closed.ensures ∙ c.if-not-has_closed.false)
    (c.has_of.ensures.none c.if-has_of.false) (c.has_of-2.ensures.none c.if-has_of-2.false) (sym c.carries_any_of.ensures ∙ c.if-carries_any_of.false)
    c.index.result.now (at_peer c.args.self.now.sessions.items c.place-place.result c.args.peer c.index.result.now c.place-place.ensures.value c.index.ensures)
    (c.in_default.ensures {u = tt})

pub unreachable-requires : goal.unreachable-requires
unreachable-requires c =
    let told = c.in-Some.ensures {u = tt} in
    let may = may_open c.requires.2 c.args.peer (sym c.is_peer.ensures ∙ c.if-not-is_peer.false) (sym c.has_closed.ensures ∙ c.if-not-has_closed.false)
    c.index.result.now c.index_mut.result.now
    (at_peer c.args.self.now.sessions.items c.place-place.result c.args.peer c.index.result.now c.place-place.ensures.value c.index.ensures)
    (at_peer c.args.self.now.sessions.items c.place-place.result c.args.peer c.index_mut.result.now c.place-place.ensures.value c.index_mut.ensures.value)
    c.in-Some.number told.0 told.1 in
    let bad : Err c.in-Err.field-0 ≡ Ok tt = (c.in-Err.ensures {u = tt}).judged ∙ may in
    cc

pub returns-clause-answer : goal.returns-clause-answer
returns-clause-answer c limits D stands =
    let told = c.in-Some.ensures {u = tt} in
    open_of_next stands c.args.peer (sym c.is_peer.ensures ∙ c.if-not-is_peer.false) (sym c.has_closed.ensures ∙ c.if-not-has_closed.false)
    (c.has_of.ensures.none c.if-has_of.false) (c.has_of-2.ensures.none c.if-has_of-2.false) (sym c.carries_any_of.ensures ∙ c.if-carries_any_of.false)
    c.index.result.now (at_peer c.args.self.now.sessions.items c.place-place.result c.args.peer c.index.result.now c.place-place.ensures.value c.index.ensures)
    c.in-Some.number told.0 told.1

pub returns-clause-stands : goal.returns-clause-stands
returns-clause-stands c limits D stands =
    let peer : is_peer c.args.self.now.here.space c.args.self.now.here.n c.args.peer ≡ true = sym c.is_peer.ensures ∙ c.if-not-is_peer.false in
    let is = at_peer c.args.self.now.sessions.items c.place-place.result c.args.peer c.index_mut.result.now c.place-place.ensures.value c.index_mut.ensures.value in
    let there = end_there c.args.self.now.here.space c.args.self.now.here.n limits c.args.self.now.sessions.items (history_of c.args.self.now.here.space c.args.self.now.here.n D) c.args.peer c.index_mut.result.now stands.ends peer is in
    subst (λ (k : ℕ). Stands c.args.self.now.here.space c.args.self.now.here.n limits (with_sessions (set c.args.self.now.sessions.items k c.reopen.new.self) (state_of c.args.self.now)) (did.Open c.args.peer c.in-Some.number ∷ D)) (sym c.place-place.ensures.value)
    (opened_stands stands c.args.peer c.in-Some.number
    (open_is c.args.self.now.here.space c.args.self.now.here.n limits D c.args.peer c.in-Some.number (returns-clause-answer c limits D stands))
    c.index_mut.result.now c.reopen.new.self is
    (called_onward (ends.Reopen c.in-Some.number (Ok tt)) there.2 (λ M stood. (c.in-Ok.ensures {u = tt}).answer c.args.self.now.here.space c.args.peer limits M stood)).1)
