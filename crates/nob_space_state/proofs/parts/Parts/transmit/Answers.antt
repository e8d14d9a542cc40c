use Rattle.std.proofs.Common.{◌≡◌, ℕ, ◌-◌, ◌∷◌, List, true, Ok, IsOk, get_or, refl, sym, ap, subst, ◌∙◌}
use lib.ListN.{set}
use Rattle.nob_frame.specs.declared.frame.Frame.{Frame}
use Rattle.nob_model_session.specs.declared.entry.EndEntry.TheVariants as ends
use Rattle.nob_session.proofs.Alike.{called_onward}
use Rattle.nob_model_types.specs.Sessions.{is_peer}
use Rattle.nob_model_types.specs.declared.deed.Deed.TheVariants as did
use Rattle.nob_model_types.specs.declared.answer.Answer.TheVariants as answers
use Rattle.nob_model_history.specs.Histories.{history_of}
use Rattle.nob_space_state.specs.Parts.{state_of, with_sessions}
use Rattle.nob_space_state.specs.Stands.{Stands}
use Rattle.nob_space_state.proofs.Ends.{end_there, frames_right, frames_no_peer, stands_kept, transmit_is_still, transmit_calls, called_stands}
use Rattle.nob_space_state.proofs.Orderly.{transmit_is}
use Rattle.nob_space_state.proofs.parts.Parts.transmit.Goals as goal

pub returns-then-not-is_peer-clause-answer : goal.returns-then-not-is_peer-clause-answer
returns-then-not-is_peer-clause-answer c limits D stands = frames_no_peer _ _ _ _ _ (sym c.is_peer.ensures ∙ c.if-not-is_peer.true)

pub returns-in-Ok-clause-answer : goal.returns-in-Ok-clause-answer
returns-in-Ok-clause-answer c limits D stands =
    let peer : is_peer c.args.self.now.here.space c.args.self.now.here.n c.args.peer ≡ true = sym c.is_peer.ensures ∙ c.if-not-is_peer.false in
    let is : c.index_mut.result.now ≡ get_or c.args.self.now.sessions.items (c.args.peer - 1) c.index_mut.result.now = subst (λ k. c.index_mut.result.now ≡ get_or c.args.self.now.sessions.items k c.index_mut.result.now) c.place.ensures.value c.index_mut.ensures.value in
    let there = end_there c.args.self.now.here.space c.args.self.now.here.n limits c.args.self.now.sessions.items (history_of c.args.self.now.here.space c.args.self.now.here.n D) c.args.peer c.index_mut.result.now stands.ends peer is in
    let told = called_onward (ends.Transmit c.in-Ok.frames.items) there.2 (λ M stood. (c.in-Ok.ensures {u = tt}).answer c.args.self.now.here.space c.args.peer limits M stood) in
    frames_right _ _ _ _ _ peer ∙ ap (λ frames. Ok (answers.Frames frames)) (sym told.0 ∙ sym c.from_vec.ensures)

pub returns-in-Ok-clause-stands : goal.returns-in-Ok-clause-stands
returns-in-Ok-clause-stands c limits D stands =
    let s : ℕ = c.args.self.now.here.space in
    let n : ℕ = c.args.self.now.here.n in
    let peer : is_peer c.args.self.now.here.space c.args.self.now.here.n c.args.peer ≡ true = sym c.is_peer.ensures ∙ c.if-not-is_peer.false in
    let is : c.index_mut.result.now ≡ get_or c.args.self.now.sessions.items (c.args.peer - 1) c.index_mut.result.now = subst (λ k. c.index_mut.result.now ≡ get_or c.args.self.now.sessions.items k c.index_mut.result.now) c.place.ensures.value c.index_mut.ensures.value in
    let there = end_there c.args.self.now.here.space c.args.self.now.here.n limits c.args.self.now.sessions.items (history_of c.args.self.now.here.space c.args.self.now.here.n D) c.args.peer c.index_mut.result.now stands.ends peer is in
    let told = called_onward (ends.Transmit c.in-Ok.frames.items) there.2 (λ M stood. (c.in-Ok.ensures {u = tt}).answer c.args.self.now.here.space c.args.peer limits M stood) in
    let after : Stands c.args.self.now.here.space c.args.self.now.here.n limits (with_sessions (set c.args.self.now.sessions.items (c.args.peer - 1) c.transmit.new.self) (state_of c.args.self.now)) (did.Transmit c.args.peer c.in-Ok.frames.items ∷ D) =
    called_stands stands c.args.peer c.index_mut.result.now c.transmit.new.self peer is (did.Transmit c.args.peer c.in-Ok.frames.items) (ends.Transmit c.in-Ok.frames.items) (transmit_is_still c.args.self.now.here.space c.args.self.now.here.n c.args.peer c.in-Ok.frames.items D) (transmit_calls c.args.self.now.here.space c.args.self.now.here.n c.args.peer c.in-Ok.frames.items D) (transmit_is c.args.self.now.here.space c.args.self.now.here.n limits D c.args.peer c.in-Ok.frames.items (returns-in-Ok-clause-answer c limits D stands ∙ ap (λ (frames : List Frame). Ok (answers.Frames frames)) c.from_vec.ensures)) told.1 in
    subst (λ (k : ℕ). Stands c.args.self.now.here.space c.args.self.now.here.n limits (with_sessions (set c.args.self.now.sessions.items k c.transmit.new.self) (state_of c.args.self.now)) (did.Transmit c.args.peer c.from_vec.result ∷ D)) (sym c.place.ensures.value)
    (subst (λ (frames : List Frame). Stands c.args.self.now.here.space c.args.self.now.here.n limits (with_sessions (set c.args.self.now.sessions.items (c.args.peer - 1) c.transmit.new.self) (state_of c.args.self.now)) (did.Transmit c.args.peer frames ∷ D)) (sym c.from_vec.ensures) after)

pub returns-in-Err-clause-answer : goal.returns-in-Err-clause-answer
returns-in-Err-clause-answer c limits D stands =
    subst IsOk (sym (frames_right c.args.self.now.here.space c.args.self.now.here.n c.args.peer limits.window (history_of c.args.self.now.here.space c.args.self.now.here.n D) (sym c.is_peer.ensures ∙ c.if-not-is_peer.false))) refl

pub returns-in-Err-clause-err : goal.returns-in-Err-clause-err
returns-in-Err-clause-err c limits D stands =
    let peer : is_peer c.args.self.now.here.space c.args.self.now.here.n c.args.peer ≡ true = sym c.is_peer.ensures ∙ c.if-not-is_peer.false in
    let is : c.index_mut.result.now ≡ get_or c.args.self.now.sessions.items (c.args.peer - 1) c.index_mut.result.now = subst (λ k. c.index_mut.result.now ≡ get_or c.args.self.now.sessions.items k c.index_mut.result.now) c.place.ensures.value c.index_mut.ensures.value in
    subst (λ (k : ℕ). Stands c.args.self.now.here.space c.args.self.now.here.n limits (with_sessions (set c.args.self.now.sessions.items k c.transmit.new.self) (state_of c.args.self.now)) D) (sym c.place.ensures.value)
    (stands_kept stands c.args.peer c.index_mut.result.now c.transmit.new.self peer is (c.in-Err.ensures {u = tt}).err)
