use Rattle.std.proofs.Common.{◌≡◌, ℕ, ◌-◌, ◌∷◌, ◌==◌, true, Ok, Err, IsOk, refl, sym, ap, subst, ◌∙◌}
use lib.ListN.{set}
use Rattle.nob_model_session.specs.declared.entry.Arrived.TheVariants as arrived
use Rattle.nob_model_session.specs.declared.entry.EndEntry.TheVariants as ends
use Rattle.nob_model_session.specs.Right.{IsRight, taken_by}
use Rattle.nob_session.specs.Answers.{Answered, arrived_of}
use Rattle.nob_session.specs.Calls.{EndsBy, evidence_of}
use Rattle.nob_session.specs.Stands as session
use Rattle.nob_session.proofs.Alike.{called_onward, arrives_onward}
use Rattle.nob_model_types.specs.Sessions.{is_peer}
use Rattle.nob_model_types.specs.declared.deed.Cause.TheVariants as causes
use Rattle.nob_model_types.specs.declared.deed.Deed.TheVariants as did
use Rattle.nob_model_types.specs.declared.answer.Answer.TheVariants as answers
use Rattle.nob_model_history.specs.Ends.{calls_at}
use Rattle.nob_model_history.specs.Histories.{history_of}
use Rattle.nob_model.specs.Right.{arrival_of}
use Rattle.nob_space_state.specs.Closing.{ClosesDown}
use Rattle.nob_space_state.specs.Parts.{state_of, with_sessions}
use Rattle.nob_space_state.specs.Stands.{Stands}
use Rattle.nob_space_state.proofs.Arrivals.{arrive_elsewhere, arrive_of_none, arrive_told, never_strange, not_not, not_so}
use Rattle.nob_space_state.proofs.Closings.{vain_lent, ended_stands}
use Rattle.nob_space_state.proofs.Ends.{at_peer, end_there, stands_kept, arrive_is_still, arrive_calls, called_stands}
use Rattle.nob_space_state.proofs.Orderly.{arrive_is, arrive_close_is}
use Rattle.nob_space_state.proofs.Passing.{same_space}
use Rattle.nob_space_state.proofs.parts.Parts.arrive.Goals as goal

pub returns-then-ne-clause-answer : goal.returns-then-ne-clause-answer
returns-then-ne-clause-answer c limits D stands = arrive_elsewhere _ _ _ _ (not_so _ (sym c.ne.ensures ∙ c.if-ne.true))

pub returns-then-not-is_peer-clause-answer : goal.returns-then-not-is_peer-clause-answer
returns-then-not-is_peer-clause-answer c limits D stands = arrive_of_none _ _ _ _ (not_not _ (sym c.ne.ensures ∙ c.if-ne.false)) (sym c.is_peer.ensures ∙ c.if-not-is_peer.true)

pub close_down-requires : goal.close_down-requires
close_down-requires c = vain_lent c.requires.2 c.in-Ok-Closed.closed.peer

pub unreachable-requires : goal.unreachable-requires
unreachable-requires c =
    let here : c.args.frame.now.to == c.args.self.now.here.space ≡ true = not_not _ (sym c.ne.ensures ∙ c.if-ne.false) in
    let peer : is_peer c.args.self.now.here.space c.args.self.now.here.n c.args.frame.now.from ≡ true = sym c.is_peer.ensures ∙ c.if-not-is_peer.false in
    let is = at_peer c.args.self.now.sessions.items c.place.result c.args.frame.now.from c.index_mut.result.now c.place.ensures.value c.index_mut.ensures.value in
    let there = end_there c.args.self.now.here.space c.args.self.now.here.n c.requires.0 c.args.self.now.sessions.items (history_of c.args.self.now.here.space c.args.self.now.here.n c.requires.1) c.args.frame.now.from c.index_mut.result.now c.requires.2.ends peer is in
    never_strange c.args.self.now.here.space c.args.frame.now (calls_at c.args.frame.now.from (history_of c.args.self.now.here.space c.args.self.now.here.n c.requires.1)) c.in-Err-Refused.field-0-0 here (called_onward (ends.Arrive c.args.frame.now (Err c.in-Err-Refused.field-0-0)) there.2 (λ M stood. subst (λ e. Answered arrived_of (Err e) (λ answer. IsRight c.args.self.now.here.space c.args.frame.now.from c.requires.0 (ends.Arrive c.args.frame.now answer) M × session.Stands c.args.self.now.here.space c.args.frame.now.from c.requires.0 c.arrive.new.self.end (ends.Arrive c.args.frame.now answer ∷ M))) c.in-Err-Refused.field-0-is ((c.in-Err-Refused.ensures {u = tt}).answer c.args.self.now.here.space c.args.frame.now.from c.requires.0 M stood))).0

pub returns-in-Ok-Took-clause-answer : goal.returns-in-Ok-Took-clause-answer
returns-in-Ok-Took-clause-answer c limits D stands =
    let here : c.args.frame.now.to == c.args.self.now.here.space ≡ true = not_not _ (sym c.ne.ensures ∙ c.if-ne.false) in
    let peer : is_peer c.args.self.now.here.space c.args.self.now.here.n c.args.frame.now.from ≡ true = sym c.is_peer.ensures ∙ c.if-not-is_peer.false in
    let is = at_peer c.args.self.now.sessions.items c.place.result c.args.frame.now.from c.index_mut.result.now c.place.ensures.value c.index_mut.ensures.value in
    let there = end_there c.args.self.now.here.space c.args.self.now.here.n limits c.args.self.now.sessions.items (history_of c.args.self.now.here.space c.args.self.now.here.n D) c.args.frame.now.from c.index_mut.result.now stands.ends peer is in
    arrive_told _ _ _ _ here peer ∙ ap arrival_of (sym (called_onward (ends.Arrive c.args.frame.now (Ok (arrived.Took c.in-Ok-Took.count))) there.2 (λ M stood. subst (λ a. IsRight c.args.self.now.here.space c.args.frame.now.from limits (ends.Arrive c.args.frame.now (Ok (arrived_of a))) M × session.Stands c.args.self.now.here.space c.args.frame.now.from limits c.arrive.new.self.end (ends.Arrive c.args.frame.now (Ok (arrived_of a)) ∷ M)) c.in-Ok-Took.field-0-is ((c.in-Ok-Took.ensures {u = tt}).answer c.args.self.now.here.space c.args.frame.now.from limits M stood))).0)

pub returns-in-Ok-Took-clause-stands : goal.returns-in-Ok-Took-clause-stands
returns-in-Ok-Took-clause-stands c limits D stands =
    let here : c.args.frame.now.to == c.args.self.now.here.space ≡ true = not_not _ (sym c.ne.ensures ∙ c.if-ne.false) in
    let peer : is_peer c.args.self.now.here.space c.args.self.now.here.n c.args.frame.now.from ≡ true = sym c.is_peer.ensures ∙ c.if-not-is_peer.false in
    let is = at_peer c.args.self.now.sessions.items c.place.result c.args.frame.now.from c.index_mut.result.now c.place.ensures.value c.index_mut.ensures.value in
    let there = end_there c.args.self.now.here.space c.args.self.now.here.n limits c.args.self.now.sessions.items (history_of c.args.self.now.here.space c.args.self.now.here.n D) c.args.frame.now.from c.index_mut.result.now stands.ends peer is in
    subst (λ (k : ℕ). Stands c.args.self.now.here.space c.args.self.now.here.n limits (with_sessions (set c.args.self.now.sessions.items k c.arrive.new.self) (state_of c.args.self.now)) (did.Arrive c.args.frame.now c.in-Ok-Took.count ∷ D)) (sym c.place.ensures.value)
    (called_stands stands c.args.frame.now.from c.index_mut.result.now c.arrive.new.self peer is (did.Arrive c.args.frame.now c.in-Ok-Took.count) (ends.Arrive c.args.frame.now (Ok (arrived.Took c.in-Ok-Took.count))) (arrive_is_still c.args.self.now.here.space c.args.self.now.here.n c.args.frame.now c.in-Ok-Took.count D) (arrive_calls c.args.self.now.here.space c.args.self.now.here.n c.args.frame.now c.in-Ok-Took.count D)
    (arrive_is c.args.self.now.here.space c.args.self.now.here.n limits D c.args.frame.now c.in-Ok-Took.count (returns-in-Ok-Took-clause-answer c limits D stands))
    (called_onward (ends.Arrive c.args.frame.now (Ok (arrived.Took c.in-Ok-Took.count))) there.2 (λ M stood. subst (λ a. IsRight c.args.self.now.here.space c.args.frame.now.from limits (ends.Arrive c.args.frame.now (Ok (arrived_of a))) M × session.Stands c.args.self.now.here.space c.args.frame.now.from limits c.arrive.new.self.end (ends.Arrive c.args.frame.now (Ok (arrived_of a)) ∷ M)) c.in-Ok-Took.field-0-is ((c.in-Ok-Took.ensures {u = tt}).answer c.args.self.now.here.space c.args.frame.now.from limits M stood))).1)

pub returns-in-Ok-Closed-clause-answer : goal.returns-in-Ok-Closed-clause-answer
returns-in-Ok-Closed-clause-answer c limits D stands =
    let here : c.args.frame.now.to == c.args.self.now.here.space ≡ true = not_not _ (sym c.ne.ensures ∙ c.if-ne.false) in
    let peer : is_peer c.args.self.now.here.space c.args.self.now.here.n c.args.frame.now.from ≡ true = sym c.is_peer.ensures ∙ c.if-not-is_peer.false in
    let is = at_peer c.args.self.now.sessions.items c.place.result c.args.frame.now.from c.index_mut.result.now c.place.ensures.value c.index_mut.ensures.value in
    let there = end_there c.args.self.now.here.space c.args.self.now.here.n limits c.args.self.now.sessions.items (history_of c.args.self.now.here.space c.args.self.now.here.n D) c.args.frame.now.from c.index_mut.result.now stands.ends peer is in
    arrive_told _ _ _ _ here peer ∙ ap arrival_of (sym (called_onward (ends.Arrive c.args.frame.now (Ok (arrived.Closed c.in-Ok-Closed.closed))) there.2 (λ M stood. subst (λ a. IsRight c.args.self.now.here.space c.args.frame.now.from limits (ends.Arrive c.args.frame.now (Ok (arrived_of a))) M × session.Stands c.args.self.now.here.space c.args.frame.now.from limits c.arrive.new.self.end (ends.Arrive c.args.frame.now (Ok (arrived_of a)) ∷ M)) c.in-Ok-Closed.field-0-is ((c.in-Ok-Closed.ensures {u = tt}).answer c.args.self.now.here.space c.args.frame.now.from limits M stood))).0) ∙ ap (λ reason. Ok (answers.Closed reason)) (sym c.reason.ensures)

pub returns-in-Ok-Closed-clause-stands : goal.returns-in-Ok-Closed-clause-stands
returns-in-Ok-Closed-clause-stands c limits D stands =
    let here : c.args.frame.now.to == c.args.self.now.here.space ≡ true = not_not _ (sym c.ne.ensures ∙ c.if-ne.false) in
    let peer : is_peer c.args.self.now.here.space c.args.self.now.here.n c.args.frame.now.from ≡ true = sym c.is_peer.ensures ∙ c.if-not-is_peer.false in
    let is = at_peer c.args.self.now.sessions.items c.place.result c.args.frame.now.from c.index_mut.result.now c.place.ensures.value c.index_mut.ensures.value in
    same_space c.close_down.new.self.here c.args.self.now.here c.close_down.ensures.here (ended_stands stands c.args.frame.now.from c.reason.result (causes.Frame c.args.frame.now) (λ e. ends.Arrive c.args.frame.now (Ok (arrived.Closed e))) refl c.index_mut.result.now c.arrive.new.self (state_of c.close_down.new.self) c.in-Ok-Closed.closed peer is
    (sym c.reason.ensures) (subst (λ a. EndsBy (session.seeing c.args.frame.now.session c.index_mut.result.now.end) c.arrive.new.self.end (evidence_of a)) c.in-Ok-Closed.field-0-is (c.in-Ok-Closed.ensures {u = tt}).ends).1
    (λ before. (called_onward (ends.Arrive c.args.frame.now (Ok (arrived.Closed c.in-Ok-Closed.closed))) before (λ M stood. subst (λ a. IsRight c.args.self.now.here.space c.args.frame.now.from limits (ends.Arrive c.args.frame.now (Ok (arrived_of a))) M × session.Stands c.args.self.now.here.space c.args.frame.now.from limits c.arrive.new.self.end (ends.Arrive c.args.frame.now (Ok (arrived_of a)) ∷ M)) c.in-Ok-Closed.field-0-is ((c.in-Ok-Closed.ensures {u = tt}).answer c.args.self.now.here.space c.args.frame.now.from limits M stood))).1)
    (subst (λ (k : ℕ). ClosesDown c.args.self.now.here.space c.in-Ok-Closed.closed.peer (with_sessions (set c.args.self.now.sessions.items k c.arrive.new.self) (state_of c.args.self.now)) (state_of c.close_down.new.self)) c.place.ensures.value c.close_down.ensures.closes)
    (arrive_close_is c.args.self.now.here.space c.args.self.now.here.n limits D c.args.frame.now c.reason.result (returns-in-Ok-Closed-clause-answer c limits D stands)))

pub returns-in-Err-OutOfMemory-clause-answer : goal.returns-in-Err-OutOfMemory-clause-answer
returns-in-Err-OutOfMemory-clause-answer c limits D stands =
    let here : c.args.frame.now.to == c.args.self.now.here.space ≡ true = not_not _ (sym c.ne.ensures ∙ c.if-ne.false) in
    let peer : is_peer c.args.self.now.here.space c.args.self.now.here.n c.args.frame.now.from ≡ true = sym c.is_peer.ensures ∙ c.if-not-is_peer.false in
    let is = at_peer c.args.self.now.sessions.items c.place.result c.args.frame.now.from c.index_mut.result.now c.place.ensures.value c.index_mut.ensures.value in
    let there = end_there c.args.self.now.here.space c.args.self.now.here.n limits c.args.self.now.sessions.items (history_of c.args.self.now.here.space c.args.self.now.here.n D) c.args.frame.now.from c.index_mut.result.now stands.ends peer is in
    subst IsOk (sym (arrive_told _ _ _ _ here peer ∙ ap arrival_of (arrives_onward c.args.frame.now (λ M. Ok (arrived.Took (taken_by c.args.frame.now M))) there.2 (λ M stood. ((c.in-Err-OutOfMemory.ensures {u = tt}).memory_last c.args.self.now.here.space c.args.frame.now.from limits M stood (ap (λ e. Err e) c.in-Err-OutOfMemory.field-0-is)).heard)))) refl

pub returns-in-Err-OutOfMemory-clause-err : goal.returns-in-Err-OutOfMemory-clause-err
returns-in-Err-OutOfMemory-clause-err c limits D stands =
    let here : c.args.frame.now.to == c.args.self.now.here.space ≡ true = not_not _ (sym c.ne.ensures ∙ c.if-ne.false) in
    let peer : is_peer c.args.self.now.here.space c.args.self.now.here.n c.args.frame.now.from ≡ true = sym c.is_peer.ensures ∙ c.if-not-is_peer.false in
    let is = at_peer c.args.self.now.sessions.items c.place.result c.args.frame.now.from c.index_mut.result.now c.place.ensures.value c.index_mut.ensures.value in
    subst (λ (k : ℕ). Stands c.args.self.now.here.space c.args.self.now.here.n limits (with_sessions (set c.args.self.now.sessions.items k c.arrive.new.self) (state_of c.args.self.now)) D) (sym c.place.ensures.value)
    (stands_kept stands c.args.frame.now.from c.index_mut.result.now c.arrive.new.self peer is (c.in-Err-OutOfMemory.ensures {u = tt}).err)
