use Rattle.std.proofs.Common.{◌≡◌, ℕ, ◌+◌, ◌-◌, ◌∷◌, ◌++◌, [], List, Ok, Err, get_or, refl, sym, ap, subst, ◌∙◌, arith}
use lib.ListN.{set}
use Rattle.nob_item.specs.Judging.{Fails}
use Rattle.nob_item.specs.Writing.{bytes_of}
use Rattle.nob_item.specs.declared.item.Item.TheVariants as items
use Rattle.nob_model_session.specs.declared.entry.Kind.TheVariants.{Limited}
use Rattle.nob_model_session.specs.declared.entry.EndEntry.TheVariants as ends
use Rattle.nob_session.specs.Stands.{End}
use Rattle.nob_session.proofs.Alike.{onward_is, stepped_onward}
use Rattle.nob_model_types.specs.declared.answer.Answer.TheVariants as answers
use Rattle.nob_model_history.specs.Histories.{history_of}
use Rattle.nob_model_acting.specs.Sending.{unless}
use Rattle.nob_model_types.specs.declared.deed.Deed.TheVariants as did
use Rattle.nob_model_work.specs.declared.work.OwnCall.{OwnCall}
use Rattle.nob_model_work.specs.declared.work.Stage.TheVariants as stages
use Rattle.nob_ids.specs.declared.wire_rep.WireRep.{WireRep}
use Rattle.nob_model_types.specs.declared.message.Message.{Message}
use Rattle.nob_space_calls.specs.Calls.{IsAbove}
use Rattle.nob_space_state.specs.Pins.{AddsPins}
use Rattle.nob_space_state.specs.Parts.{State, state_of}
use Rattle.nob_space_state.specs.Stands.{Stands}
use Rattle.nob_space_state.proofs.Calling.{calls_below, call_judged, call_right, call_ok, call_wants, call_spelled, call_stands, few_calls, peer_range, next_free, stands_unsent}
use Rattle.nob_space_state.proofs.Passing.{refused_as, wants_as, after_error}
use Rattle.nob_space_state.proofs.Ends.{end_there}
use Rattle.nob_space_state.proofs.Sent.{next_unpinned}
use Rattle.nob_space_state.proofs.Orderly.{call_is}
use Rattle.nob_space_state.proofs.Kept.{marked_stands, users_there}
use Rattle.nob_space_state.proofs.Letting.{kept_have, none_added}
use Rattle.nob_space_state.proofs.parts.Parts.call.Goals as goal

pub returns-in_err-refuse_call-clause-answer : goal.returns-in_err-refuse_call-clause-answer
returns-in_err-refuse_call-clause-answer c limits D stands =
    refused_as _ c.from_residual.result _ c.in_err-refuse_call.field-0.0 c.from_residual.ensures.1
    (call_right stands c.args.target.now c.args.value.now ∙ ap (λ refusal. unless refusal (answers.Called (c.args.self.now.calls_made + 1))) c.in_err-refuse_call.ensures)

pub overflow_add-self : goal.overflow_add-self
overflow_add-self c =
    let few = few_calls (state_of c.args.self.now) (call_judged c.args.self.now.here.space c.args.self.now.here.n (state_of c.args.self.now) c.args.target.now c.args.value.now c.in_ok-refuse_call.ensures).more in
    omega (arith, few)

pub unreachable-requires : goal.unreachable-requires
unreachable-requires c =
    let judged = call_judged c.args.self.now.here.space c.args.self.now.here.n (state_of c.args.self.now) c.args.target.now c.args.value.now c.in_ok-refuse_call.ensures in
    call_spelled c.args.self.now.here.space (state_of c.args.self.now) c.args.target.now.index c.args.method c.args.value.now c.in-Err-Fault.field-0-0 judged.fits judged.more
    (subst (λ (k : ℕ). bytes_of (items.Call k c.args.target.now.index c.args.method c.args.value.now) ≡ Err c.in-Err-Fault.field-0-0) c.new-call.ensures
    (subst (λ e. Fails e (bytes_of (items.Call c.new-call.result c.args.target.now.index c.args.method c.args.value.now))) c.in-Err-Fault.field-0-is (c.in-Err-Fault.ensures {u = tt}).exact))

pub returns-in-Err-OutOfMemory-clause-answer : goal.returns-in-Err-OutOfMemory-clause-answer
returns-in-Err-OutOfMemory-clause-answer c limits D stands = call_wants stands c.args.target.now c.args.value.now c.in_ok-refuse_call.ensures

pub returns-in_err-reps-clause-answer : goal.returns-in_err-reps-clause-answer
returns-in_err-reps-clause-answer c limits D stands = wants_as _ c.from_residual-in_err-reps.result _ c.from_residual-in_err-reps.ensures.1 (call_wants stands c.args.target.now c.args.value.now c.in_ok-refuse_call.ensures)

pub returns-in_err-reserve_calls-clause-answer : goal.returns-in_err-reserve_calls-clause-answer
returns-in_err-reserve_calls-clause-answer c limits D stands = wants_as _ c.from_residual-in_err-reserve_calls.result _ c.from_residual-in_err-reserve_calls.ensures.1 (call_wants stands c.args.target.now c.args.value.now c.in_ok-refuse_call.ensures)

pub returns-in_err-send_pinned-clause-answer : goal.returns-in_err-send_pinned-clause-answer
returns-in_err-send_pinned-clause-answer c limits D stands = wants_as _ c.from_residual-in_err-send_pinned.result _ c.from_residual-in_err-send_pinned.ensures.1 (call_wants stands c.args.target.now c.args.value.now c.in_ok-refuse_call.ensures)

pub index_mut-session-requires : goal.index_mut-session-requires
index_mut-session-requires c =
    let judged = call_judged c.args.self.now.here.space c.args.self.now.here.n (state_of c.args.self.now) c.args.target.now c.args.value.now c.in_ok-refuse_call.ensures in
    let range = peer_range c.args.self.now.here.space c.args.self.now.here.n c.args.target.now.owner judged.peer in
    let each = c.requires.2.ends.each in
    let peer = c.place.ensures.value in
    omega (arith, range.0, range.1, each, peer)

pub send_pinned-requires-clause-next : goal.send_pinned-requires-clause-next
send_pinned-requires-clause-next c =
    let judged = call_judged c.args.self.now.here.space c.args.self.now.here.n (state_of c.args.self.now) c.args.target.now c.args.value.now c.in_ok-refuse_call.ensures in
    let is : c.index_mut-session.result.now ≡ get_or c.args.self.now.sessions.items (c.args.target.now.owner - 1) c.index_mut-session.result.now = subst (λ k. c.index_mut-session.result.now ≡ get_or c.args.self.now.sessions.items k c.index_mut-session.result.now) c.place.ensures.value c.index_mut-session.ensures.value in
    let there = end_there c.args.self.now.here.space c.args.self.now.here.n c.requires.0 c.args.self.now.sessions.items (history_of c.args.self.now.here.space c.args.self.now.here.n c.requires.1) c.args.target.now.owner c.index_mut-session.result.now c.requires.2.ends judged.peer is in
    next_free c.args.target.now.owner Limited (state_of c.args.self.now) c.index_mut-session.result.now there.0 there.1 judged.free

pub send_pinned-requires-clause-new : goal.send_pinned-requires-clause-new
send_pinned-requires-clause-new c =
    let judged = call_judged c.args.self.now.here.space c.args.self.now.here.n (state_of c.args.self.now) c.args.target.now c.args.value.now c.in_ok-refuse_call.ensures in
    let is : c.index_mut-session.result.now ≡ get_or c.args.self.now.sessions.items (c.args.target.now.owner - 1) c.index_mut-session.result.now = subst (λ k. c.index_mut-session.result.now ≡ get_or c.args.self.now.sessions.items k c.index_mut-session.result.now) c.place.ensures.value c.index_mut-session.ensures.value in
    let there = end_there c.args.self.now.here.space c.args.self.now.here.n c.requires.0 c.args.self.now.sessions.items (history_of c.args.self.now.here.space c.args.self.now.here.n c.requires.1) c.args.target.now.owner c.index_mut-session.result.now c.requires.2.ends judged.peer is in
    next_unpinned c.args.target.now.owner (c.index_mut-session.result.now.end.handed + 1) c.requires.2 (ap (λ (end : End). end.handed + 1) (onward_is there.2))

pub returns-in_err-send_pinned-clause-err : goal.returns-in_err-send_pinned-clause-err
returns-in_err-send_pinned-clause-err c = after_error _ c.from_residual-in_err-send_pinned.result (λ limits D stands.
    let judged = call_judged c.args.self.now.here.space c.args.self.now.here.n (state_of c.args.self.now) c.args.target.now c.args.value.now c.in_ok-refuse_call.ensures in
    let is : c.index_mut-session.result.now ≡ get_or c.args.self.now.sessions.items (c.args.target.now.owner - 1) c.index_mut-session.result.now = subst (λ k. c.index_mut-session.result.now ≡ get_or c.args.self.now.sessions.items k c.index_mut-session.result.now) c.place.ensures.value c.index_mut-session.ensures.value in
    let same = c.in_err-send_pinned.ensures.err in
    subst (λ (k : ℕ). Stands c.args.self.now.here.space c.args.self.now.here.n limits (after k c.args.self.now.calls.calls c.args.self.now.calls.replies) D → Stands c.args.self.now.here.space c.args.self.now.here.n limits (after c.place.result c.reserve_calls.new.self.calls c.reserve_calls.new.self.replies) D) c.place.ensures.value
    (λ st. subst (λ (calls : List OwnCall). Stands c.args.self.now.here.space c.args.self.now.here.n limits (after c.place.result calls c.reserve_calls.new.self.replies) D) (sym c.reserve_calls.ensures.calls)
    (subst (λ (replies : List Message). Stands c.args.self.now.here.space c.args.self.now.here.n limits (after c.place.result c.args.self.now.calls.calls replies) D) (sym c.reserve_calls.ensures.replies) st))
    (stands_unsent stands c.args.target.now.owner c.index_mut-session.result.now c.send_pinned.new.session c.send_pinned.new.pins judged.peer is same.0 same.1))
  where
    after : ℕ → List OwnCall → List Message → State
    after k calls replies =
        record {
          sessions = set c.args.self.now.sessions.items k c.send_pinned.new.session;
          table = c.args.self.now.table;
          dirty = c.args.self.now.dirty;
          pins = c.send_pinned.new.pins;
          work = record { waiting = c.args.self.now.messages.waiting.items; ready = c.args.self.now.messages.jobs.ready; running = c.args.self.now.messages.jobs.running; replies = replies; calls = calls };
          awaited = c.args.self.now.messages.waiting.awaited;
          calls = c.args.self.now.calls_made;
          jobs = c.args.self.now.jobs_made;
        }

pub push-requires-clause-above : goal.push-requires-clause-above
push-requires-clause-above c = subst (λ (calls : List OwnCall). IsAbove calls c.new-call.result) (sym c.reserve_calls.ensures.calls) (calls_below c.requires.2 c.new-call.result c.new-call.ensures)

pub returns-clause-answer : goal.returns-clause-answer
returns-clause-answer c limits D stands = call_ok stands c.args.target.now c.args.value.now c.in_ok-refuse_call.ensures ∙ ap (λ (k : ℕ). Ok (answers.Called k)) (sym c.new-call.ensures)

pub returns-clause-stands : goal.returns-clause-stands
returns-clause-stands c limits D stands =
    let judged = call_judged c.args.self.now.here.space c.args.self.now.here.n (state_of c.args.self.now) c.args.target.now c.args.value.now c.in_ok-refuse_call.ensures in
    let is : c.index_mut-session.result.now ≡ get_or c.args.self.now.sessions.items (c.args.target.now.owner - 1) c.index_mut-session.result.now = subst (λ k. c.index_mut-session.result.now ≡ get_or c.args.self.now.sessions.items k c.index_mut-session.result.now) c.place.ensures.value c.index_mut-session.ensures.value in
    let sent = c.in_ok-send_pinned.ensures in
    marked_stands
    (subst (λ (k : ℕ). Stands c.args.self.now.here.space c.args.self.now.here.n limits (record {
      sessions = set c.args.self.now.sessions.items k c.send_pinned.new.session;
      table = c.args.self.now.table;
      dirty = c.args.self.now.dirty;
      pins = c.send_pinned.new.pins;
      work = record { waiting = c.args.self.now.messages.waiting.items; ready = c.args.self.now.messages.jobs.ready; running = c.args.self.now.messages.jobs.running; replies = c.push.new.self.replies; calls = c.push.new.self.calls };
      awaited = c.args.self.now.messages.waiting.awaited;
      calls = c.args.self.now.calls_made + 1;
      jobs = c.args.self.now.jobs_made;
    }) (did.Call c.args.target.now c.args.method c.args.value.now c.new-call.result ∷ D)) (sym c.place.ensures.value)
    (subst (λ (replies : List Message). Stands c.args.self.now.here.space c.args.self.now.here.n limits (record {
      sessions = set c.args.self.now.sessions.items (c.args.target.now.owner - 1) c.send_pinned.new.session;
      table = c.args.self.now.table;
      dirty = c.args.self.now.dirty;
      pins = c.send_pinned.new.pins;
      work = record { waiting = c.args.self.now.messages.waiting.items; ready = c.args.self.now.messages.jobs.ready; running = c.args.self.now.messages.jobs.running; replies = replies; calls = c.push.new.self.calls };
      awaited = c.args.self.now.messages.waiting.awaited;
      calls = c.args.self.now.calls_made + 1;
      jobs = c.args.self.now.jobs_made;
    }) (did.Call c.args.target.now c.args.method c.args.value.now c.new-call.result ∷ D)) (sym (c.push.ensures.replies ∙ c.reserve_calls.ensures.replies))
    (call_stands stands c.args.target.now c.args.method c.args.value.now c.index_mut-session.result.now c.send_pinned.new.session c.send_pinned.new.pins
    (λ call is_next. call_is c.args.self.now.here.space c.args.self.now.here.n limits D c.args.target.now c.args.method c.args.value.now call (call_ok stands c.args.target.now c.args.value.now c.in_ok-refuse_call.ensures ∙ ap (λ (k : ℕ). Ok (answers.Called k)) (sym is_next)))
    judged is
    c.in-Ok.payload.items c.in_ok-send_pinned.field-0 c.new-call.result c.in_ok-reps.reps.items c.push.new.self.calls
    c.new-call.ensures (c.in-Ok.ensures {u = tt}).exact sent.number
    (λ before. stepped_onward (ends.Send c.in-Ok.payload.items Limited (Ok c.in_ok-send_pinned.field-0)) refl before (λ M stood. sent.answer c.args.self.now.here.space c.args.target.now.owner limits M stood))
    c.in_ok-reps.ensures (subst (λ (reps : List WireRep). AddsPins c.args.self.now.pins.bundles c.send_pinned.new.pins.bundles c.args.target.now.owner (c.index_mut-session.result.now.end.handed + 1) reps) c.as_slice.ensures.value sent.pins)
    (c.push.ensures.calls ∙ ap (λ (calls : List OwnCall). calls ++ record { call = c.new-call.result; to = c.args.target.now.owner; stage = stages.Sent } ∷ []) c.reserve_calls.ensures.calls))))
    c.keep_all.new.table c.keep_all.ensures.table.items
    (kept_have c.args.self.now.here.space c.args.self.now.table c.keep_all.new.table c.args.self.now.pins.bundles c.send_pinned.new.pins.bundles c.args.self.now.dirty c.as_slice-2.result.now
    (none_added c.args.self.now.pins.bundles c.send_pinned.new.pins.bundles c.args.target.now.owner (c.index_mut-session.result.now.end.handed + 1) c.as_slice-2.result.now (subst (λ (reps : List WireRep). AddsPins c.args.self.now.pins.bundles c.send_pinned.new.pins.bundles c.args.target.now.owner (c.index_mut-session.result.now.end.handed + 1) reps) (c.as_slice.ensures.value ∙ sym c.as_slice-2.ensures.value) sent.pins))
    c.keep_all.ensures.kept (users_there stands c.args.self.now.table stands.table.kept))
