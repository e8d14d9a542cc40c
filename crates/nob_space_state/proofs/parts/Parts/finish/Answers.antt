use Rattle.std.proofs.Common.{◌≡◌, ℕ, ◌+◌, ◌-◌, ◌∷◌, List, true, false, Some, Ok, IsOk, find, nat_le, get_or, sym, ap, subst, ◌∙◌, refl, arith}
use lib.ListN.{set}
use Rattle.std.proofs.lemmas.Option.{none-some}
use Rattle.nob_item.specs.Judging.{Fails}
use Rattle.nob_item.specs.Writing.{bytes_of}
use Rattle.nob_item.specs.declared.item.Item.TheVariants as items
use Rattle.nob_ids.specs.declared.wire_rep.WireRep.{WireRep}
use Rattle.nob_model_session.specs.declared.entry.Kind.TheVariants.{Limited}
use Rattle.nob_model_session.specs.declared.entry.EndEntry.TheVariants as ends
use Rattle.nob_session.specs.Stands.{End}
use Rattle.nob_session.proofs.Alike.{onward_is, stepped_onward}
use Rattle.nob_model_types.specs.declared.answer.Answer.TheVariants as answers
use Rattle.nob_model_types.specs.declared.deed.Deed.TheVariants as did
use Rattle.nob_model_types.specs.declared.message.Message.{Message}
use Rattle.nob_model_work.specs.Work.{is_run}
use Rattle.nob_model_history.specs.Histories.{history_of}
use Rattle.nob_model_acting.specs.Sending.{unless}
use Rattle.nob_space_messages.specs.Waiting.{WaitingList}
use Rattle.nob_space_state.specs.Looks.{has_ended}
use Rattle.nob_space_state.specs.Parts.{state_of}
use Rattle.nob_space_state.specs.Pins.{AddsPins}
use Rattle.nob_space_state.specs.Sending.{reply_refusal}
use Rattle.nob_space_state.specs.Stands.{Stands}
use Rattle.nob_space_state.proofs.Calling.{peer_range, next_free, stands_unsent}
use Rattle.nob_space_state.proofs.Passing.{refused_as, wants_as, after_error}
use Rattle.nob_space_state.proofs.Ends.{end_there}
use Rattle.nob_space_state.proofs.Finishing.{finish_of_none, finish_of_ended, finish_of_open, finish_stands, finish_wants, drop_stands, jobs_lent, limited_status, reply_judged, reply_spelled, run_sound, runs_call, runs_number, still_open}
use Rattle.nob_space_state.proofs.Sent.{next_unpinned}
use Rattle.nob_space_state.proofs.Orderly.{drop_is, finish_is}
use Rattle.nob_space_state.proofs.Finishing.{table_back}
use Rattle.nob_space_state.proofs.Kept.{marked_stands, users_there}
use Rattle.nob_space_state.proofs.Letting.{kept_have, none_added}
use Rattle.nob_space_state.proofs.parts.Parts.finish.Goals as goal

pub returns-in_default-clause-answer : goal.returns-in_default-clause-answer
returns-in_default-clause-answer c limits D stands =
    finish_of_none stands c.args.job c.args.outcome.now (sym (c.in_default.ensures {u = tt}).found)

pub unreachable-requires : goal.unreachable-requires
unreachable-requires c =
    let found : find (is_run c.args.job) c.args.self.now.messages.jobs.running ≡ Some (record { job = c.args.job; message = c.in-Some.message.now }) = sym (c.in-Some.ensures {u = tt}).found in
    runs_call c.in-Some.message.now.item (run_sound c.requires.2 c.args.job c.args.outcome.now (record { job = c.args.job; message = c.in-Some.message.now }) found).1 c.in_default-item.not-Call

pub end_job-requires : goal.end_job-requires
end_job-requires c = jobs_lent c.requires.2 c.args.job

pub end_job-requires-2 : goal.end_job-requires-2
end_job-requires-2 c = jobs_lent c.requires.2 c.args.job

pub returns-then-has_ended-clause-answer : goal.returns-then-has_ended-clause-answer
returns-then-has_ended-clause-answer c limits D stands =
    let found : find (is_run c.args.job) c.args.self.now.messages.jobs.running ≡ Some (record { job = c.args.job; message = c.in-Some.message.now }) = sym (c.in-Some.ensures {u = tt}).found in
    finish_of_ended stands c.args.job c.args.outcome.now (record { job = c.args.job; message = c.in-Some.message.now }) found (sym c.has_ended.ensures ∙ c.if-has_ended.true)

pub returns-then-has_ended-clause-stands : goal.returns-then-has_ended-clause-stands
returns-then-has_ended-clause-stands c limits D stands =
    subst (λ (w : WaitingList). Stands c.args.self.now.here.space c.args.self.now.here.n limits (record {
      sessions = c.args.self.now.sessions.items;
      table = c.end_job.new.table;
      dirty = c.args.self.now.dirty;
      pins = c.args.self.now.pins;
      work = record { waiting = w.items; ready = c.end_job.new.messages.jobs.ready; running = c.end_job.new.messages.jobs.running; replies = c.args.self.now.calls.replies; calls = c.args.self.now.calls.calls };
      awaited = w.awaited;
      calls = c.args.self.now.calls_made;
      jobs = c.args.self.now.jobs_made;
    }) (did.DropReply c.args.job ∷ D)) (sym c.end_job.ensures.waiting)
    (subst (λ (ready : List Message). Stands c.args.self.now.here.space c.args.self.now.here.n limits (record {
      sessions = c.args.self.now.sessions.items;
      table = c.end_job.new.table;
      dirty = c.args.self.now.dirty;
      pins = c.args.self.now.pins;
      work = record { waiting = c.args.self.now.messages.waiting.items; ready = ready; running = c.end_job.new.messages.jobs.running; replies = c.args.self.now.calls.replies; calls = c.args.self.now.calls.calls };
      awaited = c.args.self.now.messages.waiting.awaited;
      calls = c.args.self.now.calls_made;
      jobs = c.args.self.now.jobs_made;
    }) (did.DropReply c.args.job ∷ D)) (sym c.end_job.ensures.ready) (drop_stands stands c.args.job c.end_job.new.table c.end_job.new.messages.jobs.running (drop_is c.args.self.now.here.space c.args.self.now.here.n limits D c.args.job c.args.outcome.now (returns-then-has_ended-clause-answer c limits D stands)) c.end_job.ensures.back c.end_job.ensures.ended))

pub returns-in_err-refuse_reply-clause-answer : goal.returns-in_err-refuse_reply-clause-answer
returns-in_err-refuse_reply-clause-answer c limits D stands =
    let found : find (is_run c.args.job) c.args.self.now.messages.jobs.running ≡ Some (record { job = c.args.job; message = c.in-Some.message.now }) = sym (c.in-Some.ensures {u = tt}).found in
    let still : has_ended c.args.self.now.sessions.items c.in-Some.message.now.from c.in-Some.message.now.session ≡ false = sym c.has_ended.ensures ∙ c.if-has_ended.false in
    refused_as _ c.from_residual.result _ c.in_err-refuse_reply.field-0.0 c.from_residual.ensures.1
    (finish_of_open stands c.args.job c.args.outcome.now (record { job = c.args.job; message = c.in-Some.message.now }) found still
    ∙ ap (λ refusal. unless refusal answers.Finished) (ap (reply_refusal c.args.self.now.here.space c.in-Some.message.now.from (state_of c.args.self.now)) (sym c.value_of-value.ensures) ∙ c.in_err-refuse_reply.ensures))

pub unreachable-requires-in-Err-Fault : goal.unreachable-requires-in-Err-Fault
unreachable-requires-in-Err-Fault c =
    let found : find (is_run c.args.job) c.args.self.now.messages.jobs.running ≡ Some (record { job = c.args.job; message = c.in-Some.message.now }) = sym (c.in-Some.ensures {u = tt}).found in
    let sound = run_sound c.requires.2 c.args.job c.args.outcome.now (record { job = c.args.job; message = c.in-Some.message.now }) found in
    let judged = reply_judged c.args.self.now.here.space c.in-Some.message.now.from (state_of c.args.self.now) c.value_of-value.result.now c.in_ok-refuse_reply.ensures in
    let number = runs_number c.in-Some.message.now.item c.in-Call.call c.in-Call.target c.in-Call.method c.in-Call.value sound.0.number c.in-Call.is in
    let low : nat_le c.status_of.result 2 ≡ true = ap (λ (k : ℕ). nat_le k 2) c.status_of.ensures ∙ limited_status c.args.outcome.now in
    reply_spelled c.args.self.now.here.space (state_of c.args.self.now) c.in-Call.call c.status_of.result c.value_of-value.result.now c.in-Err-Fault.field-0-0 number low judged.0
    (subst (λ e. Fails e (bytes_of (items.Reply c.in-Call.call c.status_of.result c.value_of-value.result.now))) c.in-Err-Fault.field-0-is (c.in-Err-Fault.ensures {u = tt}).exact)

pub returns-in-Err-OutOfMemory-clause-answer : goal.returns-in-Err-OutOfMemory-clause-answer
returns-in-Err-OutOfMemory-clause-answer c limits D stands =
    let found : find (is_run c.args.job) c.args.self.now.messages.jobs.running ≡ Some (record { job = c.args.job; message = c.in-Some.message.now }) = sym (c.in-Some.ensures {u = tt}).found in
    let still : has_ended c.args.self.now.sessions.items c.in-Some.message.now.from c.in-Some.message.now.session ≡ false = sym c.has_ended.ensures ∙ c.if-has_ended.false in
    subst IsOk (sym (finish_wants stands c.args.job c.args.outcome.now (record { job = c.args.job; message = c.in-Some.message.now }) found still c.value_of-value.result.now c.value_of-value.ensures c.in_ok-refuse_reply.ensures)) refl

pub returns-in_err-reps-clause-answer : goal.returns-in_err-reps-clause-answer
returns-in_err-reps-clause-answer c limits D stands =
    let found : find (is_run c.args.job) c.args.self.now.messages.jobs.running ≡ Some (record { job = c.args.job; message = c.in-Some.message.now }) = sym (c.in-Some.ensures {u = tt}).found in
    let still : has_ended c.args.self.now.sessions.items c.in-Some.message.now.from c.in-Some.message.now.session ≡ false = sym c.has_ended.ensures ∙ c.if-has_ended.false in
    wants_as _ c.from_residual-in_err-reps.result _ c.from_residual-in_err-reps.ensures.1
    (subst IsOk (sym (finish_wants stands c.args.job c.args.outcome.now (record { job = c.args.job; message = c.in-Some.message.now }) found still c.value_of-value.result.now c.value_of-value.ensures c.in_ok-refuse_reply.ensures)) refl)

pub returns-in_err-send_pinned-clause-answer : goal.returns-in_err-send_pinned-clause-answer
returns-in_err-send_pinned-clause-answer c limits D stands =
    let found : find (is_run c.args.job) c.args.self.now.messages.jobs.running ≡ Some (record { job = c.args.job; message = c.in-Some.message.now }) = sym (c.in-Some.ensures {u = tt}).found in
    let still : has_ended c.args.self.now.sessions.items c.in-Some.message.now.from c.in-Some.message.now.session ≡ false = sym c.has_ended.ensures ∙ c.if-has_ended.false in
    wants_as _ c.from_residual-in_err-send_pinned.result _ c.from_residual-in_err-send_pinned.ensures.1
    (subst IsOk (sym (finish_wants stands c.args.job c.args.outcome.now (record { job = c.args.job; message = c.in-Some.message.now }) found still c.value_of-value.result.now c.value_of-value.ensures c.in_ok-refuse_reply.ensures)) refl)

pub returns-clause-answer : goal.returns-clause-answer
returns-clause-answer c limits D stands =
    let found : find (is_run c.args.job) c.args.self.now.messages.jobs.running ≡ Some (record { job = c.args.job; message = c.in-Some.message.now }) = sym (c.in-Some.ensures {u = tt}).found in
    let still : has_ended c.args.self.now.sessions.items c.in-Some.message.now.from c.in-Some.message.now.session ≡ false = sym c.has_ended.ensures ∙ c.if-has_ended.false in
    finish_wants stands c.args.job c.args.outcome.now (record { job = c.args.job; message = c.in-Some.message.now }) found still c.value_of-value.result.now c.value_of-value.ensures c.in_ok-refuse_reply.ensures

pub index_mut-end-requires : goal.index_mut-end-requires
index_mut-end-requires c =
    let found : find (is_run c.args.job) c.args.self.now.messages.jobs.running ≡ Some (record { job = c.args.job; message = c.in-Some.message.now }) = sym (c.in-Some.ensures {u = tt}).found in
    let sound = run_sound c.requires.2 c.args.job c.args.outcome.now (record { job = c.args.job; message = c.in-Some.message.now }) found in
    let range = peer_range c.args.self.now.here.space c.args.self.now.here.n c.in-Some.message.now.from sound.0.peer in
    let each = c.requires.2.ends.each in
    let client = c.place.ensures.value in
    omega (arith, range.0, range.1, each, client)

pub send_pinned-requires-clause-next : goal.send_pinned-requires-clause-next
send_pinned-requires-clause-next c =
    let found : find (is_run c.args.job) c.args.self.now.messages.jobs.running ≡ Some (record { job = c.args.job; message = c.in-Some.message.now }) = sym (c.in-Some.ensures {u = tt}).found in
    let sound = run_sound c.requires.2 c.args.job c.args.outcome.now (record { job = c.args.job; message = c.in-Some.message.now }) found in
    let judged = reply_judged c.args.self.now.here.space c.in-Some.message.now.from (state_of c.args.self.now) c.value_of-value.result.now c.in_ok-refuse_reply.ensures in
    let is : c.index_mut-end.result.now ≡ get_or c.args.self.now.sessions.items (c.in-Some.message.now.from - 1) c.index_mut-end.result.now = subst (λ k. c.index_mut-end.result.now ≡ get_or c.args.self.now.sessions.items k c.index_mut-end.result.now) c.place.ensures.value c.index_mut-end.ensures.value in
    let there = end_there c.args.self.now.here.space c.args.self.now.here.n c.requires.0 c.args.self.now.sessions.items (history_of c.args.self.now.here.space c.args.self.now.here.n c.requires.1) c.in-Some.message.now.from c.index_mut-end.result.now c.requires.2.ends sound.0.peer is in
    next_free c.in-Some.message.now.from Limited (state_of c.args.self.now) c.index_mut-end.result.now there.0 there.1 judged.1

pub send_pinned-requires-clause-new : goal.send_pinned-requires-clause-new
send_pinned-requires-clause-new c =
    let found : find (is_run c.args.job) c.args.self.now.messages.jobs.running ≡ Some (record { job = c.args.job; message = c.in-Some.message.now }) = sym (c.in-Some.ensures {u = tt}).found in
    let sound = run_sound c.requires.2 c.args.job c.args.outcome.now (record { job = c.args.job; message = c.in-Some.message.now }) found in
    let is : c.index_mut-end.result.now ≡ get_or c.args.self.now.sessions.items (c.in-Some.message.now.from - 1) c.index_mut-end.result.now = subst (λ k. c.index_mut-end.result.now ≡ get_or c.args.self.now.sessions.items k c.index_mut-end.result.now) c.place.ensures.value c.index_mut-end.ensures.value in
    let there = end_there c.args.self.now.here.space c.args.self.now.here.n c.requires.0 c.args.self.now.sessions.items (history_of c.args.self.now.here.space c.args.self.now.here.n c.requires.1) c.in-Some.message.now.from c.index_mut-end.result.now c.requires.2.ends sound.0.peer is in
    next_unpinned c.in-Some.message.now.from (c.index_mut-end.result.now.end.handed + 1) c.requires.2 (ap (λ (end : End). end.handed + 1) (onward_is there.2))

pub returns-in_err-send_pinned-clause-err : goal.returns-in_err-send_pinned-clause-err
returns-in_err-send_pinned-clause-err c = after_error _ c.from_residual-in_err-send_pinned.result (λ limits D stands.
    let found : find (is_run c.args.job) c.args.self.now.messages.jobs.running ≡ Some (record { job = c.args.job; message = c.in-Some.message.now }) = sym (c.in-Some.ensures {u = tt}).found in
    let sound = run_sound c.requires.2 c.args.job c.args.outcome.now (record { job = c.args.job; message = c.in-Some.message.now }) found in
    let is : c.index_mut-end.result.now ≡ get_or c.args.self.now.sessions.items (c.in-Some.message.now.from - 1) c.index_mut-end.result.now = subst (λ k. c.index_mut-end.result.now ≡ get_or c.args.self.now.sessions.items k c.index_mut-end.result.now) c.place.ensures.value c.index_mut-end.ensures.value in
    let same = c.in_err-send_pinned.ensures.err in
    subst (λ (k : ℕ). Stands c.args.self.now.here.space c.args.self.now.here.n limits (record {
      sessions = set c.args.self.now.sessions.items k c.send_pinned.new.session;
      table = c.args.self.now.table;
      dirty = c.args.self.now.dirty;
      pins = c.send_pinned.new.pins;
      work = record { waiting = c.args.self.now.messages.waiting.items; ready = c.args.self.now.messages.jobs.ready; running = c.args.self.now.messages.jobs.running; replies = c.args.self.now.calls.replies; calls = c.args.self.now.calls.calls };
      awaited = c.args.self.now.messages.waiting.awaited;
      calls = c.args.self.now.calls_made;
      jobs = c.args.self.now.jobs_made;
    }) D) (sym c.place.ensures.value)
    (stands_unsent stands c.in-Some.message.now.from c.index_mut-end.result.now c.send_pinned.new.session c.send_pinned.new.pins sound.0.peer is same.0 same.1))

pub returns-clause-stands : goal.returns-clause-stands
returns-clause-stands c limits D stands =
    let found : find (is_run c.args.job) c.args.self.now.messages.jobs.running ≡ Some (record { job = c.args.job; message = c.in-Some.message.now }) = sym (c.in-Some.ensures {u = tt}).found in
    let still : has_ended c.args.self.now.sessions.items c.in-Some.message.now.from c.in-Some.message.now.session ≡ false = sym c.has_ended.ensures ∙ c.if-has_ended.false in
    let is : c.index_mut-end.result.now ≡ get_or c.args.self.now.sessions.items (c.in-Some.message.now.from - 1) c.index_mut-end.result.now = subst (λ k. c.index_mut-end.result.now ≡ get_or c.args.self.now.sessions.items k c.index_mut-end.result.now) c.place.ensures.value c.index_mut-end.ensures.value in
    let sent = c.in_ok-send_pinned.ensures in
    marked_stands
    (subst (λ (k : ℕ). Stands c.args.self.now.here.space c.args.self.now.here.n limits (record {
      sessions = set c.args.self.now.sessions.items k c.send_pinned.new.session;
      table = c.end_job-2.new.table;
      dirty = c.args.self.now.dirty;
      pins = c.send_pinned.new.pins;
      work = record { waiting = c.end_job-2.new.messages.waiting.items; ready = c.end_job-2.new.messages.jobs.ready; running = c.end_job-2.new.messages.jobs.running; replies = c.args.self.now.calls.replies; calls = c.args.self.now.calls.calls };
      awaited = c.end_job-2.new.messages.waiting.awaited;
      calls = c.args.self.now.calls_made;
      jobs = c.args.self.now.jobs_made;
    }) (did.Finish c.args.job c.args.outcome.now ∷ D)) (sym c.place.ensures.value)
    (subst (λ (w : WaitingList). Stands c.args.self.now.here.space c.args.self.now.here.n limits (record {
      sessions = set c.args.self.now.sessions.items (c.in-Some.message.now.from - 1) c.send_pinned.new.session;
      table = c.end_job-2.new.table;
      dirty = c.args.self.now.dirty;
      pins = c.send_pinned.new.pins;
      work = record { waiting = w.items; ready = c.end_job-2.new.messages.jobs.ready; running = c.end_job-2.new.messages.jobs.running; replies = c.args.self.now.calls.replies; calls = c.args.self.now.calls.calls };
      awaited = w.awaited;
      calls = c.args.self.now.calls_made;
      jobs = c.args.self.now.jobs_made;
    }) (did.Finish c.args.job c.args.outcome.now ∷ D)) (sym c.end_job-2.ensures.waiting)
    (subst (λ (ready : List Message). Stands c.args.self.now.here.space c.args.self.now.here.n limits (record {
      sessions = set c.args.self.now.sessions.items (c.in-Some.message.now.from - 1) c.send_pinned.new.session;
      table = c.end_job-2.new.table;
      dirty = c.args.self.now.dirty;
      pins = c.send_pinned.new.pins;
      work = record { waiting = c.args.self.now.messages.waiting.items; ready = ready; running = c.end_job-2.new.messages.jobs.running; replies = c.args.self.now.calls.replies; calls = c.args.self.now.calls.calls };
      awaited = c.args.self.now.messages.waiting.awaited;
      calls = c.args.self.now.calls_made;
      jobs = c.args.self.now.jobs_made;
    }) (did.Finish c.args.job c.args.outcome.now ∷ D)) (sym c.end_job-2.ensures.ready)
    (finish_stands stands c.args.job c.args.outcome.now (finish_is c.args.self.now.here.space c.args.self.now.here.n limits D c.args.job c.args.outcome.now (returns-clause-answer c limits D stands)) (record { job = c.args.job; message = c.in-Some.message.now }) found still c.in-Call.call c.in-Call.target c.in-Call.method c.in-Call.value c.in-Call.is
    c.index_mut-end.result.now c.send_pinned.new.session c.send_pinned.new.pins is
    c.in-Ok.payload.items c.status_of.result c.in_ok-send_pinned.field-0 c.value_of-value.result.now c.in_ok-reps.reps.items c.end_job-2.new.table c.end_job-2.new.messages.jobs.running
    c.status_of.ensures c.value_of-value.ensures (c.in-Ok.ensures {u = tt}).exact sent.number
    (λ before. stepped_onward (ends.Send c.in-Ok.payload.items Limited (Ok c.in_ok-send_pinned.field-0)) refl before (λ M stood. sent.answer c.args.self.now.here.space c.in-Some.message.now.from limits M stood))
    c.in_ok-reps.ensures (subst (λ (reps : List WireRep). AddsPins c.args.self.now.pins.bundles c.send_pinned.new.pins.bundles c.in-Some.message.now.from (c.index_mut-end.result.now.end.handed + 1) reps) c.as_slice.ensures.value sent.pins)
    c.end_job-2.ensures.back c.end_job-2.ensures.ended))))
    c.keep_all.new.table c.keep_all.ensures.table.items
    (kept_have c.args.self.now.here.space c.end_job-2.new.table c.keep_all.new.table c.args.self.now.pins.bundles c.send_pinned.new.pins.bundles c.args.self.now.dirty c.as_slice-2.result.now
    (none_added c.args.self.now.pins.bundles c.send_pinned.new.pins.bundles c.in-Some.message.now.from (c.index_mut-end.result.now.end.handed + 1) c.as_slice-2.result.now (subst (λ (reps : List WireRep). AddsPins c.args.self.now.pins.bundles c.send_pinned.new.pins.bundles c.in-Some.message.now.from (c.index_mut-end.result.now.end.handed + 1) reps) (c.as_slice.ensures.value ∙ sym c.as_slice-2.ensures.value) sent.pins))
    c.keep_all.ensures.kept (users_there stands c.end_job-2.new.table (table_back stands c.args.job c.end_job-2.new.table c.end_job-2.ensures.back).kept))

pub returns-in_default-clause-dropped : goal.returns-in_default-clause-dropped
returns-in_default-clause-dropped c run found cut = absurd (none-some run ((c.in_default.ensures {u = tt}).found ∙ found))

pub returns-in_err-refuse_reply-clause-dropped : goal.returns-in_err-refuse_reply-clause-dropped
returns-in_err-refuse_reply-clause-dropped c run again cut =
    let found : find (is_run c.args.job) c.args.self.now.messages.jobs.running ≡ Some (record { job = c.args.job; message = c.in-Some.message.now }) = sym (c.in-Some.ensures {u = tt}).found in
    let still : has_ended c.args.self.now.sessions.items c.in-Some.message.now.from c.in-Some.message.now.session ≡ false = sym c.has_ended.ensures ∙ c.if-has_ended.false in
    absurd (still_open c.args.job c.args.self.now.messages.jobs.running c.args.self.now.sessions.items (record { job = c.args.job; message = c.in-Some.message.now }) run found still again cut)

pub returns-in-Err-OutOfMemory-clause-dropped : goal.returns-in-Err-OutOfMemory-clause-dropped
returns-in-Err-OutOfMemory-clause-dropped c run again cut =
    let found : find (is_run c.args.job) c.args.self.now.messages.jobs.running ≡ Some (record { job = c.args.job; message = c.in-Some.message.now }) = sym (c.in-Some.ensures {u = tt}).found in
    let still : has_ended c.args.self.now.sessions.items c.in-Some.message.now.from c.in-Some.message.now.session ≡ false = sym c.has_ended.ensures ∙ c.if-has_ended.false in
    absurd (still_open c.args.job c.args.self.now.messages.jobs.running c.args.self.now.sessions.items (record { job = c.args.job; message = c.in-Some.message.now }) run found still again cut)

pub returns-in_err-reps-clause-dropped : goal.returns-in_err-reps-clause-dropped
returns-in_err-reps-clause-dropped c run again cut =
    let found : find (is_run c.args.job) c.args.self.now.messages.jobs.running ≡ Some (record { job = c.args.job; message = c.in-Some.message.now }) = sym (c.in-Some.ensures {u = tt}).found in
    let still : has_ended c.args.self.now.sessions.items c.in-Some.message.now.from c.in-Some.message.now.session ≡ false = sym c.has_ended.ensures ∙ c.if-has_ended.false in
    absurd (still_open c.args.job c.args.self.now.messages.jobs.running c.args.self.now.sessions.items (record { job = c.args.job; message = c.in-Some.message.now }) run found still again cut)

pub returns-in_err-send_pinned-clause-dropped : goal.returns-in_err-send_pinned-clause-dropped
returns-in_err-send_pinned-clause-dropped c run again cut =
    let found : find (is_run c.args.job) c.args.self.now.messages.jobs.running ≡ Some (record { job = c.args.job; message = c.in-Some.message.now }) = sym (c.in-Some.ensures {u = tt}).found in
    let still : has_ended c.args.self.now.sessions.items c.in-Some.message.now.from c.in-Some.message.now.session ≡ false = sym c.has_ended.ensures ∙ c.if-has_ended.false in
    absurd (still_open c.args.job c.args.self.now.messages.jobs.running c.args.self.now.sessions.items (record { job = c.args.job; message = c.in-Some.message.now }) run found still again cut)

pub returns-clause-dropped : goal.returns-clause-dropped
returns-clause-dropped c run again cut =
    let found : find (is_run c.args.job) c.args.self.now.messages.jobs.running ≡ Some (record { job = c.args.job; message = c.in-Some.message.now }) = sym (c.in-Some.ensures {u = tt}).found in
    let still : has_ended c.args.self.now.sessions.items c.in-Some.message.now.from c.in-Some.message.now.session ≡ false = sym c.has_ended.ensures ∙ c.if-has_ended.false in
    absurd (still_open c.args.job c.args.self.now.messages.jobs.running c.args.self.now.sessions.items (record { job = c.args.job; message = c.in-Some.message.now }) run found still again cut)
