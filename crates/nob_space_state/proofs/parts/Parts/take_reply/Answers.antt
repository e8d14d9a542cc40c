use Rattle.std.proofs.Common.{◌≡◌, List, ◌∷◌, not, true, false, find, filter, Some, sym, ap, subst, ◌∙◌}
use Rattle.nob_model_types.specs.declared.message.Message.{Message}
use Rattle.nob_model_types.specs.declared.message.RefCopy.{RefCopy}
use Rattle.nob_model_work.specs.declared.work.OwnCall.{OwnCall}
use Rattle.nob_model_work.specs.Work.{is_call, work}
use Rattle.nob_model.specs.Right.{answer_of_stage}
use Rattle.nob_model_history.specs.Histories.{history_of}
use Rattle.nob_model_history.specs.Holds.{hand, times, lent_in}
use Rattle.nob_model_types.specs.declared.deed.Deed.TheVariants as did
use Rattle.nob_space_calls.specs.Calls.{is_reply}
use Rattle.nob_space_state.specs.Parts.{state_of}
use Rattle.nob_space_state.specs.Stands.{Stands}
use Rattle.nob_space_state.specs.Shows.{TableShows}
use Rattle.nob_space_state.specs.TakingOver.{reps_of, CanTake, with_more, with_fewer}
use Rattle.nob_space_state.specs.Taking.{is_overfull}
use Rattle.nob_model.proofs.Accepted.{found_passes}
use Rattle.nob_space_state.proofs.Firsts.{some_same}
use Rattle.nob_space_state.proofs.Orderly.{take_is, end_is}
use Rattle.nob_space_state.proofs.Replies.{take_right, take_no_call, take_no_reply, take_reply_there, reply_is, full_answer, reply_answer, overfull_there, reply_told, can_take, take_stands, end_stands}
use Rattle.nob_space_state.proofs.parts.Parts.take_reply.Goals as goal

pub returns-in_default-clause-answer : goal.returns-in_default-clause-answer
returns-in_default-clause-answer c limits D stands = take_right stands c.args.call ∙ take_no_call c.args.call (state_of c.args.self.now) (sym (c.in_default.ensures {u = tt}))

pub returns-in-Sent-clause-answer : goal.returns-in-Sent-clause-answer
returns-in-Sent-clause-answer c limits D stands =
    take_right stands c.args.call ∙ take_no_reply c.args.call (state_of c.args.self.now) c.in-Some.own (sym (c.in-Some.ensures {u = tt})) (sym (c.in_default-reply.ensures {u = tt})) ∙ ap answer_of_stage c.in-Sent.is

pub returns-in-Answered-clause-answer : goal.returns-in-Answered-clause-answer
returns-in-Answered-clause-answer c limits D stands =
    take_right stands c.args.call ∙ take_no_reply c.args.call (state_of c.args.self.now) c.in-Some.own (sym (c.in-Some.ensures {u = tt})) (sym (c.in_default-reply.ensures {u = tt})) ∙ ap answer_of_stage c.in-Answered.is

pub returns-in_default-reply-clause-answer : goal.returns-in_default-reply-clause-answer
returns-in_default-reply-clause-answer c limits D stands =
    take_right stands c.args.call ∙ take_no_reply c.args.call (state_of c.args.self.now) c.in-Some.own (sym (c.in-Some.ensures {u = tt})) (sym (c.in_default-reply.ensures {u = tt})) ∙ ap answer_of_stage c.in-Ended.is

pub returns-in_default-reply-clause-stands : goal.returns-in_default-reply-clause-stands
returns-in_default-reply-clause-stands c limits D stands =
    subst (λ (replies : List Message). Stands c.args.self.now.here.space c.args.self.now.here.n limits (record {
      sessions = c.args.self.now.sessions.items;
      table = c.args.self.now.table;
      dirty = c.args.self.now.dirty;
      pins = c.args.self.now.pins;
      work = record { waiting = c.args.self.now.messages.waiting.items; ready = c.args.self.now.messages.jobs.ready; running = c.args.self.now.messages.jobs.running; replies = replies; calls = c.remove.new.self.calls };
      awaited = c.args.self.now.messages.waiting.awaited;
      calls = c.args.self.now.calls_made;
      jobs = c.args.self.now.jobs_made;
    }) (did.TakeEnd c.args.call ∷ D)) (sym c.remove.ensures.replies)
    (end_stands stands c.args.call c.remove.new.self.calls (end_is c.args.self.now.here.space c.args.self.now.here.n limits D c.args.call (returns-in_default-reply-clause-answer c limits D stands)) c.remove.ensures.calls)

pub returns-then-is_overfull-clause-answer : goal.returns-then-is_overfull-clause-answer
returns-then-is_overfull-clause-answer c limits D stands =
    let there : find (is_reply c.args.call) c.args.self.now.calls.replies ≡ Some c.in-Some-reply.ready.now = sym (c.in-Some-reply.ensures {u = tt}) in
    let full : is_overfull c.args.self.now.table (reps_of c.in-Some-reply.ready.now.copies) ≡ true = overfull_there c.args.self.now.table c.as_slice.result.now c.in-Some-reply.ready.now.copies true c.as_slice.ensures (c.if-is_overfull.ensures {u = tt}) in
    take_right stands c.args.call ∙ take_reply_there c.args.call (state_of c.args.self.now) c.in-Some.own c.in-Some-reply.ready.now (sym (c.in-Some.ensures {u = tt})) there
    ∙ full_answer c.args.self.now.table (reps_of c.in-Some-reply.ready.now.copies) c.args.call c.in-Some-reply.ready.now.item (found_passes (is_reply c.args.call) c.args.self.now.calls.replies c.in-Some-reply.ready.now there) full

pub take_over-requires : goal.take_over-requires
take_over-requires c =
    let there : find (is_reply c.args.call) c.args.self.now.calls.replies ≡ Some c.in-Some-take_reply.field-0 = sym (c.in-Some-take_reply.ensures {u = tt}).reply in
    let same : c.in-Some-reply.ready.now ≡ c.in-Some-take_reply.field-0 = some_same ((c.in-Some-reply.ensures {u = tt}) ∙ there) in
    let room : is_overfull c.args.self.now.table (reps_of c.in-Some-take_reply.field-0.copies) ≡ false = overfull_there c.args.self.now.table c.as_slice.result.now c.in-Some-take_reply.field-0.copies false (c.as_slice.ensures ∙ ap (λ (m : Message). m.copies) same) (c.if-is_overfull.ensures {u = tt}) in
    subst (λ (cs : List RefCopy). CanTake c.args.self.now.table (reps_of cs)) (sym c.as_slice-2.ensures)
    (can_take c.requires.2 c.args.call c.in-Some-take_reply.field-0 there (found_passes (is_reply c.args.call) c.args.self.now.calls.replies c.in-Some-take_reply.field-0 there) room)

pub unreachable-requires : goal.unreachable-requires
unreachable-requires c = absurd (let bad = (c.in-Some-reply.ensures {u = tt}) ∙ sym (c.in_default-take_reply.ensures {u = tt}).reply in cc)

pub unreachable-requires-in_default-item : goal.unreachable-requires-in_default-item
unreachable-requires-in_default-item c =
    let there : find (is_reply c.args.call) c.args.self.now.calls.replies ≡ Some c.in-Some-take_reply.field-0 = sym (c.in-Some-take_reply.ensures {u = tt}).reply in
    let told = reply_is c.args.call c.in-Some-take_reply.field-0.item (found_passes (is_reply c.args.call) c.args.self.now.calls.replies c.in-Some-take_reply.field-0 there) in
    c.in_default-item.not-Reply c.args.call told.0 told.1 told.2

pub returns-clause-answer : goal.returns-clause-answer
returns-clause-answer c limits D stands =
    let there : find (is_reply c.args.call) c.args.self.now.calls.replies ≡ Some c.in-Some-take_reply.field-0 = sym (c.in-Some-take_reply.ensures {u = tt}).reply in
    let same : c.in-Some-reply.ready.now ≡ c.in-Some-take_reply.field-0 = some_same ((c.in-Some-reply.ensures {u = tt}) ∙ there) in
    let room : is_overfull c.args.self.now.table (reps_of c.in-Some-take_reply.field-0.copies) ≡ false = overfull_there c.args.self.now.table c.as_slice.result.now c.in-Some-take_reply.field-0.copies false (c.as_slice.ensures ∙ ap (λ (m : Message). m.copies) same) (c.if-is_overfull.ensures {u = tt}) in
    let told = reply_told c.args.call c.in-Some-take_reply.field-0.item (found_passes (is_reply c.args.call) c.args.self.now.calls.replies c.in-Some-take_reply.field-0 there) c.in-Reply.call c.in-Reply.status c.in-Reply.value c.in-Reply.is in
    take_right stands c.args.call ∙ take_reply_there c.args.call (state_of c.args.self.now) c.in-Some.own c.in-Some-take_reply.field-0 (sym (c.in-Some.ensures {u = tt})) there
    ∙ reply_answer c.args.self.now.table (reps_of c.in-Some-take_reply.field-0.copies) c.args.call c.in-Reply.status c.in-Reply.value c.in-Some-take_reply.field-0.item told room

pub returns-clause-stands : goal.returns-clause-stands
returns-clause-stands c limits D stands =
    let there : find (is_reply c.args.call) c.args.self.now.calls.replies ≡ Some c.in-Some-take_reply.field-0 = sym (c.in-Some-take_reply.ensures {u = tt}).reply in
    let passes = found_passes (is_reply c.args.call) c.args.self.now.calls.replies c.in-Some-take_reply.field-0 there in
    let told = reply_told c.args.call c.in-Some-take_reply.field-0.item passes c.in-Reply.call c.in-Reply.status c.in-Reply.value c.in-Reply.is in
    take_stands stands c.args.call c.in-Some-take_reply.field-0 there passes c.in-Reply.status c.in-Reply.value told c.take_over.new.table c.remove-2.new.self.replies c.remove-2.new.self.calls
    (take_is c.args.self.now.here.space c.args.self.now.here.n limits D c.args.call c.in-Reply.status c.in-Reply.value (returns-clause-answer c limits D stands))
    (subst (λ (cs : List RefCopy). TableShows c.args.self.now.here.space c.args.self.now.here.n c.take_over.new.table (history_of c.args.self.now.here.space c.args.self.now.here.n D) (with_more (reps_of cs) (λ rep. hand rep D)) (with_fewer (reps_of cs) (λ rep. times rep (lent_in c.args.self.now.here.space (work c.args.self.now.here.space c.args.self.now.here.n D))))) c.as_slice-2.ensures
    (c.take_over.ensures c.args.self.now.here.space c.args.self.now.here.n (history_of c.args.self.now.here.space c.args.self.now.here.n D) (λ rep. hand rep D) (λ rep. times rep (lent_in c.args.self.now.here.space (work c.args.self.now.here.space c.args.self.now.here.n D))) stands.table))
    (c.remove-2.ensures.replies ∙ (c.in-Some-take_reply.ensures {u = tt}).replies)
    (c.remove-2.ensures.calls ∙ ap (filter (λ (own : OwnCall). not (is_call c.args.call own))) (c.in-Some-take_reply.ensures {u = tt}).calls)
