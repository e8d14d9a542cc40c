use Rattle.std.proofs.Common.{◌≡◌, true, false, find, Some, Ok, IsOk, refl, sym, ap, subst, ◌∙◌}
use Rattle.nob_pickle.specs.declared.value.Value.{Value}
use Rattle.nob_model_types.specs.declared.answer.Answer.TheVariants as answers
use Rattle.nob_model_types.specs.declared.refusal.Refusal.TheVariants as refusals
use Rattle.nob_model.proofs.Accepted.{found_passes}
use Rattle.nob_space_calls.specs.Calls.{is_reply}
use Rattle.nob_space_state.specs.Parts.{state_of}
use Rattle.nob_space_state.specs.TakingOver.{reps_of}
use Rattle.nob_space_state.specs.Taking.{is_overfull, take_answer}
use Rattle.nob_space_state.proofs.Passing.{after_error}
use Rattle.nob_space_state.proofs.Replies.{take_no_call, take_no_reply, take_reply_there, reply_is, full_answer, reply_answer, overfull_there, reply_told, refused_brings_none, stage_brings_none, brings_same}
use Rattle.nob_space_state.proofs.parts.Parts.reply_value.Goals as goal

pub returns-in_default-clause-value : goal.returns-in_default-clause-value
returns-in_default-clause-value c status value is =
    absurd (refused_brings_none status value refusals.NoCall is (take_no_call c.args.call (state_of c.args.self.now) (sym (c.in_default.ensures {u = tt}))))

pub returns-in_default-reply-clause-value : goal.returns-in_default-reply-clause-value
returns-in_default-reply-clause-value c status value is =
    absurd (stage_brings_none status value c.in-Some.field-0.stage (sym (take_no_reply c.args.call (state_of c.args.self.now) c.in-Some.field-0 (sym (c.in-Some.ensures {u = tt})) (sym (c.in_default-reply.ensures {u = tt}))) ∙ is))

pub returns-then-is_overfull-clause-value : goal.returns-then-is_overfull-clause-value
returns-then-is_overfull-clause-value c status value is =
    let there : find (is_reply c.args.call) c.args.self.now.calls.replies ≡ Some c.in-Some-reply.message.now = sym (c.in-Some-reply.ensures {u = tt}) in
    let full : is_overfull c.args.self.now.table (reps_of c.in-Some-reply.message.now.copies) ≡ true = overfull_there c.args.self.now.table c.as_slice.result.now c.in-Some-reply.message.now.copies true c.as_slice.ensures (c.if-is_overfull.ensures {u = tt}) in
    absurd (refused_brings_none status value refusals.Limit is (take_reply_there c.args.call (state_of c.args.self.now) c.in-Some.field-0 c.in-Some-reply.message.now (sym (c.in-Some.ensures {u = tt})) there
    ∙ full_answer c.args.self.now.table (reps_of c.in-Some-reply.message.now.copies) c.args.call c.in-Some-reply.message.now.item (found_passes (is_reply c.args.call) c.args.self.now.calls.replies c.in-Some-reply.message.now there) full))

pub returns-in_default-item : goal.returns-in_default-item
returns-in_default-item c =
    let there : find (is_reply c.args.call) c.args.self.now.calls.replies ≡ Some c.in-Some-reply.message.now = sym (c.in-Some-reply.ensures {u = tt}) in
    let told = reply_is c.args.call c.in-Some-reply.message.now.item (found_passes (is_reply c.args.call) c.args.self.now.calls.replies c.in-Some-reply.message.now there) in
    absurd (c.in_default-item.not-Reply c.args.call told.0 told.1 told.2)

pub returns-clause-value : goal.returns-clause-value
returns-clause-value c status value is =
    let there : find (is_reply c.args.call) c.args.self.now.calls.replies ≡ Some c.in-Some-reply.message.now = sym (c.in-Some-reply.ensures {u = tt}) in
    let room : is_overfull c.args.self.now.table (reps_of c.in-Some-reply.message.now.copies) ≡ false = overfull_there c.args.self.now.table c.as_slice.result.now c.in-Some-reply.message.now.copies false c.as_slice.ensures (c.if-is_overfull.ensures {u = tt}) in
    let told = reply_told c.args.call c.in-Some-reply.message.now.item (found_passes (is_reply c.args.call) c.args.self.now.calls.replies c.in-Some-reply.message.now there) c.in-Reply.call c.in-Reply.status c.in-Reply.value c.in-Reply.is in
    let answer : take_answer c.args.call (state_of c.args.self.now) ≡ Ok (answers.Replied c.in-Reply.status c.in-Reply.value) =
    take_reply_there c.args.call (state_of c.args.self.now) c.in-Some.field-0 c.in-Some-reply.message.now (sym (c.in-Some.ensures {u = tt})) there ∙ reply_answer c.args.self.now.table (reps_of c.in-Some-reply.message.now.copies) c.args.call c.in-Reply.status c.in-Reply.value c.in-Some-reply.message.now.item told room in
    ap (λ (v : Value). Some v) (c.in_ok-copy.ensures.same ∙ brings_same c.in-Reply.status status c.in-Reply.value value answer is)

pub returns-in_err-copy-clause-memory : goal.returns-in_err-copy-clause-memory
returns-in_err-copy-clause-memory c =
    let there : find (is_reply c.args.call) c.args.self.now.calls.replies ≡ Some c.in-Some-reply.message.now = sym (c.in-Some-reply.ensures {u = tt}) in
    let room : is_overfull c.args.self.now.table (reps_of c.in-Some-reply.message.now.copies) ≡ false = overfull_there c.args.self.now.table c.as_slice.result.now c.in-Some-reply.message.now.copies false c.as_slice.ensures (c.if-is_overfull.ensures {u = tt}) in
    let told = reply_told c.args.call c.in-Some-reply.message.now.item (found_passes (is_reply c.args.call) c.args.self.now.calls.replies c.in-Some-reply.message.now there) c.in-Reply.call c.in-Reply.status c.in-Reply.value c.in-Reply.is in
    let answer : take_answer c.args.call (state_of c.args.self.now) ≡ Ok (answers.Replied c.in-Reply.status c.in-Reply.value) =
    take_reply_there c.args.call (state_of c.args.self.now) c.in-Some.field-0 c.in-Some-reply.message.now (sym (c.in-Some.ensures {u = tt})) there ∙ reply_answer c.args.self.now.table (reps_of c.in-Some-reply.message.now.copies) c.args.call c.in-Reply.status c.in-Reply.value c.in-Some-reply.message.now.item told room in
    after_error _ c.from_residual.result (subst IsOk (sym answer) refl)
