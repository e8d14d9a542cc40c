use Rattle.std.proofs.Common.{not, sym, ap, ◌∙◌}
use Rattle.nob_model.specs.Next.{is_not_ready}
use Rattle.nob_model.specs.Right.{answer_of_stage}
use Rattle.nob_space_calls.specs.Calls.{is_reply}
use Rattle.nob_space_state.specs.Parts.{state_of}
use Rattle.nob_space_state.specs.TakingOver.{reps_of}
use Rattle.nob_model.proofs.Accepted.{found_passes}
use Rattle.nob_space_state.proofs.Replies.{ready_there, ready_reply, take_no_call, take_no_reply, take_reply_there}
use Rattle.nob_space_state.proofs.parts.Parts.reply_ready.Goals as goal

pub returns-in_default : goal.returns-in_default
returns-in_default c limits D stands =
    sym (ready_there stands c.args.call ∙ ap (λ answer. not (is_not_ready answer)) (take_no_call c.args.call (state_of c.args.self.now) (sym (c.in_default.ensures {u = tt}))))

pub returns-in-Some-reply : goal.returns-in-Some-reply
returns-in-Some-reply c limits D stands =
    let there = sym (c.in-Some-reply.ensures {u = tt}) in
    sym (ready_there stands c.args.call ∙ ap (λ answer. not (is_not_ready answer)) (take_reply_there c.args.call (state_of c.args.self.now) c.in-Some.own c.in-Some-reply.field-0.now (sym (c.in-Some.ensures {u = tt})) there)
    ∙ ready_reply c.args.self.now.table (reps_of c.in-Some-reply.field-0.now.copies) c.args.call c.in-Some-reply.field-0.now.item (found_passes (is_reply c.args.call) c.args.self.now.calls.replies c.in-Some-reply.field-0.now there))

pub returns-in-Sent : goal.returns-in-Sent
returns-in-Sent c limits D stands =
    sym (ready_there stands c.args.call ∙ ap (λ answer. not (is_not_ready answer)) (take_no_reply c.args.call (state_of c.args.self.now) c.in-Some.own (sym (c.in-Some.ensures {u = tt})) (sym (c.in-None.ensures {u = tt})) ∙ ap answer_of_stage c.in-Sent.is))

pub returns-in-Answered : goal.returns-in-Answered
returns-in-Answered c limits D stands =
    sym (ready_there stands c.args.call ∙ ap (λ answer. not (is_not_ready answer)) (take_no_reply c.args.call (state_of c.args.self.now) c.in-Some.own (sym (c.in-Some.ensures {u = tt})) (sym (c.in-None.ensures {u = tt})) ∙ ap answer_of_stage c.in-Answered.is))

pub returns-in-Ended : goal.returns-in-Ended
returns-in-Ended c limits D stands =
    sym (ready_there stands c.args.call ∙ ap (λ answer. not (is_not_ready answer)) (take_no_reply c.args.call (state_of c.args.self.now) c.in-Some.own (sym (c.in-Some.ensures {u = tt})) (sym (c.in-None.ensures {u = tt})) ∙ ap answer_of_stage c.in-Ended.is))
