use Rattle.std.proofs.Common.{Some, None, inr, refl, sym, ap, subst, ◌∙◌}
use Rattle.nob_ids.specs.declared.reason.Reason.TheVariants.{BadItem}
use Rattle.nob_model_types.specs.Sessions.{item_of}
use Rattle.nob_item.specs.Judging.{Fails}
use Rattle.nob_item.specs.declared.fault.ItemError.{ItemError}
use Rattle.nob_item.specs.Reading.{item_read}
use Rattle.nob_space_items.specs.Acts.{FrontWants}
use Rattle.nob_space_items.proofs.Chosen.{act_no_peer, act_of_closed, act_of_none, act_of_garbled, act_of_faulty, is_front, front_there, closing_is}
use Rattle.nob_space_items.proofs.Passed.{acts_on}
use Rattle.nob_space_state.proofs.Passing.{after_error}
use Rattle.nob_model_types.specs.declared.answer.Answer.TheVariants as answers
use Rattle.nob_space_items.proofs.acting.act.Goals as goal

pub returns-then-not-is_peer-clause-answer : goal.returns-then-not-is_peer-clause-answer
returns-then-not-is_peer-clause-answer c limits D stands = act_no_peer _ _ _ _ (sym c.is_peer.ensures ∙ c.if-not-is_peer.true)

pub returns-then-has_closed-clause-answer : goal.returns-then-has_closed-clause-answer
returns-then-has_closed-clause-answer c limits D stands = act_of_closed stands c.args.peer (sym c.is_peer.ensures ∙ c.if-not-is_peer.false) (sym c.has_closed.ensures ∙ c.if-has_closed.true)

pub returns-in_default-clause-answer : goal.returns-in_default-clause-answer
returns-in_default-clause-answer c limits D stands =
    act_of_none stands c.args.peer (sym c.is_peer.ensures ∙ c.if-not-is_peer.false) (sym c.has_closed.ensures ∙ c.if-has_closed.false) c.place.result c.place.ensures.value c.index.result.now c.index.ensures None c.in_default.ensures.answer refl

pub returns-in-Err-OutOfMemory-clause-answer : goal.returns-in-Err-OutOfMemory-clause-answer
returns-in-Err-OutOfMemory-clause-answer c limits D stands =
    inr (subst FrontWants (sym (front_there stands c.args.peer (sym c.is_peer.ensures ∙ c.if-not-is_peer.false) (sym c.has_closed.ensures ∙ c.if-has_closed.false) c.place.result c.place.ensures.value c.index.result.now c.index.ensures (Some (c.in-Some.front.0, c.in-Some.front.1.now)) c.in-Some.ensures.answer)) ((c.in-Err-OutOfMemory.ensures {u = tt}).memory c.in-Err-OutOfMemory.field-0-is))

pub returns-in-Err-Fault-clause-answer : goal.returns-in-Err-Fault-clause-answer
returns-in-Err-Fault-clause-answer c limits D stands =
    act_of_garbled stands c.args.peer (sym c.is_peer.ensures ∙ c.if-not-is_peer.false) (sym c.has_closed.ensures ∙ c.if-has_closed.false) c.place.result c.place.ensures.value c.index.result.now c.index.ensures (Some (c.in-Some.front.0, c.in-Some.front.1.now)) c.in-Some.ensures.answer
    c.in-Some.front.0 c.in-Some.front.1.now refl (ap item_of (subst (λ (e : ItemError). Fails e (item_read c.in-Some.front.1.now)) c.in-Err-Fault.field-0-is (c.in-Err-Fault.ensures {u = tt}).exact))

pub returns-in-Err-Fault-clause-stands : goal.returns-in-Err-Fault-clause-stands
returns-in-Err-Fault-clause-stands c limits D stands = c.close_for.ensures.item limits D stands (closing_is c.args.parts.now.here.space c.args.parts.now.here.n limits D c.args.peer BadItem (returns-in-Err-Fault-clause-answer c limits D stands))

pub returns-in-Some-fault_of_item-clause-answer : goal.returns-in-Some-fault_of_item-clause-answer
returns-in-Some-fault_of_item-clause-answer c limits D stands =
    act_of_faulty stands c.args.peer (sym c.is_peer.ensures ∙ c.if-not-is_peer.false) (sym c.has_closed.ensures ∙ c.if-has_closed.false) c.place.result c.place.ensures.value c.index.result.now c.index.ensures (Some (c.in-Some.front.0, c.in-Some.front.1.now)) c.in-Some.ensures.answer
    c.in-Some.front.0 c.in-Some.front.1.now refl c.in-Ok.item (ap item_of (c.in-Ok.ensures {u = tt}).exact) c.in-Some-fault_of_item.reason (sym (c.in-Some-fault_of_item.ensures {u = tt}))

pub returns-in-Some-fault_of_item-clause-stands : goal.returns-in-Some-fault_of_item-clause-stands
returns-in-Some-fault_of_item-clause-stands c limits D stands = c.close_for-in-Some-fault_of_item.ensures.item limits D stands (closing_is c.args.parts.now.here.space c.args.parts.now.here.n limits D c.args.peer c.in-Some-fault_of_item.reason (returns-in-Some-fault_of_item-clause-answer c limits D stands))

pub act_on-requires-clause-front : goal.act_on-requires-clause-front
act_on-requires-clause-front c limits D stands =
    is_front stands c.args.peer (sym c.is_peer.ensures ∙ c.if-not-is_peer.false) (sym c.has_closed.ensures ∙ c.if-has_closed.false) c.place.result c.place.ensures.value c.index.result.now c.index.ensures (Some (c.in-Some.front.0, c.in-Some.front.1.now)) c.in-Some.ensures.answer
    c.in-Some.front.0 c.in-Some.front.1.now refl c.in-Ok.item (ap item_of (c.in-Ok.ensures {u = tt}).exact) (sym (c.in_default-fault_of_item.ensures {u = tt}))

pub returns-in_err-act_on-clause-answer : goal.returns-in_err-act_on-clause-answer
returns-in_err-act_on-clause-answer c limits D stands =
    acts_on (λ (x : Unit {0}). answers.Acted c.in-Some.front.0) _ c.from_residual.result _ c.in_err-act_on.field-0.0 c.from_residual.ensures.1 (c.in_err-act_on.ensures.answer limits D stands)

pub returns-in_err-act_on-clause-err : goal.returns-in_err-act_on-clause-err
returns-in_err-act_on-clause-err c = after_error _ c.from_residual.result c.in_err-act_on.ensures.err
