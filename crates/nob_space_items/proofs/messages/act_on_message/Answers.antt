use Rattle.std.proofs.Common.{rules, arith, ◌≡◌, ℕ, ◌<◌, ◌≤◌, List, length, None, IsOk, refl, ap, sym, subst, ◌∙◌}
use Rattle.nob_ids.specs.declared.wire_rep.WireRep.{WireRep}
use Rattle.nob_item.specs.Kinds.{counted_in}
use Rattle.nob_model_types.specs.declared.deed.Deed.{Deed}
use Rattle.nob_model_types.specs.declared.here.Here.{Here}
use Rattle.nob_model_types.specs.declared.message.RefCopy.{RefCopy}
use Rattle.nob_model_acting.specs.Acting.{answer_of_act}
use Rattle.nob_space_messages.specs.Waiting.{IsNew}
use Rattle.nob_space_state.specs.Parts.{state_of}
use Rattle.nob_space_state.specs.Stands.{Stands}
use Rattle.nob_space_state.proofs.Passing.{same_space, refused_as, wants_as, after_error}
use Rattle.nob_space_items.specs.Growing.{AreAmong, HaveRoom}
use Rattle.nob_space_items.specs.Messages.{wanted_refs, new_copies, message_refusal}
use Rattle.nob_space_items.specs.Receiving.{CanReceive, Receives}
use Rattle.nob_space_items.proofs.Message.{message_answer, message_of, act_is}
use Rattle.nob_space_items.proofs.ReadItems.{item_few}
use Rattle.nob_space_items.proofs.Ready.{owners_among, can_receive, grown_receives, new_ready}
use Rattle.nob_space_items.proofs.Received.{receives_stand}
use Rattle.nob_space_items.proofs.messages.act_on_message.Goals as goal

pub judge_message-requires : goal.judge_message-requires
judge_message-requires c = (let front = c.requires.front c.requires.state.0 c.requires.state.1 c.requires.state.2 in record { few = item_few front.bytes c.args.item front.spelt })

pub returns-in_err-wanted-clause-answer : goal.returns-in_err-wanted-clause-answer
returns-in_err-wanted-clause-answer c limits D stands =
    refused_as _ c.from_residual.result _ c.in_err-wanted.field-0.0 c.from_residual.ensures.1
    (message_answer c.args.parts.now.here.space c.args.parts.now.here.n c.args.peer c.args.number c.args.item D (c.requires.front limits D stands) c.requires.message
    ∙ ap (answer_of_act c.args.number None) (c.in_err-wanted.ensures.answer limits D stands))

pub returns-in_err-dirties-clause-answer : goal.returns-in_err-dirties-clause-answer
returns-in_err-dirties-clause-answer c limits D stands =
    wants_as _ c.from_residual-in_err-dirties.result _ c.from_residual-in_err-dirties.ensures.1
    (subst IsOk (sym (message_answer c.args.parts.now.here.space c.args.parts.now.here.n c.args.peer c.args.number c.args.item D (c.requires.front limits D stands) c.requires.message
    ∙ ap (answer_of_act c.args.number None) (c.in_ok-wanted.ensures.answer limits D stands))) refl)

pub returns-in_err-copies-clause-answer : goal.returns-in_err-copies-clause-answer
returns-in_err-copies-clause-answer c limits D stands =
    wants_as _ c.from_residual-in_err-copies.result _ c.from_residual-in_err-copies.ensures.1
    (subst IsOk (sym (message_answer c.args.parts.now.here.space c.args.parts.now.here.n c.args.peer c.args.number c.args.item D (c.requires.front limits D stands) c.requires.message
    ∙ ap (answer_of_act c.args.number None) (c.in_ok-wanted.ensures.answer limits D stands))) refl)

pub grow-requires : goal.grow-requires
grow-requires c =
    let D : List Deed = c.requires.state.1 in
    let stands = c.requires.state.2 in
    subst (AreAmong (length c.args.parts.now.sessions.items)) (sym (c.as_slice-2.ensures ∙ c.in_ok-wanted.ensures.wanted))
    (owners_among stands c.args.peer c.args.number c.args.item (c.requires.front c.requires.state.0 D stands) c.requires.message (length c.args.parts.now.sessions.items) stands.ends.each)

pub returns-in_err-grow-clause-answer : goal.returns-in_err-grow-clause-answer
returns-in_err-grow-clause-answer c limits D stands =
    wants_as _ c.from_residual-in_err-grow.result _ c.from_residual-in_err-grow.ensures.1
    (subst IsOk (sym (message_answer c.args.parts.now.here.space c.args.parts.now.here.n c.args.peer c.args.number c.args.item D (c.requires.front limits D stands) c.requires.message
    ∙ ap (answer_of_act c.args.number None) (c.in_ok-wanted.ensures.answer limits D stands))) refl)

pub receive-requires-clause-can : goal.receive-requires-clause-can
receive-requires-clause-can c =
    let s = c.args.parts.now.here.space in
    let n = c.args.parts.now.here.n in
    let D : List Deed = c.requires.state.1 in
    let stands = c.requires.state.2 in
    let st = state_of c.args.parts.now in
    let new = state_of c.grow.new.parts in
    let small : n < 65536 = search rules in
    let reps_are : c.in_ok-wanted.wanted ≡ wanted_refs s n st (counted_in c.args.item) = c.in_ok-wanted.ensures.wanted in
    let given : c.as_slice-2.result.now ≡ wanted_refs s n st (counted_in c.args.item) = c.as_slice-2.ensures ∙ reps_are in
    let dirties_are : c.in_ok-dirties.dirties.items ≡ wanted_refs s n st (counted_in c.args.item) = c.in_ok-dirties.ensures ∙ c.as_slice.ensures ∙ reps_are in
    let can : CanReceive s new (message_of s n st c.args.peer c.args.number c.args.item) (wanted_refs s n st (counted_in c.args.item)) =
    can_receive stands c.args.peer c.args.number c.args.item (c.requires.front c.requires.state.0 D stands) c.requires.message
    (subst (λ (reps : List WireRep). message_refusal st reps ≡ None) reps_are c.in_ok-wanted.ensures.free) small new c.grow.ensures.same
    (subst (λ (reps : List WireRep). HaveRoom (length reps) new.sessions reps) given c.in_ok-grow.ensures.sessions)
    (subst (λ (reps : List WireRep). length reps ≤ new.table.surrogate_room) given c.in_ok-grow.ensures.table) in
    subst (λ (here : Here). CanReceive here.space new (record { from = c.args.peer; session = c.number-session.result; number = c.args.number; item = c.args.item; copies = c.in_ok-copies.copies }) c.in_ok-dirties.dirties.items) (sym c.grow.ensures.here)
    (subst (λ (copies : List RefCopy). CanReceive s new (record { from = c.args.peer; session = c.number-session.result; number = c.args.number; item = c.args.item; copies = copies }) c.in_ok-dirties.dirties.items) (sym c.in_ok-copies.ensures)
    (subst (λ (session : ℕ). CanReceive s new (record { from = c.args.peer; session = session; number = c.args.number; item = c.args.item; copies = new_copies s n st (counted_in c.args.item) }) c.in_ok-dirties.dirties.items) (sym c.number-session.ensures)
    (subst (CanReceive s new (message_of s n st c.args.peer c.args.number c.args.item)) (sym dirties_are) can)))

pub receive-requires-clause-new : goal.receive-requires-clause-new
receive-requires-clause-new c =
    let s = c.args.parts.now.here.space in
    let n = c.args.parts.now.here.n in
    let D : List Deed = c.requires.state.1 in
    let stands = c.requires.state.2 in
    let st = state_of c.args.parts.now in
    let small : n < 65536 = search rules in
    let reps_are : c.in_ok-wanted.wanted ≡ wanted_refs s n st (counted_in c.args.item) = c.in_ok-wanted.ensures.wanted in
    subst (λ (copies : List RefCopy). IsNew c.grow.new.parts.messages.waiting (record { from = c.args.peer; session = c.number-session.result; number = c.args.number; item = c.args.item; copies = copies })) (sym c.in_ok-copies.ensures)
    (subst (λ (session : ℕ). IsNew c.grow.new.parts.messages.waiting (record { from = c.args.peer; session = session; number = c.args.number; item = c.args.item; copies = new_copies s n st (counted_in c.args.item) })) (sym c.number-session.ensures)
    (new_ready stands c.args.peer c.args.number c.args.item (c.requires.front c.requires.state.0 D stands) c.requires.message
    (subst (λ (reps : List WireRep). message_refusal st reps ≡ None) reps_are c.in_ok-wanted.ensures.free) small (state_of c.grow.new.parts) c.grow.ensures.same c.grow.new.parts.messages.waiting refl refl))

pub returns-clause-answer : goal.returns-clause-answer
returns-clause-answer c limits D stands =
    message_answer c.args.parts.now.here.space c.args.parts.now.here.n c.args.peer c.args.number c.args.item D (c.requires.front limits D stands) c.requires.message
    ∙ ap (answer_of_act c.args.number None) (c.in_ok-wanted.ensures.answer limits D stands)

pub returns-clause-stands : goal.returns-clause-stands
returns-clause-stands c limits D stands =
    let s = c.args.parts.now.here.space in
    let n = c.args.parts.now.here.n in
    let st = state_of c.args.parts.now in
    let grown = state_of c.grow.new.parts in
    let new = state_of c.receive.new.parts in
    let front = c.requires.front limits D stands in
    let small : n < 65536 = search rules in
    let reps_are : c.in_ok-wanted.wanted ≡ wanted_refs s n st (counted_in c.args.item) = c.in_ok-wanted.ensures.wanted in
    let dirties_are : c.in_ok-dirties.dirties.items ≡ wanted_refs s n st (counted_in c.args.item) = c.in_ok-dirties.ensures ∙ c.as_slice.ensures ∙ reps_are in
    let receives : Receives s grown new (message_of s n st c.args.peer c.args.number c.args.item) (wanted_refs s n st (counted_in c.args.item)) =
    subst (Receives s grown new (message_of s n st c.args.peer c.args.number c.args.item)) dirties_are
    (subst (λ (session : ℕ). Receives s grown new (record { from = c.args.peer; session = session; number = c.args.number; item = c.args.item; copies = new_copies s n st (counted_in c.args.item) }) c.in_ok-dirties.dirties.items) c.number-session.ensures
    (subst (λ (copies : List RefCopy). Receives s grown new (record { from = c.args.peer; session = c.number-session.result; number = c.args.number; item = c.args.item; copies = copies }) c.in_ok-dirties.dirties.items) c.in_ok-copies.ensures
    (subst (λ (here : Here). Receives here.space grown new (record { from = c.args.peer; session = c.number-session.result; number = c.args.number; item = c.args.item; copies = c.in_ok-copies.copies }) c.in_ok-dirties.dirties.items) c.grow.ensures.here c.receive.ensures.receives))) in
    same_space c.receive.new.parts.here c.args.parts.now.here (c.receive.ensures.here ∙ c.grow.ensures.here) (receives_stand stands c.args.peer c.args.number c.args.item front c.requires.message
    (grown_receives stands c.args.peer c.args.number c.args.item front c.requires.message
    (subst (λ (reps : List WireRep). message_refusal st reps ≡ None) reps_are c.in_ok-wanted.ensures.free) small grown c.grow.ensures.same new receives)
    (act_is s n limits D c.args.peer c.args.number (returns-clause-answer c limits D stands)))

pub returns-in_err-grow-clause-err : goal.returns-in_err-grow-clause-err
returns-in_err-grow-clause-err c = after_error _ c.from_residual-in_err-grow.result (λ limits D stands. let grown : Stands c.args.parts.now.here.space c.args.parts.now.here.n limits (state_of c.grow.new.parts) D = search rules in same_space c.grow.new.parts.here c.args.parts.now.here c.grow.ensures.here grown)
