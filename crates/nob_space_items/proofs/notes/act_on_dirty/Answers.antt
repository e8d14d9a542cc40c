use Rattle.std.proofs.Common.{◌≡◌, ◌-◌, ◌||◌, ◌==◌, Bool, true, false, IsOk, get_or, refl, sym, subst, ◌∙◌, ap}
use Rattle.std.proofs.lemmas.Cmp.{nat_eq_equiv}
use Rattle.nob_space_state.proofs.Rows.{own_there}
use Rattle.nob_space_state.proofs.Passing.{refused_as, wants_as, after_error}
use Rattle.nob_space_state.proofs.Ends.{end_there}
use Rattle.nob_model_history.specs.Histories.{history_of}
use Rattle.nob_space_items.proofs.Answered.{dirty_refusal, dirty_next, dirty_stands, dirty_kept}
use Rattle.nob_space_items.proofs.Taken.{act_free, act_refused, front_waits}
use Rattle.nob_table.specs.Table.{standing, SetsKept}
use Rattle.nob_table_rows.specs.Standings.{is_live}
use Rattle.nob_model.specs.Right.{own_ref}
use Rattle.nob_space_items.proofs.notes.act_on_dirty.Goals as goal

-- nothing more
live_or : (b : Bool) → (b || false) ≡ b
live_or true = refl
live_or false = refl

pub returns-in_err-refuse_send-clause-answer : goal.returns-in_err-refuse_send-clause-answer
returns-in_err-refuse_send-clause-answer c limits D stands =
    let front = c.requires.front limits D stands in
    refused_as _ c.from_residual.result _ c.in_err-refuse_send.field-0.0 c.from_residual.ensures.1
    (act_refused front c.in_err-refuse_send.field-0.0 (dirty_refusal stands c.args.index front ∙ c.in_err-refuse_send.ensures))

pub answer_dirty-requires-clause-next : goal.answer_dirty-requires-clause-next
answer_dirty-requires-clause-next c =
    let stands = c.requires.state.2 in
    dirty_next stands c.args.index (c.requires.front c.requires.state.0 c.requires.state.1 stands) c.index_mut-session.result.now
    (subst (λ k. c.index_mut-session.result.now ≡ get_or c.args.parts.now.sessions.items k c.index_mut-session.result.now) c.place.ensures.value c.index_mut-session.ensures.value) c.in_ok-refuse_send.ensures

pub answer_dirty-requires-clause-waits : goal.answer_dirty-requires-clause-waits
answer_dirty-requires-clause-waits c =
    let stands = c.requires.state.2 in
    let front = c.requires.front c.requires.state.0 c.requires.state.1 stands in
    let is : c.index_mut-session.result.now ≡ get_or c.args.parts.now.sessions.items (c.args.peer - 1) c.index_mut-session.result.now = subst (λ k. c.index_mut-session.result.now ≡ get_or c.args.parts.now.sessions.items k c.index_mut-session.result.now) c.place.ensures.value c.index_mut-session.ensures.value in
    front_waits front c.requires.state.0 c.index_mut-session.result.now.end (end_there c.args.parts.now.here.space c.args.parts.now.here.n c.requires.state.0 c.args.parts.now.sessions.items (history_of c.args.parts.now.here.space c.args.parts.now.here.n c.requires.state.1) c.args.peer c.index_mut-session.result.now stands.ends front.peer is).2

pub returns-in_err-answer_dirty-clause-answer : goal.returns-in_err-answer_dirty-clause-answer
returns-in_err-answer_dirty-clause-answer c limits D stands =
    let front = c.requires.front limits D stands in
    wants_as _ c.from_residual-in_err-answer_dirty.result _ c.from_residual-in_err-answer_dirty.ensures.1
    (subst IsOk (sym (act_free front (dirty_refusal stands c.args.index front ∙ c.in_ok-refuse_send.ensures))) refl)

pub returns-in_err-answer_dirty-clause-err : goal.returns-in_err-answer_dirty-clause-err
returns-in_err-answer_dirty-clause-err c = after_error _ c.from_residual-in_err-answer_dirty.result (λ limits D stands.
    let front = c.requires.front limits D stands in
    let kept = c.in_err-answer_dirty.ensures.err in
    dirty_kept stands c.args.peer c.place.result c.place.ensures.value c.index_mut-session.result.now c.answer_dirty.new.session c.index_mut-session.ensures.value front.peer c.answer_dirty.new.dirty kept.1 kept.0)

pub returns-clause-answer : goal.returns-clause-answer
returns-clause-answer c limits D stands =
    let front = c.requires.front limits D stands in
    act_free front (dirty_refusal stands c.args.index front ∙ c.in_ok-refuse_send.ensures)

pub returns-clause-stands : goal.returns-clause-stands
returns-clause-stands c limits D stands =
    let front = c.requires.front limits D stands in
    let done = c.in_ok-answer_dirty.ensures in
    dirty_stands stands c.place.result c.place.ensures.value c.index_mut-session.result.now c.answer_dirty.new.session c.index_mut-session.ensures.value c.args.index front c.in_ok-refuse_send.ensures c.is_live-live.result (c.is_live-live.ensures ∙ stands.table.live c.args.index) c.answer_dirty.new.dirty done.listed c.keep.new.self c.keep.ensures.left.items
    (subst (λ live. SetsKept c.args.parts.now.table c.keep.new.self (own_ref c.args.parts.now.here.space c.args.index) live)
    (ap (λ b. is_live (standing c.args.parts.now.table (own_ref c.args.parts.now.here.space c.args.index)).state || b) (own_there c.args.parts.now.table (own_ref c.args.parts.now.here.space c.args.index) (subst (λ k. c.args.parts.now.here.space == k ≡ true) (sym stands.table.me) (nat_eq_equiv.refl c.args.parts.now.here.space))).0
    ∙ live_or (is_live (standing c.args.parts.now.table (own_ref c.args.parts.now.here.space c.args.index)).state) ∙ sym c.is_live-live.ensures) c.keep.ensures.kept) done.session
