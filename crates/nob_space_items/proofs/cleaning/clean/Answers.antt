use Rattle.std.proofs.Common.{◌≡◌, ◌-◌, ◌<◌, ℕ, ◌∷◌, Ok, get_or, refl, sym, subst, ◌∙◌, arith}
use lib.ListN.{set}
use Rattle.nob_model_session.specs.End.{last_item}
use Rattle.nob_model_history.specs.Histories.{history_of}
use Rattle.nob_model_types.specs.declared.deed.Deed.TheVariants as did
use Rattle.nob_space_state.specs.Parts.{State, state_of}
use Rattle.nob_space_state.specs.Stands.{Stands}
use Rattle.nob_space_state.proofs.Calling.{peer_range}
use Rattle.nob_space_state.proofs.Ends.{end_there, stands_kept}
use Rattle.nob_space_state.proofs.Passing.{wants_as, after_error}
use Rattle.nob_space_state.proofs.Firsts.{some_same}
use Rattle.nob_session.specs.Stands.{Roomy}
use Rattle.nob_session.proofs.Alike.{stepped_onward}
use Rattle.nob_model_session.specs.declared.entry.EndEntry.TheVariants as ends
use Rattle.nob_model_session.specs.declared.entry.Kind.TheVariants.{Note}
use Rattle.nob_space_items.proofs.Spares.{apart_there, asked_there, pinned_there}
use Rattle.nob_space_items.proofs.Forgetting.{clean_is, clean_none, clean_full, clean_right, clean_wants, clean_next, clean_stands}
use Rattle.nob_space_items.proofs.cleaning.clean.Goals as goal

pub first_spare-requires-clause-apart : goal.first_spare-requires-clause-apart
first_spare-requires-clause-apart c = apart_there c.requires.2

pub first_spare-requires-clause-pinned : goal.first_spare-requires-clause-pinned
first_spare-requires-clause-pinned c = pinned_there c.requires.2

pub returns-in_default-clause-answer : goal.returns-in_default-clause-answer
returns-in_default-clause-answer c limits D stands = clean_none stands (c.in_default.ensures {u = tt})

pub index-requires : goal.index-requires
index-requires c =
    let peer = (asked_there c.requires.2 c.in-Some.rep (c.in-Some.ensures {u = tt})).1 in
    let range = peer_range c.args.parts.now.here.space c.args.parts.now.here.n c.in-Some.rep.owner peer in
    let each = c.requires.2.ends.each in
    let owner = c.place-place.ensures.value in
    omega (arith, range.0, range.1, each, owner)

pub returns-then-free_numbers-eq0-clause-answer : goal.returns-then-free_numbers-eq0-clause-answer
returns-then-free_numbers-eq0-clause-answer c limits D stands =
    clean_full stands c.in-Some.rep (c.in-Some.ensures {u = tt}) c.index.result.now (subst (λ (k : ℕ). c.index.result.now ≡ get_or c.args.parts.now.sessions.items k c.index.result.now) c.place-place.ensures.value c.index.ensures)
    (sym c.free_numbers.ensures ∙ c.if-free_numbers-eq0.true)

pub returns-in_err-payload-clause-answer : goal.returns-in_err-payload-clause-answer
returns-in_err-payload-clause-answer c limits D stands =
    wants_as _ c.from_residual.result _ c.from_residual.ensures.1
    (clean_wants stands c.in-Some.rep (c.in-Some.ensures {u = tt}) c.index.result.now (subst (λ (k : ℕ). c.index.result.now ≡ get_or c.args.parts.now.sessions.items k c.index.result.now) c.place-place.ensures.value c.index.ensures)
    (let free = c.free_numbers.ensures in let some = c.if-free_numbers-eq0.false in omega (arith, free, some)))

pub index_mut-session-requires : goal.index_mut-session-requires
index_mut-session-requires c =
    let peer = (asked_there c.requires.2 c.in-Some.rep (c.in-Some.ensures {u = tt})).1 in
    let range = peer_range c.args.parts.now.here.space c.args.parts.now.here.n c.in-Some.rep.owner peer in
    let each = c.requires.2.ends.each in
    let owner = c.place-place.ensures.value in
    omega (arith, range.0, range.1, each, owner)

pub send_note-requires-clause-next : goal.send_note-requires-clause-next
send_note-requires-clause-next c =
    let is : c.index_mut-session.result.now ≡ get_or c.args.parts.now.sessions.items (c.in-Some.rep.owner - 1) c.index_mut-session.result.now = subst (λ (k : ℕ). c.index_mut-session.result.now ≡ get_or c.args.parts.now.sessions.items k c.index_mut-session.result.now) c.place-place.ensures.value c.index_mut-session.ensures.value in
    let seen : c.index.result.now ≡ get_or c.args.parts.now.sessions.items (c.in-Some.rep.owner - 1) c.index.result.now = subst (λ (k : ℕ). c.index.result.now ≡ get_or c.args.parts.now.sessions.items k c.index.result.now) c.place-place.ensures.value c.index.ensures in
    let peer = (asked_there c.requires.2 c.in-Some.rep (c.in-Some.ensures {u = tt})).1 in
    let here = end_there c.args.parts.now.here.space c.args.parts.now.here.n c.requires.0 c.args.parts.now.sessions.items (history_of c.args.parts.now.here.space c.args.parts.now.here.n c.requires.1) c.in-Some.rep.owner c.index_mut-session.result.now c.requires.2.ends peer is in
    let there = end_there c.args.parts.now.here.space c.args.parts.now.here.n c.requires.0 c.args.parts.now.sessions.items (history_of c.args.parts.now.here.space c.args.parts.now.here.n c.requires.1) c.in-Some.rep.owner c.index.result.now c.requires.2.ends peer seen in
    let same : c.index.result.now ≡ c.index_mut-session.result.now = some_same (sym there.1 ∙ here.1) in
    let free = c.free_numbers.ensures in
    let some = c.if-free_numbers-eq0.false in
    clean_next c.requires.2 c.in-Some.rep (c.in-Some.ensures {u = tt}) c.index_mut-session.result.now is (subst (λ (e : Roomy). 0 < last_item - e.end.handed) same (omega (arith, free, some)))

pub returns-in_err-send_note-clause-answer : goal.returns-in_err-send_note-clause-answer
returns-in_err-send_note-clause-answer c limits D stands =
    wants_as _ c.from_residual-in_err-send_note.result _ c.from_residual-in_err-send_note.ensures.1
    (clean_wants stands c.in-Some.rep (c.in-Some.ensures {u = tt}) c.index.result.now (subst (λ (k : ℕ). c.index.result.now ≡ get_or c.args.parts.now.sessions.items k c.index.result.now) c.place-place.ensures.value c.index.ensures)
    (let free = c.free_numbers.ensures in let some = c.if-free_numbers-eq0.false in omega (arith, free, some)))

pub returns-in_err-send_note-clause-err : goal.returns-in_err-send_note-clause-err
returns-in_err-send_note-clause-err c = after_error _ c.from_residual-in_err-send_note.result (λ limits D stands.
    let is : c.index_mut-session.result.now ≡ get_or c.args.parts.now.sessions.items (c.in-Some.rep.owner - 1) c.index_mut-session.result.now = subst (λ (k : ℕ). c.index_mut-session.result.now ≡ get_or c.args.parts.now.sessions.items k c.index_mut-session.result.now) c.place-place.ensures.value c.index_mut-session.ensures.value in
    let peer = (asked_there stands c.in-Some.rep (c.in-Some.ensures {u = tt})).1 in
    subst (λ (k : ℕ). Stands c.args.parts.now.here.space c.args.parts.now.here.n limits (after k) D) (sym c.place-place.ensures.value)
    (stands_kept stands c.in-Some.rep.owner c.index_mut-session.result.now c.send_note.new.session peer is c.in_err-send_note.ensures.err))
  where
    after : ℕ → State
    after k =
        record {
          sessions = set c.args.parts.now.sessions.items k c.send_note.new.session;
          table = c.args.parts.now.table;
          dirty = c.args.parts.now.dirty;
          pins = c.args.parts.now.pins;
          work = (state_of c.args.parts.now).work;
          awaited = c.args.parts.now.messages.waiting.awaited;
          calls = c.args.parts.now.calls_made;
          jobs = c.args.parts.now.jobs_made;
        }

pub returns-clause-answer : goal.returns-clause-answer
returns-clause-answer c limits D stands =
    clean_right stands c.in-Some.rep (c.in-Some.ensures {u = tt}) c.index.result.now (subst (λ (k : ℕ). c.index.result.now ≡ get_or c.args.parts.now.sessions.items k c.index.result.now) c.place-place.ensures.value c.index.ensures)
    (let free = c.free_numbers.ensures in let some = c.if-free_numbers-eq0.false in omega (arith, free, some))

pub returns-clause-stands : goal.returns-clause-stands
returns-clause-stands c limits D stands =
    let is : c.index_mut-session.result.now ≡ get_or c.args.parts.now.sessions.items (c.in-Some.rep.owner - 1) c.index_mut-session.result.now = subst (λ (k : ℕ). c.index_mut-session.result.now ≡ get_or c.args.parts.now.sessions.items k c.index_mut-session.result.now) c.place-place.ensures.value c.index_mut-session.ensures.value in
    let sent = c.in_ok-send_note.ensures in
    subst (λ (k : ℕ). Stands c.args.parts.now.here.space c.args.parts.now.here.n limits (record {
      sessions = set c.args.parts.now.sessions.items k c.send_note.new.session;
      table = c.forget.new.table;
      dirty = c.args.parts.now.dirty;
      pins = c.args.parts.now.pins;
      work = (state_of c.args.parts.now).work;
      awaited = c.args.parts.now.messages.waiting.awaited;
      calls = c.args.parts.now.calls_made;
      jobs = c.args.parts.now.jobs_made;
    }) (did.Clean c.in-Some.rep ∷ D)) (sym c.place-place.ensures.value)
    (clean_stands stands c.in-Some.rep (c.in-Some.ensures {u = tt}) c.index_mut-session.result.now is c.send_note.new.session c.forget.new.table c.in_ok-payload.payload.items c.in_ok-send_note.field-0
    (clean_is c.args.parts.now.here.space c.args.parts.now.here.n limits D c.in-Some.rep (returns-clause-answer c limits D stands)) c.in_ok-payload.ensures.spelled sent.number
    (λ before. stepped_onward (ends.Send c.in_ok-payload.payload.items Note (Ok c.in_ok-send_note.field-0)) refl before (λ M stood. sent.answer c.args.parts.now.here.space c.in-Some.rep.owner limits M stood))
    c.forget.ensures.row c.forget.ensures.place c.forget.ensures.unkept c.forget.ensures.left)
