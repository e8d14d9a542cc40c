use Rattle.std.proofs.Common.{◌≡◌, ◌-◌, ◌≤◌, ℕ, ◌∷◌, List, get_or, find, Some, true, IfSome, option_copied, sym, subst, ◌∙◌, ap, arith}
use lib.ListN.{set}
use Rattle.std.specs.Option.{option_map}
use Rattle.nob_item.specs.Judging.{is_call_number}
use Rattle.nob_model_session.specs.End.{last_item}
use Rattle.nob_model_history.specs.Histories.{history_of}
use Rattle.nob_model_types.specs.declared.deed.Deed.TheVariants as did
use Rattle.nob_ids.specs.declared.wire_rep.WireRep.{WireRep}
use Rattle.nob_model_work.specs.declared.work.Outstanding.{Outstanding}
use Rattle.nob_model_types.specs.declared.message.Message.{Message}
use Rattle.nob_model_work.specs.Work.{after_settlement, without_first}
use Rattle.nob_space_messages.specs.Waiting.{WaitingList, is_settleable_in}
use Rattle.nob_session.specs.Stands.{Roomy}
use Rattle.nob_space_state.specs.Parts.{State, state_of}
use Rattle.nob_space_state.specs.Returns.{HasLent, GivesBack}
use Rattle.nob_space_state.specs.Stands.{Stands}
use Rattle.nob_space_state.proofs.Calling.{peer_range}
use Rattle.nob_space_state.proofs.Ends.{end_there, stands_kept}
use Rattle.nob_space_state.proofs.Passing.{same_space, wants_as, after_error}
use Rattle.nob_space_state.proofs.Firsts.{some_same}
use Rattle.nob_space_items.specs.Settling.{has_lost, lost_call, given_count, loans_ended}
use Rattle.nob_space_items.proofs.Resolving.{message_sound, settle_none, settle_full, settle_right, settle_wants, some_given}
use Rattle.nob_space_items.proofs.Settleable.{is_settleable}
use Rattle.nob_space_items.proofs.Settlements.{settle_lent, settle_open, notes_onward, settle_stands, same_count, lost_numbered}
use Rattle.nob_space_items.proofs.Numbering.{number_there, settle_spelled}
use Rattle.nob_space_items.proofs.settling.settle.Goals as goal

pub returns-in_default-clause-answer : goal.returns-in_default-clause-answer
returns-in_default-clause-answer c limits D stands = settle_none stands (sym c.first_settleable.ensures ∙ ap option_copied c.in_default.is)

pub index-requires : goal.index-requires
index-requires c =
    let seen : find (is_settleable (state_of c.args.parts.now)) c.args.parts.now.messages.waiting.items ≡ Some c.in-Some.message.now = sym c.first_settleable.ensures ∙ ap option_copied c.in-Some.is in
    let range = peer_range c.args.parts.now.here.space c.args.parts.now.here.n c.in-Some.message.now.from (message_sound c.requires.2 c.in-Some.message.now seen).peer in
    let each = c.requires.2.ends.each in
    let owner = c.place-at.ensures.value in
    omega (arith, range.0, range.1, each, owner)

pub returns-then-free_numbers-given_count-clause-answer : goal.returns-then-free_numbers-given_count-clause-answer
returns-then-free_numbers-given_count-clause-answer c limits D stands =
    let seen : find (is_settleable (state_of c.args.parts.now)) c.args.parts.now.messages.waiting.items ≡ Some c.in-Some.message.now = sym c.first_settleable.ensures ∙ ap option_copied c.in-Some.is in
    let looked : c.index.result.now ≡ get_or c.args.parts.now.sessions.items (c.in-Some.message.now.from - 1) c.index.result.now = subst (λ (k : ℕ). c.index.result.now ≡ get_or c.args.parts.now.sessions.items k c.index.result.now) c.place-at.ensures.value c.index.ensures in
    let call : c.lost_call-call.result ≡ lost_call c.in-Some.message.now.item (has_lost c.args.parts.now.here.space c.args.parts.now.here.n (state_of c.args.parts.now) c.in-Some.message.now) = c.lost_call-call.ensures ∙ ap (lost_call c.in-Some.message.now.item) c.has_lost-lost.ensures in
    let count : c.given_count.result ≡ given_count (lost_call c.in-Some.message.now.item (has_lost c.args.parts.now.here.space c.args.parts.now.here.n (state_of c.args.parts.now) c.in-Some.message.now)) = c.given_count.ensures ∙ ap given_count call in
    let numbers = c.free_numbers.ensures in
    let few = c.if-free_numbers-given_count.true in
    settle_full stands c.in-Some.message.now seen c.index.result.now looked (omega (arith, count, numbers, few))

pub encode_note-requires : goal.encode_note-requires
encode_note-requires c =
    let seen : find (is_settleable (state_of c.args.parts.now)) c.args.parts.now.messages.waiting.items ≡ Some c.in-Some.message.now = sym c.first_settleable.ensures ∙ ap option_copied c.in-Some.is in
    settle_spelled c.in-Some.message.now.number (number_there c.args.parts.now.here.space c.args.parts.now.here.n c.requires.0 c.requires.1 (is_settleable (state_of c.args.parts.now)) c.in-Some.message.now c.requires.2.right
    (ap (λ W. find (is_settleable (state_of c.args.parts.now)) W.waiting) (sym c.requires.2.work) ∙ seen))

pub payload_if-requires : goal.payload_if-requires
payload_if-requires c =
    let seen : find (is_settleable (state_of c.args.parts.now)) c.args.parts.now.messages.waiting.items ≡ Some c.in-Some.message.now = sym c.first_settleable.ensures ∙ ap option_copied c.in-Some.is in
    subst (λ found. IfSome found (λ k. is_call_number k ≡ true)) (sym c.lost_call-call.ensures)
    (lost_numbered c.in-Some.message.now.item c.has_lost-lost.result (message_sound c.requires.2 c.in-Some.message.now seen).number)

pub index_mut-session-requires : goal.index_mut-session-requires
index_mut-session-requires c =
    let seen : find (is_settleable (state_of c.args.parts.now)) c.args.parts.now.messages.waiting.items ≡ Some c.in-Some.message.now = sym c.first_settleable.ensures ∙ ap option_copied c.in-Some.is in
    let range = peer_range c.args.parts.now.here.space c.args.parts.now.here.n c.in-Some.message.now.from (message_sound c.requires.2 c.in-Some.message.now seen).peer in
    let each = c.requires.2.ends.each in
    let owner = c.place-at.ensures.value in
    omega (arith, range.0, range.1, each, owner)

pub send_notes-requires-clause-open : goal.send_notes-requires-clause-open
send_notes-requires-clause-open c =
    let seen : find (is_settleable (state_of c.args.parts.now)) c.args.parts.now.messages.waiting.items ≡ Some c.in-Some.message.now = sym c.first_settleable.ensures ∙ ap option_copied c.in-Some.is in
    let looked : c.index.result.now ≡ get_or c.args.parts.now.sessions.items (c.in-Some.message.now.from - 1) c.index.result.now = subst (λ (k : ℕ). c.index.result.now ≡ get_or c.args.parts.now.sessions.items k c.index.result.now) c.place-at.ensures.value c.index.ensures in
    let call : c.lost_call-call.result ≡ lost_call c.in-Some.message.now.item (has_lost c.args.parts.now.here.space c.args.parts.now.here.n (state_of c.args.parts.now) c.in-Some.message.now) = c.lost_call-call.ensures ∙ ap (lost_call c.in-Some.message.now.item) c.has_lost-lost.ensures in
    let count : c.given_count.result ≡ given_count (lost_call c.in-Some.message.now.item (has_lost c.args.parts.now.here.space c.args.parts.now.here.n (state_of c.args.parts.now) c.in-Some.message.now)) = c.given_count.ensures ∙ ap given_count call in
    let numbers = c.free_numbers.ensures in
    let few = c.if-free_numbers-given_count.false in
    let free : given_count (lost_call c.in-Some.message.now.item (has_lost c.args.parts.now.here.space c.args.parts.now.here.n (state_of c.args.parts.now) c.in-Some.message.now)) ≤ last_item - c.index.result.now.end.handed = omega (arith, count, numbers, few) in
    let is : c.index_mut-session.result.now ≡ get_or c.args.parts.now.sessions.items (c.in-Some.message.now.from - 1) c.index_mut-session.result.now = subst (λ (k : ℕ). c.index_mut-session.result.now ≡ get_or c.args.parts.now.sessions.items k c.index_mut-session.result.now) c.place-at.ensures.value c.index_mut-session.ensures.value in
    let peer = (message_sound c.requires.2 c.in-Some.message.now seen).peer in
    let one = end_there c.args.parts.now.here.space c.args.parts.now.here.n c.requires.0 c.args.parts.now.sessions.items (history_of c.args.parts.now.here.space c.args.parts.now.here.n c.requires.1) c.in-Some.message.now.from c.index.result.now c.requires.2.ends peer looked in
    let two = end_there c.args.parts.now.here.space c.args.parts.now.here.n c.requires.0 c.args.parts.now.sessions.items (history_of c.args.parts.now.here.space c.args.parts.now.here.n c.requires.1) c.in-Some.message.now.from c.index_mut-session.result.now c.requires.2.ends peer is in
    let same : c.index.result.now ≡ c.index_mut-session.result.now = some_same (sym one.1 ∙ two.1) in
    let left : given_count (lost_call c.in-Some.message.now.item (has_lost c.args.parts.now.here.space c.args.parts.now.here.n (state_of c.args.parts.now) c.in-Some.message.now)) ≤ last_item - c.index_mut-session.result.now.end.handed = subst (λ (e : Roomy). given_count (lost_call c.in-Some.message.now.item (has_lost c.args.parts.now.here.space c.args.parts.now.here.n (state_of c.args.parts.now) c.in-Some.message.now)) ≤ last_item - e.end.handed) same free in
    settle_open c.requires.2 c.in-Some.message.now seen c.index_mut-session.result.now is left

pub send_notes-requires-clause-free : goal.send_notes-requires-clause-free
send_notes-requires-clause-free c =
    let seen : find (is_settleable (state_of c.args.parts.now)) c.args.parts.now.messages.waiting.items ≡ Some c.in-Some.message.now = sym c.first_settleable.ensures ∙ ap option_copied c.in-Some.is in
    let looked : c.index.result.now ≡ get_or c.args.parts.now.sessions.items (c.in-Some.message.now.from - 1) c.index.result.now = subst (λ (k : ℕ). c.index.result.now ≡ get_or c.args.parts.now.sessions.items k c.index.result.now) c.place-at.ensures.value c.index.ensures in
    let call : c.lost_call-call.result ≡ lost_call c.in-Some.message.now.item (has_lost c.args.parts.now.here.space c.args.parts.now.here.n (state_of c.args.parts.now) c.in-Some.message.now) = c.lost_call-call.ensures ∙ ap (lost_call c.in-Some.message.now.item) c.has_lost-lost.ensures in
    let count : c.given_count.result ≡ given_count (lost_call c.in-Some.message.now.item (has_lost c.args.parts.now.here.space c.args.parts.now.here.n (state_of c.args.parts.now) c.in-Some.message.now)) = c.given_count.ensures ∙ ap given_count call in
    let numbers = c.free_numbers.ensures in
    let few = c.if-free_numbers-given_count.false in
    let free : given_count (lost_call c.in-Some.message.now.item (has_lost c.args.parts.now.here.space c.args.parts.now.here.n (state_of c.args.parts.now) c.in-Some.message.now)) ≤ last_item - c.index.result.now.end.handed = omega (arith, count, numbers, few) in
    let is : c.index_mut-session.result.now ≡ get_or c.args.parts.now.sessions.items (c.in-Some.message.now.from - 1) c.index_mut-session.result.now = subst (λ (k : ℕ). c.index_mut-session.result.now ≡ get_or c.args.parts.now.sessions.items k c.index_mut-session.result.now) c.place-at.ensures.value c.index_mut-session.ensures.value in
    let peer = (message_sound c.requires.2 c.in-Some.message.now seen).peer in
    let one = end_there c.args.parts.now.here.space c.args.parts.now.here.n c.requires.0 c.args.parts.now.sessions.items (history_of c.args.parts.now.here.space c.args.parts.now.here.n c.requires.1) c.in-Some.message.now.from c.index.result.now c.requires.2.ends peer looked in
    let two = end_there c.args.parts.now.here.space c.args.parts.now.here.n c.requires.0 c.args.parts.now.sessions.items (history_of c.args.parts.now.here.space c.args.parts.now.here.n c.requires.1) c.in-Some.message.now.from c.index_mut-session.result.now c.requires.2.ends peer is in
    let same : c.index.result.now ≡ c.index_mut-session.result.now = some_same (sym one.1 ∙ two.1) in
    let left : given_count (lost_call c.in-Some.message.now.item (has_lost c.args.parts.now.here.space c.args.parts.now.here.n (state_of c.args.parts.now) c.in-Some.message.now)) ≤ last_item - c.index_mut-session.result.now.end.handed = subst (λ (e : Roomy). given_count (lost_call c.in-Some.message.now.item (has_lost c.args.parts.now.here.space c.args.parts.now.here.n (state_of c.args.parts.now) c.in-Some.message.now)) ≤ last_item - e.end.handed) same free in
    let replies = same_count _ _ c.in_ok-reply.reply c.lost_call-call.result c.in_ok-reply.ensures.spelled in
    let all = ap given_count call in
    let some = some_given (lost_call c.in-Some.message.now.item (has_lost c.args.parts.now.here.space c.args.parts.now.here.n (state_of c.args.parts.now) c.in-Some.message.now)) in
    omega (arith, left, replies, all, some)

pub returns-in_err-send_notes-clause-err : goal.returns-in_err-send_notes-clause-err
returns-in_err-send_notes-clause-err c = after_error _ c.from_residual-in_err-send_notes.result (λ limits D stands.
    let seen : find (is_settleable (state_of c.args.parts.now)) c.args.parts.now.messages.waiting.items ≡ Some c.in-Some.message.now = sym c.first_settleable.ensures ∙ ap option_copied c.in-Some.is in
    let is : c.index_mut-session.result.now ≡ get_or c.args.parts.now.sessions.items (c.in-Some.message.now.from - 1) c.index_mut-session.result.now = subst (λ (k : ℕ). c.index_mut-session.result.now ≡ get_or c.args.parts.now.sessions.items k c.index_mut-session.result.now) c.place-at.ensures.value c.index_mut-session.ensures.value in
    subst (λ (k : ℕ). Stands c.args.parts.now.here.space c.args.parts.now.here.n limits (after k work_then c.reserve_settled.new.self.waiting) D) (sym c.place-at.ensures.value)
    (subst (λ (w : WaitingList). Stands c.args.parts.now.here.space c.args.parts.now.here.n limits (after (c.in-Some.message.now.from - 1) work_then w) D) (sym c.reserve_settled.ensures.waiting)
    (subst (λ (W : Outstanding). Stands c.args.parts.now.here.space c.args.parts.now.here.n limits (after (c.in-Some.message.now.from - 1) W c.args.parts.now.messages.waiting) D) (sym work_same)
    (stands_kept stands c.in-Some.message.now.from c.index_mut-session.result.now c.send_notes.new.session (message_sound stands c.in-Some.message.now seen).peer is c.in_err-send_notes.ensures.err))))
  where
    work_then : Outstanding
    work_then = record { waiting = c.reserve_settled.new.self.waiting.items; ready = c.reserve_settled.new.self.jobs.ready; running = c.reserve_settled.new.self.jobs.running; replies = c.reserve_replies.new.self.replies; calls = c.reserve_replies.new.self.calls }

    work_same : work_then ≡ (state_of c.args.parts.now).work
    work_same = λ i. record { waiting = (c.reserve_settled.ensures.waiting i).items; ready = c.reserve_settled.ensures.ready i; running = c.reserve_settled.ensures.running i; replies = c.reserve_replies.ensures.replies i; calls = c.reserve_replies.ensures.calls i }

    after : ℕ → Outstanding → WaitingList → State
    after k W w =
        record {
          sessions = set c.args.parts.now.sessions.items k c.send_notes.new.session;
          table = c.args.parts.now.table;
          dirty = c.args.parts.now.dirty;
          pins = c.args.parts.now.pins;
          work = W;
          awaited = w.awaited;
          calls = c.args.parts.now.calls_made;
          jobs = c.args.parts.now.jobs_made;
        }

pub put_first-requires-clause-lent : goal.put_first-requires-clause-lent
put_first-requires-clause-lent c message found =
    let seen : find (is_settleable (state_of c.args.parts.now)) c.args.parts.now.messages.waiting.items ≡ Some c.in-Some.message.now = sym c.first_settleable.ensures ∙ ap option_copied c.in-Some.is in
    let there : find (is_settleable (state_of c.args.parts.now)) c.args.parts.now.messages.waiting.items ≡ Some message = subst (λ (w : WaitingList). find (is_settleable_in w) w.items ≡ Some message) c.reserve_settled.ensures.waiting found in
    let one : c.in-Some.message.now ≡ message = some_same (sym seen ∙ there) in
    let lost : c.has_lost-lost.result ≡ has_lost c.args.parts.now.here.space c.args.parts.now.here.n (state_of c.args.parts.now) message = c.has_lost-lost.ensures ∙ ap (has_lost c.args.parts.now.here.space c.args.parts.now.here.n (state_of c.args.parts.now)) one in
    subst (λ b. HasLent c.args.parts.now.table (loans_ended c.args.parts.now.here.space message message.item b)) (sym lost) (settle_lent c.requires.2 message there)

pub returns-in_err-settle-clause-answer : goal.returns-in_err-settle-clause-answer
returns-in_err-settle-clause-answer c limits D stands =
    let seen : find (is_settleable (state_of c.args.parts.now)) c.args.parts.now.messages.waiting.items ≡ Some c.in-Some.message.now = sym c.first_settleable.ensures ∙ ap option_copied c.in-Some.is in
    let looked : c.index.result.now ≡ get_or c.args.parts.now.sessions.items (c.in-Some.message.now.from - 1) c.index.result.now = subst (λ (k : ℕ). c.index.result.now ≡ get_or c.args.parts.now.sessions.items k c.index.result.now) c.place-at.ensures.value c.index.ensures in
    let call : c.lost_call-call.result ≡ lost_call c.in-Some.message.now.item (has_lost c.args.parts.now.here.space c.args.parts.now.here.n (state_of c.args.parts.now) c.in-Some.message.now) = c.lost_call-call.ensures ∙ ap (lost_call c.in-Some.message.now.item) c.has_lost-lost.ensures in
    let count : c.given_count.result ≡ given_count (lost_call c.in-Some.message.now.item (has_lost c.args.parts.now.here.space c.args.parts.now.here.n (state_of c.args.parts.now) c.in-Some.message.now)) = c.given_count.ensures ∙ ap given_count call in
    let numbers = c.free_numbers.ensures in
    let few = c.if-free_numbers-given_count.false in
    let free : given_count (lost_call c.in-Some.message.now.item (has_lost c.args.parts.now.here.space c.args.parts.now.here.n (state_of c.args.parts.now) c.in-Some.message.now)) ≤ last_item - c.index.result.now.end.handed = omega (arith, count, numbers, few) in
    wants_as _ c.from_residual.result _ c.from_residual.ensures.1
    (settle_wants stands c.in-Some.message.now seen c.index.result.now looked free (some_given _))

pub returns-in_err-reply-clause-answer : goal.returns-in_err-reply-clause-answer
returns-in_err-reply-clause-answer c limits D stands =
    let seen : find (is_settleable (state_of c.args.parts.now)) c.args.parts.now.messages.waiting.items ≡ Some c.in-Some.message.now = sym c.first_settleable.ensures ∙ ap option_copied c.in-Some.is in
    let looked : c.index.result.now ≡ get_or c.args.parts.now.sessions.items (c.in-Some.message.now.from - 1) c.index.result.now = subst (λ (k : ℕ). c.index.result.now ≡ get_or c.args.parts.now.sessions.items k c.index.result.now) c.place-at.ensures.value c.index.ensures in
    let call : c.lost_call-call.result ≡ lost_call c.in-Some.message.now.item (has_lost c.args.parts.now.here.space c.args.parts.now.here.n (state_of c.args.parts.now) c.in-Some.message.now) = c.lost_call-call.ensures ∙ ap (lost_call c.in-Some.message.now.item) c.has_lost-lost.ensures in
    let count : c.given_count.result ≡ given_count (lost_call c.in-Some.message.now.item (has_lost c.args.parts.now.here.space c.args.parts.now.here.n (state_of c.args.parts.now) c.in-Some.message.now)) = c.given_count.ensures ∙ ap given_count call in
    let numbers = c.free_numbers.ensures in
    let few = c.if-free_numbers-given_count.false in
    let free : given_count (lost_call c.in-Some.message.now.item (has_lost c.args.parts.now.here.space c.args.parts.now.here.n (state_of c.args.parts.now) c.in-Some.message.now)) ≤ last_item - c.index.result.now.end.handed = omega (arith, count, numbers, few) in
    wants_as _ c.from_residual-in_err-reply.result _ c.from_residual-in_err-reply.ensures.1
    (settle_wants stands c.in-Some.message.now seen c.index.result.now looked free (some_given _))

pub returns-in_err-reserve_settled-clause-answer : goal.returns-in_err-reserve_settled-clause-answer
returns-in_err-reserve_settled-clause-answer c limits D stands =
    let seen : find (is_settleable (state_of c.args.parts.now)) c.args.parts.now.messages.waiting.items ≡ Some c.in-Some.message.now = sym c.first_settleable.ensures ∙ ap option_copied c.in-Some.is in
    let looked : c.index.result.now ≡ get_or c.args.parts.now.sessions.items (c.in-Some.message.now.from - 1) c.index.result.now = subst (λ (k : ℕ). c.index.result.now ≡ get_or c.args.parts.now.sessions.items k c.index.result.now) c.place-at.ensures.value c.index.ensures in
    let call : c.lost_call-call.result ≡ lost_call c.in-Some.message.now.item (has_lost c.args.parts.now.here.space c.args.parts.now.here.n (state_of c.args.parts.now) c.in-Some.message.now) = c.lost_call-call.ensures ∙ ap (lost_call c.in-Some.message.now.item) c.has_lost-lost.ensures in
    let count : c.given_count.result ≡ given_count (lost_call c.in-Some.message.now.item (has_lost c.args.parts.now.here.space c.args.parts.now.here.n (state_of c.args.parts.now) c.in-Some.message.now)) = c.given_count.ensures ∙ ap given_count call in
    let numbers = c.free_numbers.ensures in
    let few = c.if-free_numbers-given_count.false in
    let free : given_count (lost_call c.in-Some.message.now.item (has_lost c.args.parts.now.here.space c.args.parts.now.here.n (state_of c.args.parts.now) c.in-Some.message.now)) ≤ last_item - c.index.result.now.end.handed = omega (arith, count, numbers, few) in
    wants_as _ c.from_residual-in_err-reserve_settled.result _ c.from_residual-in_err-reserve_settled.ensures.1
    (settle_wants stands c.in-Some.message.now seen c.index.result.now looked free (some_given _))

pub returns-in_err-reserve_replies-clause-answer : goal.returns-in_err-reserve_replies-clause-answer
returns-in_err-reserve_replies-clause-answer c limits D stands =
    let seen : find (is_settleable (state_of c.args.parts.now)) c.args.parts.now.messages.waiting.items ≡ Some c.in-Some.message.now = sym c.first_settleable.ensures ∙ ap option_copied c.in-Some.is in
    let looked : c.index.result.now ≡ get_or c.args.parts.now.sessions.items (c.in-Some.message.now.from - 1) c.index.result.now = subst (λ (k : ℕ). c.index.result.now ≡ get_or c.args.parts.now.sessions.items k c.index.result.now) c.place-at.ensures.value c.index.ensures in
    let call : c.lost_call-call.result ≡ lost_call c.in-Some.message.now.item (has_lost c.args.parts.now.here.space c.args.parts.now.here.n (state_of c.args.parts.now) c.in-Some.message.now) = c.lost_call-call.ensures ∙ ap (lost_call c.in-Some.message.now.item) c.has_lost-lost.ensures in
    let count : c.given_count.result ≡ given_count (lost_call c.in-Some.message.now.item (has_lost c.args.parts.now.here.space c.args.parts.now.here.n (state_of c.args.parts.now) c.in-Some.message.now)) = c.given_count.ensures ∙ ap given_count call in
    let numbers = c.free_numbers.ensures in
    let few = c.if-free_numbers-given_count.false in
    let free : given_count (lost_call c.in-Some.message.now.item (has_lost c.args.parts.now.here.space c.args.parts.now.here.n (state_of c.args.parts.now) c.in-Some.message.now)) ≤ last_item - c.index.result.now.end.handed = omega (arith, count, numbers, few) in
    wants_as _ c.from_residual-in_err-reserve_replies.result _ c.from_residual-in_err-reserve_replies.ensures.1
    (settle_wants stands c.in-Some.message.now seen c.index.result.now looked free (some_given _))

pub returns-in_err-send_notes-clause-answer : goal.returns-in_err-send_notes-clause-answer
returns-in_err-send_notes-clause-answer c limits D stands =
    let seen : find (is_settleable (state_of c.args.parts.now)) c.args.parts.now.messages.waiting.items ≡ Some c.in-Some.message.now = sym c.first_settleable.ensures ∙ ap option_copied c.in-Some.is in
    let looked : c.index.result.now ≡ get_or c.args.parts.now.sessions.items (c.in-Some.message.now.from - 1) c.index.result.now = subst (λ (k : ℕ). c.index.result.now ≡ get_or c.args.parts.now.sessions.items k c.index.result.now) c.place-at.ensures.value c.index.ensures in
    let call : c.lost_call-call.result ≡ lost_call c.in-Some.message.now.item (has_lost c.args.parts.now.here.space c.args.parts.now.here.n (state_of c.args.parts.now) c.in-Some.message.now) = c.lost_call-call.ensures ∙ ap (lost_call c.in-Some.message.now.item) c.has_lost-lost.ensures in
    let count : c.given_count.result ≡ given_count (lost_call c.in-Some.message.now.item (has_lost c.args.parts.now.here.space c.args.parts.now.here.n (state_of c.args.parts.now) c.in-Some.message.now)) = c.given_count.ensures ∙ ap given_count call in
    let numbers = c.free_numbers.ensures in
    let few = c.if-free_numbers-given_count.false in
    let free : given_count (lost_call c.in-Some.message.now.item (has_lost c.args.parts.now.here.space c.args.parts.now.here.n (state_of c.args.parts.now) c.in-Some.message.now)) ≤ last_item - c.index.result.now.end.handed = omega (arith, count, numbers, few) in
    wants_as _ c.from_residual-in_err-send_notes.result _ c.from_residual-in_err-send_notes.ensures.1
    (settle_wants stands c.in-Some.message.now seen c.index.result.now looked free (some_given _))

pub returns-clause-answer : goal.returns-clause-answer
returns-clause-answer c limits D stands =
    let seen : find (is_settleable (state_of c.args.parts.now)) c.args.parts.now.messages.waiting.items ≡ Some c.in-Some.message.now = sym c.first_settleable.ensures ∙ ap option_copied c.in-Some.is in
    let looked : c.index.result.now ≡ get_or c.args.parts.now.sessions.items (c.in-Some.message.now.from - 1) c.index.result.now = subst (λ (k : ℕ). c.index.result.now ≡ get_or c.args.parts.now.sessions.items k c.index.result.now) c.place-at.ensures.value c.index.ensures in
    let call : c.lost_call-call.result ≡ lost_call c.in-Some.message.now.item (has_lost c.args.parts.now.here.space c.args.parts.now.here.n (state_of c.args.parts.now) c.in-Some.message.now) = c.lost_call-call.ensures ∙ ap (lost_call c.in-Some.message.now.item) c.has_lost-lost.ensures in
    let count : c.given_count.result ≡ given_count (lost_call c.in-Some.message.now.item (has_lost c.args.parts.now.here.space c.args.parts.now.here.n (state_of c.args.parts.now) c.in-Some.message.now)) = c.given_count.ensures ∙ ap given_count call in
    let numbers = c.free_numbers.ensures in
    let few = c.if-free_numbers-given_count.false in
    let free : given_count (lost_call c.in-Some.message.now.item (has_lost c.args.parts.now.here.space c.args.parts.now.here.n (state_of c.args.parts.now) c.in-Some.message.now)) ≤ last_item - c.index.result.now.end.handed = omega (arith, count, numbers, few) in
    settle_right stands c.in-Some.message.now seen c.index.result.now looked free (some_given _)

pub returns-clause-stands : goal.returns-clause-stands
returns-clause-stands c limits D stands =
    let seen : find (is_settleable (state_of c.args.parts.now)) c.args.parts.now.messages.waiting.items ≡ Some c.in-Some.message.now = sym c.first_settleable.ensures ∙ ap option_copied c.in-Some.is in
    let looked : c.index.result.now ≡ get_or c.args.parts.now.sessions.items (c.in-Some.message.now.from - 1) c.index.result.now = subst (λ (k : ℕ). c.index.result.now ≡ get_or c.args.parts.now.sessions.items k c.index.result.now) c.place-at.ensures.value c.index.ensures in
    let call : c.lost_call-call.result ≡ lost_call c.in-Some.message.now.item (has_lost c.args.parts.now.here.space c.args.parts.now.here.n (state_of c.args.parts.now) c.in-Some.message.now) = c.lost_call-call.ensures ∙ ap (lost_call c.in-Some.message.now.item) c.has_lost-lost.ensures in
    let count : c.given_count.result ≡ given_count (lost_call c.in-Some.message.now.item (has_lost c.args.parts.now.here.space c.args.parts.now.here.n (state_of c.args.parts.now) c.in-Some.message.now)) = c.given_count.ensures ∙ ap given_count call in
    let numbers = c.free_numbers.ensures in
    let few = c.if-free_numbers-given_count.false in
    let free : given_count (lost_call c.in-Some.message.now.item (has_lost c.args.parts.now.here.space c.args.parts.now.here.n (state_of c.args.parts.now) c.in-Some.message.now)) ≤ last_item - c.index.result.now.end.handed = omega (arith, count, numbers, few) in
    let is : c.index_mut-session.result.now ≡ get_or c.args.parts.now.sessions.items (c.in-Some.message.now.from - 1) c.index_mut-session.result.now = subst (λ (k : ℕ). c.index_mut-session.result.now ≡ get_or c.args.parts.now.sessions.items k c.index_mut-session.result.now) c.place-at.ensures.value c.index_mut-session.ensures.value in
    let peer = (message_sound c.requires.2 c.in-Some.message.now seen).peer in
    let one = end_there c.args.parts.now.here.space c.args.parts.now.here.n c.requires.0 c.args.parts.now.sessions.items (history_of c.args.parts.now.here.space c.args.parts.now.here.n c.requires.1) c.in-Some.message.now.from c.index.result.now c.requires.2.ends peer looked in
    let two = end_there c.args.parts.now.here.space c.args.parts.now.here.n c.requires.0 c.args.parts.now.sessions.items (history_of c.args.parts.now.here.space c.args.parts.now.here.n c.requires.1) c.in-Some.message.now.from c.index_mut-session.result.now c.requires.2.ends peer is in
    let same : c.index.result.now ≡ c.index_mut-session.result.now = some_same (sym one.1 ∙ two.1) in
    let left : given_count (lost_call c.in-Some.message.now.item (has_lost c.args.parts.now.here.space c.args.parts.now.here.n (state_of c.args.parts.now) c.in-Some.message.now)) ≤ last_item - c.index_mut-session.result.now.end.handed = subst (λ (e : Roomy). given_count (lost_call c.in-Some.message.now.item (has_lost c.args.parts.now.here.space c.args.parts.now.here.n (state_of c.args.parts.now) c.in-Some.message.now)) ≤ last_item - e.end.handed) same free in
    let there : find (is_settleable_in c.reserve_settled.new.self.waiting) c.reserve_settled.new.self.waiting.items ≡ Some c.in-Some.message.now = subst (λ (w : WaitingList). find (is_settleable_in w) w.items ≡ Some c.in-Some.message.now) (sym c.reserve_settled.ensures.waiting) seen in
    let m : Message = c.in-Some.message.now in
    let W : Outstanding = after_settlement m m.item c.has_lost-lost.result (record { waiting = without_first (is_settleable_in c.reserve_settled.new.self.waiting) c.reserve_settled.new.self.waiting.items; ready = c.reserve_settled.new.self.jobs.ready; running = c.reserve_settled.new.self.jobs.running; replies = c.reserve_replies.new.self.replies; calls = c.reserve_replies.new.self.calls }) in
    let reply = c.in_ok-reply.ensures.spelled in
    same_space c.put_first.new.parts.here c.args.parts.now.here c.put_first.ensures.here (subst (λ (after : State). Stands c.args.parts.now.here.space c.args.parts.now.here.n limits after (did.Settle c.in-Some.message.now.from c.in-Some.message.now.number ∷ D)) (sym (c.put_first.ensures.put m there))
    (subst (λ (w : WaitingList). Stands c.args.parts.now.here.space c.args.parts.now.here.n limits (record {
      sessions = set c.args.parts.now.sessions.items c.place-at.result c.send_notes.new.session;
      table = c.put_first.new.parts.table;
      dirty = c.args.parts.now.dirty;
      pins = c.args.parts.now.pins;
      work = W;
      awaited = w.awaited;
      calls = c.args.parts.now.calls_made;
      jobs = c.args.parts.now.jobs_made;
    }) (did.Settle c.in-Some.message.now.from c.in-Some.message.now.number ∷ D)) (sym c.reserve_settled.ensures.waiting)
    (subst (λ (k : ℕ). Stands c.args.parts.now.here.space c.args.parts.now.here.n limits (record {
      sessions = set c.args.parts.now.sessions.items k c.send_notes.new.session;
      table = c.put_first.new.parts.table;
      dirty = c.args.parts.now.dirty;
      pins = c.args.parts.now.pins;
      work = W;
      awaited = c.args.parts.now.messages.waiting.awaited;
      calls = c.args.parts.now.calls_made;
      jobs = c.args.parts.now.jobs_made;
    }) (did.Settle c.in-Some.message.now.from c.in-Some.message.now.number ∷ D)) (sym c.place-at.ensures.value)
    (settle_stands stands c.in-Some.message.now seen c.index_mut-session.result.now is left c.send_notes.new.session c.put_first.new.parts.table W c.in_ok-settle.settle.items (option_map (λ payload. payload.items) c.in_ok-reply.reply)
    c.in_ok-settle.ensures.spelled (reply ∙ ap (option_map _) call)
    (λ before. notes_onward c.index_mut-session.result.now.end.handed c.in_ok-settle.settle.items (option_map (λ payload. payload.items) c.in_ok-reply.reply) before (λ M stood. c.in_ok-send_notes.ensures.answer c.args.parts.now.here.space c.in-Some.message.now.from limits M stood))
    (subst (λ b. GivesBack c.args.parts.now.table c.put_first.new.parts.table (loans_ended c.args.parts.now.here.space m m.item b)) c.has_lost-lost.ensures (c.put_first.ensures.back m there))
    (λ i. after_settlement m m.item (c.has_lost-lost.ensures i) (record { waiting = without_first (is_settleable_in (c.reserve_settled.ensures.waiting i)) (c.reserve_settled.ensures.waiting i).items; ready = c.reserve_settled.ensures.ready i; running = c.reserve_settled.ensures.running i; replies = c.reserve_replies.ensures.replies i; calls = c.reserve_replies.ensures.calls i }))))))
