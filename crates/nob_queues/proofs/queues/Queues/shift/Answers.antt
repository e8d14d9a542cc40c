use Rattle.std.proofs.Common.{rules, ◌≡◌, ◌++◌, ◌+◌, Option, length, sym, ap, refl, ◌∙◌, add-zero}
use Rattle.std.proofs.Math.ListN.{length-set}
use lib.ListN.{set}
use Rattle.std.proofs.lemmas.Bool.{eqb-false}
use Rattle.std.proofs.lemmas.List.{append-nil}
use Rattle.nob_slots.specs.Slots.{SlotList, is_marked}
use Rattle.nob_slots.proofs.Flat.{get_set_other}
use Rattle.nob_queues.specs.Keys.{rows_of}
use Rattle.nob_queues.specs.Queues.{row_if}
use Rattle.nob_queues.proofs.Found.{removed_absent}
use Rattle.nob_queues.proofs.Keyed.{item_or, pushed_in, some_is}
use Rattle.nob_queues.proofs.Kept.{kept_same, kept_shifted, stands_here}
use Rattle.nob_queues.proofs.Seen.{above_unseen, at_queue, item_seen, other_put, puts_seen, removed_seen, room_put, room_seen, rows_put, rows_seen, seen_at}
use Rattle.nob_queues.proofs.queues.Queues.shift.Goals as goal

pub invariant_of-self : goal.invariant_of-self
invariant_of-self g c =
    let queues = c.self.inside.queues in
    let three : length queues ≡ 3 = search rules in
    let got = at_queue queues c.args.queue c.index-self-queue.result three c.requires.queue c.index-self-queue.is in
    (kept_same c.self.inside.items.slots queues c.self.invariant.0 c.args.queue _ _ got (c.take.ensures.rows ∙ removed_absent c.args.number _ (sym c.take.ensures.item ∙ c.in_default.is)), c.self.invariant.1)

pub returns-in_default-clause-from : goal.returns-in_default-clause-from
returns-in_default-clause-from g c =
    let queues = c.self.inside.queues in
    let slots = c.self.inside.items.slots in
    let three : length queues ≡ 3 = search rules in
    let got = at_queue queues c.args.queue c.index-self-queue.result three c.requires.queue c.index-self-queue.is in
    rw (← c.self.view_is) (rows_put slots queues c.args.queue _ got slots _ ∙ ap (rows_of slots) c.take.ensures.rows ∙ removed_seen slots queues c.args.queue _ got c.self.invariant.0 c.args.number)

pub returns-in_default-clause-to : goal.returns-in_default-clause-to
returns-in_default-clause-to g c =
    let queues = c.self.inside.queues in
    let slots = c.self.inside.items.slots in
    let three : length queues ≡ 3 = search rules in
    let got = at_queue queues c.args.queue c.index-self-queue.result three c.requires.queue c.index-self-queue.is in
    let none = item_seen slots queues c.args.queue _ got c.self.invariant.0 c.args.number ∙ ap (item_or slots) (sym c.take.ensures.item ∙ c.in_default.is) in
    rw (← c.self.view_is) (
    ap (λ (s : SlotList g.row.T.Denot). s.rows) (other_put slots queues c.args.queue _ got slots _ c.args.to (eqb-false c.args.to c.args.queue c.requires.apart) refl)
    ∙ sym (append-nil _) ∙ (λ i. (seen_at slots queues c.args.to).rows ++ row_if c.args.under (sym none i)))

pub returns-in_default-clause-others : goal.returns-in_default-clause-others
returns-in_default-clause-others g c =
    let queues = c.self.inside.queues in
    let slots = c.self.inside.items.slots in
    let three : length queues ≡ 3 = search rules in
    let got = at_queue queues c.args.queue c.index-self-queue.result three c.requires.queue c.index-self-queue.is in
    rw (← c.self.view_is) (λ other differs _. other_put slots queues c.args.queue _ got slots _ other (eqb-false other c.args.queue differs) refl)

pub push-requires-clause-above : goal.push-requires-clause-above
push-requires-clause-above g c =
    let queues = c.self.inside.queues in
    let three : length queues ≡ 3 = search rules in
    let there = at_queue _ c.args.to c.index-self-to.result (length-set queues c.args.queue _ ∙ three) c.requires.to c.index-self-to.is in
    let was = sym (get_set_other queues c.args.queue c.args.to _ (eqb-false c.args.to c.args.queue c.requires.apart)) ∙ there in
    above_unseen c.self.inside.items.slots queues c.args.to _ was c.self.invariant.0 c.args.under (rw (← c.self.view_is) at c.requires.above)

pub invariant_of-self-2 : goal.invariant_of-self-2
invariant_of-self-2 g c =
    let queues = c.self.inside.queues in
    let slots = c.self.inside.items.slots in
    let three : length queues ≡ 3 = search rules in
    let got = at_queue queues c.args.queue c.index-self-queue.result three c.requires.queue c.index-self-queue.is in
    let there = at_queue _ c.args.to c.index-self-to.result (length-set queues c.args.queue _ ∙ three) c.requires.to c.index-self-to.is in
    let was = sym (get_set_other queues c.args.queue c.args.to _ (eqb-false c.args.to c.args.queue c.requires.apart)) ∙ there in
    let above = above_unseen slots queues c.args.to _ was c.self.invariant.0 c.args.under (rw (← c.self.view_is) at c.requires.above) in
    (kept_shifted slots queues c.self.invariant.0 c.args.queue _ got c.args.number c.in-Some.key (sym c.take.ensures.item ∙ c.in-Some.is) _ c.take.ensures.rows c.args.to c.args.under _ _ there c.push.ensures.rows above, c.self.invariant.1)

pub returns-clause-from : goal.returns-clause-from
returns-clause-from g c =
    let queues = c.self.inside.queues in
    let slots = c.self.inside.items.slots in
    let three : length queues ≡ 3 = search rules in
    let got = at_queue queues c.args.queue c.index-self-queue.result three c.requires.queue c.index-self-queue.is in
    let there = at_queue _ c.args.to c.index-self-to.result (length-set queues c.args.queue _ ∙ three) c.requires.to c.index-self-to.is in
    let ne = eqb-false c.args.to c.args.queue c.requires.apart in
    rw (← c.self.view_is) (
    ap (λ (s : SlotList g.row.T.Denot). s.rows) (other_put slots _ c.args.to _ there slots _ c.args.queue (λ e. ne (sym e)) refl)
    ∙ rows_put slots queues c.args.queue _ got slots _ ∙ ap (rows_of slots) c.take.ensures.rows ∙ removed_seen slots queues c.args.queue _ got c.self.invariant.0 c.args.number)

pub returns-clause-to : goal.returns-clause-to
returns-clause-to g c =
    let queues = c.self.inside.queues in
    let slots = c.self.inside.items.slots in
    let three : length queues ≡ 3 = search rules in
    let got = at_queue queues c.args.queue c.index-self-queue.result three c.requires.queue c.index-self-queue.is in
    let there = at_queue _ c.args.to c.index-self-to.result (length-set queues c.args.queue _ ∙ three) c.requires.to c.index-self-to.is in
    let was = sym (get_set_other queues c.args.queue c.args.to _ (eqb-false c.args.to c.args.queue c.requires.apart)) ∙ there in
    rw (← c.self.view_is) (
    rows_put slots _ c.args.to _ there slots _ ∙ ap (rows_of slots) c.push.ensures.rows ∙ pushed_in slots c.args.under c.in-Some.key _
    ∙ (λ i. sym (rows_seen slots queues c.args.to _ was) i ++ row_if c.args.under (sym (item_seen slots queues c.args.queue _ got c.self.invariant.0 c.args.number ∙ ap (item_or slots) (sym c.take.ensures.item ∙ c.in-Some.is)) i)))

pub returns-clause-marked : goal.returns-clause-marked
returns-clause-marked g c =
    let queues = c.self.inside.queues in
    let slots = c.self.inside.items.slots in
    let three : length queues ≡ 3 = search rules in
    let got = at_queue queues c.args.queue c.index-self-queue.result three c.requires.queue c.index-self-queue.is in
    let there = at_queue _ c.args.to c.index-self-to.result (length-set queues c.args.queue _ ∙ three) c.requires.to c.index-self-to.is in
    let ne = eqb-false c.args.to c.args.queue c.requires.apart in
    rw (← c.self.view_is) (λ other.
    ap (λ (s : SlotList g.row.T.Denot). is_marked s.marked other) (other_put slots _ c.args.to _ there slots _ c.args.queue (λ e. ne (sym e)) refl) ∙ puts_seen slots queues c.args.queue _ got slots _ c.args.number _ c.take.ensures.marked other)

pub returns-clause-others : goal.returns-clause-others
returns-clause-others g c =
    let queues = c.self.inside.queues in
    let slots = c.self.inside.items.slots in
    let three : length queues ≡ 3 = search rules in
    let got = at_queue queues c.args.queue c.index-self-queue.result three c.requires.queue c.index-self-queue.is in
    let there = at_queue _ c.args.to c.index-self-to.result (length-set queues c.args.queue _ ∙ three) c.requires.to c.index-self-to.is in
    rw (← c.self.view_is) (λ other differs apart. other_put slots _ c.args.to _ there slots _ other (eqb-false other c.args.to apart) refl ∙ other_put slots queues c.args.queue _ got slots _ other (eqb-false other c.args.queue differs) refl)

pub returns-clause-queue_room : goal.returns-clause-queue_room
returns-clause-queue_room g c =
    let queues = c.self.inside.queues in
    let slots = c.self.inside.items.slots in
    let three : length queues ≡ 3 = search rules in
    let got = at_queue queues c.args.queue c.index-self-queue.result three c.requires.queue c.index-self-queue.is in
    let there = at_queue _ c.args.to c.index-self-to.result (length-set queues c.args.queue _ ∙ three) c.requires.to c.index-self-to.is in
    let ne = eqb-false c.args.to c.args.queue c.requires.apart in
    rw (← c.self.view_is) (ap (λ (s : SlotList g.row.T.Denot). s.room) (other_put slots _ c.args.to _ there slots _ c.args.queue (λ e. ne (sym e)) refl) ∙ room_put slots queues c.args.queue _ got slots _ ∙ c.take.ensures.room ∙ sym (room_seen slots queues c.args.queue _ got))

pub returns-in_default-clause-room_to : goal.returns-in_default-clause-room_to
returns-in_default-clause-room_to g c =
    let queues = c.self.inside.queues in
    let slots = c.self.inside.items.slots in
    let three : length queues ≡ 3 = search rules in
    let got = at_queue queues c.args.queue c.index-self-queue.result three c.requires.queue c.index-self-queue.is in
    let none = item_seen slots queues c.args.queue _ got c.self.invariant.0 c.args.number ∙ ap (item_or slots) (sym c.take.ensures.item ∙ c.in_default.is) in
    let empty = ap (λ (o : Option g.row.T.Denot). length (row_if c.args.under o)) none in
    let same = ap (λ (s : SlotList g.row.T.Denot). s.room) (other_put slots queues c.args.queue _ got slots c.take.new.self c.args.to (eqb-false c.args.to c.args.queue c.requires.apart) refl) in
    rw (← c.self.view_is) ((λ i. same i + empty i) ∙ add-zero _)

pub returns-clause-room_to : goal.returns-clause-room_to
returns-clause-room_to g c =
    let queues = c.self.inside.queues in
    let slots = c.self.inside.items.slots in
    let kept = c.self.invariant.0 in
    let three : length queues ≡ 3 = search rules in
    let got = at_queue queues c.args.queue c.index-self-queue.result three c.requires.queue c.index-self-queue.is in
    let there = at_queue _ c.args.to c.index-self-to.result (length-set queues c.args.queue _ ∙ three) c.requires.to c.index-self-to.is in
    let was = sym (get_set_other queues c.args.queue c.args.to _ (eqb-false c.args.to c.args.queue c.requires.apart)) ∙ there in
    let found = sym c.take.ensures.item ∙ c.in-Some.is in
    let some = some_is _ (kept.there c.args.queue c.args.number c.in-Some.key (stands_here slots queues kept c.args.queue _ got c.args.number c.in-Some.key found)) in
    let one = ap (λ (o : Option g.row.T.Denot). length (row_if c.args.under o)) (item_seen slots queues c.args.queue _ got kept c.args.number ∙ ap (item_or slots) found ∙ some.1) in
    let put = room_put slots (set queues c.args.queue c.take.new.self) c.args.to _ there slots c.push.new.self in
    rw (← c.self.view_is) ((λ i. put i + one i) ∙ c.push.ensures.room ∙ sym (room_seen slots queues c.args.to _ was))
