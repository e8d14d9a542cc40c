use Rattle.std.proofs.Common.{rules, ◌≡◌, List, ℕ, length, sym, ap, refl, arith, ◌∙◌}
use Rattle.std.specs.Map.{remove_entry}
use Rattle.nob_slots.specs.Slots.{is_number}
use Rattle.nob_queues.specs.Keys.{rows_of}
use Rattle.nob_queues.proofs.Found.{removed_absent}
use Rattle.nob_queues.proofs.Keyed.{item_or}
use Rattle.nob_queues.proofs.Kept.{kept_same, kept_taken, stands_here, taken_apart, taken_rows}
use Rattle.nob_queues.proofs.Seen.{at_queue, item_seen, keeps_but, puts_seen, removed_seen, rows_put, rows_seen}
use Rattle.nob_queues.proofs.queues.Queues.take.Goals as goal

pub invariant_of-self : goal.invariant_of-self
invariant_of-self g c =
    let queues = c.self.inside.queues in
    let three : length queues ≡ 3 = search rules in
    let got = at_queue queues c.args.queue c.index-self-queue.result three c.requires c.index-self-queue.is in
    (kept_same c.self.inside.items.slots queues c.self.invariant.0 c.args.queue _ _ got (c.take.ensures.rows ∙ removed_absent c.args.number _ (sym c.take.ensures.item ∙ c.in_default.is)), c.self.invariant.1)

pub returns-in_default-clause-item : goal.returns-in_default-clause-item
returns-in_default-clause-item g c =
    let queues = c.self.inside.queues in
    let three : length queues ≡ 3 = search rules in
    let got = at_queue queues c.args.queue c.index-self-queue.result three c.requires c.index-self-queue.is in
    rw (← c.self.view_is) (sym (item_seen c.self.inside.items.slots queues c.args.queue _ got c.self.invariant.0 c.args.number ∙ ap (item_or c.self.inside.items.slots) (sym c.take.ensures.item ∙ c.in_default.is)))

pub returns-in_default-clause-rows : goal.returns-in_default-clause-rows
returns-in_default-clause-rows g c =
    let queues = c.self.inside.queues in
    let slots = c.self.inside.items.slots in
    let three : length queues ≡ 3 = search rules in
    let got = at_queue queues c.args.queue c.index-self-queue.result three c.requires c.index-self-queue.is in
    rw (← c.self.view_is) (rows_put slots queues c.args.queue _ got slots _ ∙ ap (rows_of slots) c.take.ensures.rows ∙ removed_seen slots queues c.args.queue _ got c.self.invariant.0 c.args.number)

pub returns-in_default-clause-marked : goal.returns-in_default-clause-marked
returns-in_default-clause-marked g c =
    let queues = c.self.inside.queues in
    let three : length queues ≡ 3 = search rules in
    let got = at_queue queues c.args.queue c.index-self-queue.result three c.requires c.index-self-queue.is in
    rw (← c.self.view_is) (puts_seen c.self.inside.items.slots queues c.args.queue _ got c.self.inside.items.slots _ c.args.number _ c.take.ensures.marked)

pub returns-in_default-clause-kept : goal.returns-in_default-clause-kept
returns-in_default-clause-kept g c =
    let queues = c.self.inside.queues in
    let three : length queues ≡ 3 = search rules in
    let got = at_queue queues c.args.queue c.index-self-queue.result three c.requires c.index-self-queue.is in
    rw (← c.self.view_is) (keeps_but c.self.inside.items.slots queues c.args.queue _ got c.self.inside.items.slots _ c.self.inside.room (λ p ne. refl) c.take.ensures.room)

pub remove-requires : goal.remove-requires
remove-requires g c =
    let queues = c.self.inside.queues in
    let three : length queues ≡ 3 = search rules in
    let got = at_queue queues c.args.queue c.index-self-queue.result three c.requires c.index-self-queue.is in
    let kept = c.self.invariant.0 in
    kept.there c.args.queue c.args.number c.in-Some.key (stands_here c.self.inside.items.slots queues kept c.args.queue _ got c.args.number c.in-Some.key (sym c.take.ensures.item ∙ c.in-Some.is))

pub invariant_of-self-2 : goal.invariant_of-self-2
invariant_of-self-2 g c =
    let queues = c.self.inside.queues in
    let three : length queues ≡ 3 = search rules in
    let got = at_queue queues c.args.queue c.index-self-queue.result three c.requires c.index-self-queue.is in
    let room = c.self.invariant.1 in
    let removed = c.remove.ensures in (
      kept_taken c.self.inside.items.slots queues c.self.invariant.0 c.args.queue _ got c.args.number c.in-Some.key (sym c.take.ensures.item ∙ c.in-Some.is) c.take.new.self c.take.ensures.rows c.remove.new.self.slots removed.updates.others removed.len,
      omega (arith, room, removed.len, removed.capacity),
    )

pub returns-clause-item : goal.returns-clause-item
returns-clause-item g c =
    let queues = c.self.inside.queues in
    let three : length queues ≡ 3 = search rules in
    let got = at_queue queues c.args.queue c.index-self-queue.result three c.requires c.index-self-queue.is in
    rw (← c.self.view_is) (sym (item_seen c.self.inside.items.slots queues c.args.queue _ got c.self.invariant.0 c.args.number ∙ ap (item_or c.self.inside.items.slots) (sym c.take.ensures.item ∙ c.in-Some.is) ∙ c.remove.ensures.value))

pub returns-clause-rows : goal.returns-clause-rows
returns-clause-rows g c =
    let queues = c.self.inside.queues in
    let slots = c.self.inside.items.slots in
    let three : length queues ≡ 3 = search rules in
    let got = at_queue queues c.args.queue c.index-self-queue.result three c.requires c.index-self-queue.is in
    rw (← c.self.view_is) (
    rows_put slots queues c.args.queue _ got c.remove.new.self.slots _
    ∙ taken_rows slots queues c.self.invariant.0 c.args.queue _ got c.args.number c.in-Some.key (sym c.take.ensures.item ∙ c.in-Some.is) c.take.new.self c.take.ensures.rows c.remove.new.self.slots c.remove.ensures.updates.others
    ∙ ap (λ (rs : List (ℕ × g.row.T.Denot)). remove_entry (is_number c.args.number) rs) (sym (rows_seen slots queues c.args.queue _ got)))

pub returns-clause-marked : goal.returns-clause-marked
returns-clause-marked g c =
    let queues = c.self.inside.queues in
    let three : length queues ≡ 3 = search rules in
    let got = at_queue queues c.args.queue c.index-self-queue.result three c.requires c.index-self-queue.is in
    rw (← c.self.view_is) (puts_seen c.self.inside.items.slots queues c.args.queue _ got c.remove.new.self.slots _ c.args.number _ c.take.ensures.marked)

pub returns-clause-kept : goal.returns-clause-kept
returns-clause-kept g c =
    let queues = c.self.inside.queues in
    let slots = c.self.inside.items.slots in
    let three : length queues ≡ 3 = search rules in
    let got = at_queue queues c.args.queue c.index-self-queue.result three c.requires c.index-self-queue.is in
    rw (← c.self.view_is) (keeps_but slots queues c.args.queue _ got c.remove.new.self.slots _ c.self.inside.room
    (λ p ne. taken_apart slots queues c.self.invariant.0 c.args.queue _ got c.args.number c.in-Some.key (sym c.take.ensures.item ∙ c.in-Some.is) c.take.new.self c.take.ensures.rows c.remove.new.self.slots c.remove.ensures.updates.others p ne) c.take.ensures.room)
