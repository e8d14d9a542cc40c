use Rattle.std.proofs.Common.{◌≡◌, ◌<◌, ◌++◌, ℕ, Option, Some, length, sym, ap, subst, refl, arith, ◌∙◌}
use Rattle.std.proofs.lemmas.List.{append-nil}
use Rattle.std.specs.Option.{option_copied}
use Rattle.nob_queues.specs.Queues.{marked_at, room_at, row_if, rows_at}
use Rattle.nob_slots.specs.Numbers.{IsAboveAll}
use Rattle.nob_slots.specs.Slots.{IsAbove, IsRising, item_at}
use Rattle.nob_space_messages.specs.declared.entry.Entry.{Entry}
use Rattle.nob_space_messages.specs.Lines.{AreMarked, items_of, stamps_from}
use Rattle.nob_space_messages.specs.Messages.{if_any}
use Rattle.nob_space_messages.proofs.Beside.{links_above}
use Rattle.nob_space_messages.proofs.Carried.{fewer_few, removed_carried, some}
use Rattle.nob_space_messages.proofs.Found.{fewer, first_found, first_none, removed_below, removed_found, removed_rising}
use Rattle.nob_space_messages.proofs.Jobs.{counted_same, items_more, ready_pushed}
use Rattle.nob_space_messages.proofs.Stamps.{marked_removed, stamps_below, stamps_taken}
use Rattle.nob_space_messages.proofs.Unmoved.{counted_kept}
use Rattle.nob_space_messages.proofs.messages.Messages.settle.Goals as goal

pub push-requires-clause-above : goal.push-requires-clause-above
push-requires-clause-above c = links_above c.self.inside.ready.lines.links.rows c.self.inside.ready.lines.links.rows (rows_at c.self.inside.queues 1) c.self.invariant.4.targets c.self.inside.ready.next c.self.invariant.4.below

pub uncount_all-requires : goal.uncount_all-requires
uncount_all-requires c = record {
  some = some c.self.inside.waits.copies c.as_slice.result.now (rows_at c.self.inside.queues 0) c.in-Some.stamp c.in-Some-get.entry.now c.self.invariant.1 (sym c.get.ensures ∙ ap option_copied c.in-Some-get.is) c.as_slice.ensures;
}

pub push-requires-2-clause-above : goal.push-requires-2-clause-above
push-requires-2-clause-above c = subst (λ ns. IsAboveAll ns c.self.inside.ready.next) (sym (c.self.invariant.4.froms c.in-Some-get.entry.now.message.from)) (stamps_below c.in-Some-get.entry.now.message.from c.self.inside.ready.next (rows_at c.self.inside.queues 1) c.self.invariant.4.below)

pub invariant_of-self : goal.invariant_of-self
invariant_of-self c =
    let queues = c.self.inside.queues in
    let new = c.shift.new.self in
    let n = c.in-Some.stamp in
    let rows = rows_at queues 0 in
    let entry = c.in-Some-get.entry.now in
    let found : item_at rows n ≡ Some entry = sym c.get.ensures ∙ ap option_copied c.in-Some-get.is in
    let room : 0 < c.self.inside.ready.room = rw (← c.self.view_is) at c.requires in
    let are = c.self.invariant.0 in (
      fewer are (rows_at new 0) (marked_at new 0) (room_at new 0) c.take.new.self
          (subst IsRising (sym c.shift.ensures.from) (removed_rising n rows are.rising))
          (subst (λ rs. IsAbove rs c.self.inside.waits.next) (sym c.shift.ensures.from) (removed_below n c.self.inside.waits.next rows are.above))
          (λ s x there. (removed_found n rows are.rising s x (sym (ap (λ rs. item_at rs s) c.shift.ensures.from) ∙ there)).0)
          (subst (λ rs. AreMarked rs (marked_at new 0)) (sym c.shift.ensures.from) (marked_removed n rows (marked_at queues 0) (marked_at new 0) are.rising are.marks c.shift.ensures.marked))
          (λ peer. stamps_taken c.self.inside.waits.froms c.take.new.self rows n entry are.stamps are.rising found c.take.ensures.numbers peer ∙ ap (stamps_from peer) (sym c.shift.ensures.from))
          c.shift.ensures.queue_room c.take.ensures.room,
      removed_carried c.self.inside.waits.copies c.as_slice.result.now rows n entry c.self.invariant.1 found c.as_slice.ensures c.uncount_all.new.counts (rows_at new 0) c.uncount_all.ensures c.shift.ensures.from,
      fewer_few c.self.inside.waits.copies c.uncount_all.new.counts c.as_slice.result.now c.self.inside.waits.next c.self.invariant.2 c.uncount_all.ensures,
      (λ more. let had = c.self.invariant.3 more in omega (arith, had, c.shift.ensures.room)),
      ready_pushed c.self.invariant.4 entry c.target_of.result (rows_at new 1) (room_at new 1) c.push.new.self.links c.push.new.self.lanes c.push-2.new.self (c.shift.ensures.to ∙ ap (λ o. rows_at queues 1 ++ row_if c.self.inside.ready.next o) found) room c.target_of.ensures c.push.ensures.targets c.push.ensures.lines c.push-2.ensures.numbers
          (let used = ap (λ (o : Option Entry). length (row_if c.self.inside.ready.next o)) found in omega (arith, used, c.shift.ensures.room_to)) c.push.ensures.links_room c.push.ensures.lanes_room c.push-2.ensures.room,
      counted_kept queues new c.push.new.self.lanes (c.shift.ensures.others 2 refl refl) (counted_same c.self.inside.ready.lines.lanes c.push.new.self.lanes (rows_at queues 2) c.self.invariant.5 c.push.ensures.runs),
    )

pub returns-in_default-clause-items : goal.returns-in_default-clause-items
returns-in_default-clause-items c = rw (← c.self.view_is) (sym ((first_none c.self.invariant.0 c.in_default.ensures.first).1))

pub returns-in_default-clause-ready : goal.returns-in_default-clause-ready
returns-in_default-clause-ready c = rw (← c.self.view_is) (sym (append-nil _) ∙ ap (λ o. items_of (rows_at c.self.inside.queues 1) ++ if_any o) (sym ((first_none c.self.invariant.0 c.in_default.ensures.first).0)))

pub returns-clause-items : goal.returns-clause-items
returns-clause-items c = rw (← c.self.view_is) (ap items_of c.shift.ensures.from ∙ sym ((first_found c.self.invariant.0 c.in-Some.stamp c.in-Some-get.entry.now c.in-Some.ensures.first (sym c.get.ensures ∙ ap option_copied c.in-Some-get.is)).1))

pub returns-clause-ready : goal.returns-clause-ready
returns-clause-ready c =
    let found = sym c.get.ensures ∙ ap option_copied c.in-Some-get.is in
    let first = (first_found c.self.invariant.0 c.in-Some.stamp c.in-Some-get.entry.now c.in-Some.ensures.first found).0 in
    rw (← c.self.view_is) (ap items_of (c.shift.ensures.to ∙ ap (λ o. rows_at c.self.inside.queues 1 ++ row_if c.self.inside.ready.next o) found)
    ∙ items_more c.self.inside.ready.next c.in-Some-get.entry.now (rows_at c.self.inside.queues 1) ∙ ap (λ o. items_of (rows_at c.self.inside.queues 1) ++ if_any o) (sym first))
