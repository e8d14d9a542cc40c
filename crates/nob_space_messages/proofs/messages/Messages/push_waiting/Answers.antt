use Rattle.std.proofs.Common.{refl, arith, ◌==◌, ◌+◌, ◌<◌, length, filter, ap, sym, subst, ◌∙◌, IsSome, if◌then◌else◌}
use Rattle.nob_slots.specs.Numbers.{IsAboveAll}
use Rattle.nob_slots.specs.Slots.{item_at, PutsMark}
use Rattle.nob_space_messages.specs.Waiting.{is_due, waits_for}
use Rattle.nob_space_messages.specs.Lines.{places_for, times_in}
use Rattle.nob_space_messages.proofs.Carried.{pushed_carried, pushed_few, small}
use Rattle.nob_space_messages.proofs.Pushed.{awaited_more, push_there, pushed}
use Rattle.nob_space_messages.proofs.Stamps.{stamps_below}
use Rattle.nob_queues.specs.Queues.{marked_at, room_at, rows_at}
use Rattle.nob_space_messages.proofs.Unmoved.{carried_kept, counted_kept, ready_kept}
use Rattle.nob_space_messages.proofs.messages.Messages.push_waiting.Goals as goal

pub push-requires-clause-above : goal.push-requires-clause-above
push-requires-clause-above c =
    subst (λ ss. IsAboveAll ss c.self.inside.waits.next) (sym (c.self.invariant.0.stamps c.args.message.from)) (stamps_below c.args.message.from c.self.inside.waits.next (rows_at c.self.inside.queues 0) c.self.invariant.0.above)

pub mark-requires-clause-there : goal.mark-requires-clause-there
mark-requires-clause-there c = subst (λ rs. IsSome (item_at rs c.self.inside.waits.next)) (sym c.push-2.ensures.rows) (push_there c.self.inside.waits.next _ (rows_at c.self.inside.queues 0) c.self.invariant.0.above)

pub invariant_of-self : goal.invariant_of-self
invariant_of-self c =
    let room : length c.args.message.copies < c.self.inside.waits.room = rw (← c.self.view_is) at c.requires.room in (
      pushed c.self.invariant.0 c.args.message c.line_up-waits.new.lines
          (λ r. c.line_up-waits.ensures.counts r ∙ ap (λ copies. places_for c.self.inside.waits.lines r + length (filter (waits_for r) copies)) c.as_slice-copies.ensures)
          (λ r s. c.line_up-waits.ensures.times r s ∙ ap (λ copies. times_in c.self.inside.waits.lines r s + (if c.self.inside.waits.next == s then length (filter (waits_for r) copies) else 0)) c.as_slice-copies.ensures)
          c.line_up-waits.ensures.awaited (rw (← c.self.view_is) at c.requires.new)
          (rows_at c.mark.new.self 0) (marked_at c.mark.new.self 0) (room_at c.mark.new.self 0) c.push.new.self (c.self.inside.waits.next + 1 + length c.as_slice-copies.result.now) c.line_up-waits.result
          (c.mark.ensures.rows ∙ c.push-2.ensures.rows)
          (c.line_up-waits.ensures.count ∙ ap (λ copies. length (filter (λ copy. is_due copy.loan) copies)) c.as_slice-copies.ensures)
          c.push.ensures.numbers
          (subst (λ marked. PutsMark marked (marked_at c.mark.new.self 0) c.self.inside.waits.next (c.line_up-waits.result == 0)) c.push-2.ensures.marked c.mark.ensures.marked)
          (ap (λ copies. c.self.inside.waits.next + 1 + length copies) c.as_slice-copies.ensures)
          room,
      pushed_carried c.self.inside.waits.copies c.count_all.new.counts c.as_slice-copies.result.now (rows_at c.self.inside.queues 0) (rows_at c.mark.new.self 0) c.self.inside.waits.next (record { message = c.args.message; waits = c.line_up-waits.result }) c.self.invariant.1 c.count_all.ensures c.as_slice-copies.ensures (c.mark.ensures.rows ∙ c.push-2.ensures.rows),
      pushed_few c.self.inside.waits.copies c.count_all.new.counts c.as_slice-copies.result.now c.self.inside.waits.next c.self.invariant.2 c.count_all.ensures,
      (λ none. absurd (omega (arith, none))),
      ready_kept c.self.inside.queues c.mark.new.self c.self.inside.ready.lines.links c.self.inside.ready.lines.lanes c.self.inside.ready.froms c.self.inside.ready.next c.self.inside.ready.room (c.mark.ensures.kept.others 1 refl ∙ c.push-2.ensures.others 1 refl) c.self.invariant.4,
      counted_kept c.self.inside.queues c.mark.new.self c.self.inside.ready.lines.lanes (c.mark.ensures.kept.others 2 refl ∙ c.push-2.ensures.others 2 refl) c.self.invariant.5,
    )

pub count_all-requires : goal.count_all-requires
count_all-requires c =
    let room : length c.args.message.copies < c.self.inside.waits.room = rw (← c.self.view_is) at c.requires.room in
    let here : length c.as_slice-copies.result.now < c.self.inside.waits.room = subst (λ copies. length copies < c.self.inside.waits.room) (sym c.as_slice-copies.ensures) room in
    record { small = small c.self.inside.waits.copies c.as_slice-copies.result.now c.self.inside.waits.next c.self.inside.waits.room c.self.invariant.2 c.self.invariant.0.small here }

pub returns-clause-awaited : goal.returns-clause-awaited
returns-clause-awaited c r =
    rw (← c.self.view_is) (awaited_more c.self.invariant.0 c.args.message c.line_up-waits.new.lines
    (λ r. c.line_up-waits.ensures.counts r ∙ ap (λ copies. places_for c.self.inside.waits.lines r + length (filter (waits_for r) copies)) c.as_slice-copies.ensures)
    (λ r s. c.line_up-waits.ensures.times r s ∙ ap (λ copies. times_in c.self.inside.waits.lines r s + (if c.self.inside.waits.next == s then length (filter (waits_for r) copies) else 0)) c.as_slice-copies.ensures)
    c.line_up-waits.ensures.awaited (rw (← c.self.view_is) at c.requires.new) r)
