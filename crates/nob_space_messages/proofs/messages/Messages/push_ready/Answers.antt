use Rattle.std.proofs.Common.{◌≡◌, ◌<◌, ◌≤◌, ◌+◌, ℕ, min, sym, ap, subst, refl, arith, ◌∙◌}
use Rattle.nob_queues.specs.Queues.{rows_at}
use Rattle.nob_slots.specs.Numbers.{IsAboveAll}
use Rattle.nob_space_messages.specs.Lines.{items_of}
use Rattle.nob_space_messages.proofs.Beside.{links_above}
use Rattle.nob_space_messages.proofs.Jobs.{counted_same, ready_pushed}
use Rattle.nob_space_messages.proofs.Stamps.{stamps_below}
use Rattle.nob_space_messages.proofs.Unmoved.{carried_kept, counted_kept, roomless, waiting_kept}
use Rattle.nob_space_messages.proofs.messages.Messages.push_ready.Goals as goal

pub push-requires-clause-above : goal.push-requires-clause-above
push-requires-clause-above c = links_above c.self.inside.ready.lines.links.rows c.self.inside.ready.lines.links.rows (rows_at c.self.inside.queues 1) c.self.invariant.4.targets c.self.inside.ready.next c.self.invariant.4.below

pub push-requires-2-clause-above : goal.push-requires-2-clause-above
push-requires-2-clause-above c = subst (λ ns. IsAboveAll ns c.self.inside.ready.next) (sym (c.self.invariant.4.froms c.args.message.from)) (stamps_below c.args.message.from c.self.inside.ready.next (rows_at c.self.inside.queues 1) c.self.invariant.4.below)

pub invariant_of-self : goal.invariant_of-self
invariant_of-self c =
    let queues = c.self.inside.queues in
    let new = c.push-3.new.self in
    let room : 0 < min c.self.inside.ready.room queues.room = rw (← c.self.view_is) at c.requires in
    let some : 0 < c.self.inside.ready.room = omega (arith, room) in (
      roomless (waiting_kept queues new c.self.inside.waits.froms c.self.inside.waits.lines c.self.inside.waits.next c.self.inside.waits.room (c.push-3.ensures.others 0 refl) c.self.invariant.0),
      carried_kept queues new c.self.inside.waits.copies (c.push-3.ensures.others 0 refl) c.self.invariant.1,
      c.self.invariant.2,
      (λ none. absurd (omega (arith, none))),
      ready_pushed c.self.invariant.4 (record { message = c.args.message; waits = 0 }) c.target_of.result (rows_at new 1) _ c.push.new.self.links c.push.new.self.lanes c.push-2.new.self c.push-3.ensures.rows some c.target_of.ensures c.push.ensures.targets c.push.ensures.lines c.push-2.ensures.numbers
          (omega (arith, c.push-3.ensures.queue_room)) c.push.ensures.links_room c.push.ensures.lanes_room c.push-2.ensures.room,
      counted_kept queues new c.push.new.self.lanes (c.push-3.ensures.others 2 refl) (counted_same c.self.inside.ready.lines.lanes c.push.new.self.lanes (rows_at queues 2) c.self.invariant.5 c.push.ensures.runs),
    )
