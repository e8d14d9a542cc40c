use Rattle.std.proofs.Common.{◌≡◌, length, ap, arith}
use Rattle.nob_table.proofs.Kept.{far_grown}
use Rattle.nob_table.proofs.far.Far.reserve.Goals as goal

pub invariant_of-self-in_err-reserve-3 : goal.invariant_of-self-in_err-reserve-3
invariant_of-self-in_err-reserve-3 c = record {
  far =
      let far = c.self.invariant.far in
      let order = c.reserve-3.ensures in
      let slots : length c.reserve-3.new.self.slots.items ≡ length c.self.inside.order.slots.items = ap length order.slots in
      let before : length c.reserve-3.new.self.before.items ≡ length c.self.inside.order.before.items = ap length order.before in
      far_grown c.self.inside.counted c.self.inside.surrogates c.self.inside.dirties c.self.inside.order c.self.inside.room far c.reserve.new.self c.reserve-2.new.self c.reserve-3.new.self c.self.inside.room
      c.reserve.ensures.rows c.reserve-2.ensures.rows c.reserve-2.ensures.kept order.slots order.before order.ends order.idle order.spare
      (omega (arith, c.reserve.ensures.room, far.counted_room)) (omega (arith, c.reserve-2.ensures.room, far.surrogates_room)) (omega (arith, slots, order.slots_room, far.slots_room))
      (omega (arith, before, order.before_room, far.before_room)) (omega (arith, slots, order.idle_room, far.idle_room)) (omega (arith, slots, order.spare_room, far.spare_room));
  few = rw (c.reserve-3.ensures.slots, c.reserve-2.ensures.rows) c.self.invariant.few;
}

pub invariant_of-self-2 : goal.invariant_of-self-2
invariant_of-self-2 c = record {
  far =
      far_grown c.self.inside.counted c.self.inside.surrogates c.self.inside.dirties c.self.inside.order c.self.inside.room c.self.invariant.far c.reserve.new.self c.reserve-2.new.self c.reserve-3.new.self c.args.surrogates
      c.reserve.ensures.rows c.reserve-2.ensures.rows c.reserve-2.ensures.kept c.reserve-3.ensures.slots c.reserve-3.ensures.before c.reserve-3.ensures.ends c.reserve-3.ensures.idle c.reserve-3.ensures.spare
      c.in_ok-reserve.ensures.ok c.in_ok-reserve-2.ensures.ok c.in_ok-reserve-3.ensures.slots_ok c.in_ok-reserve-3.ensures.before_ok c.in_ok-reserve-3.ensures.idle_ok c.in_ok-reserve-3.ensures.spare_ok;
  few = rw (c.reserve-3.ensures.slots, c.reserve-2.ensures.rows) c.self.invariant.few;
}
