use Rattle.std.proofs.Common.{◌≤◌, ℕ, sym, ap, subst, ◌∙◌}
use Rattle.nob_trace.specs.Stamps.{last_stamp}
use Rattle.nob_kept.specs.Accounts.{last_stamped}
use Rattle.nob_kept.proofs.Trails.{next_of, trail_same}
use Rattle.nob_kept.proofs.trail.enter.Goals as goal

pub answer-requires-clause-low : goal.answer-requires-clause-low
answer-requires-clause-low c =
    let same = c.room_for_next.ensures.same in
    let its = trail_same c.args.space.now c.args.trail.now c.room_for_next.new.trail c.requires.trail same in
    subst (λ (last : ℕ). last ≤ last_stamped) (sym (its.last ∙ ap (last_stamp 0) same.1.0)) c.requires.low

pub add-passed-requires-clause-next : goal.add-passed-requires-clause-next
add-passed-requires-clause-next c =
    let told = c.in_ok-entry.ensures {u = tt} in
    let its = trail_same c.args.space.now c.args.trail.now c.room_for_next.new.trail c.requires.trail c.room_for_next.ensures.same in
    next_of c.args.space.now c.answer.new.space c.room_for_next.new.trail c.in_ok-entry.entry c.args.event.now c.args.seen its told.same told.stamp told.event told.answer told.stands
