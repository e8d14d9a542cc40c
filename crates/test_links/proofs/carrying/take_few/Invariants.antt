use Rattle.std.proofs.Common.{◌≡◌, ◌-◌, vec_len, vec_capacity}
use Rattle.test_links.proofs.carrying.take_few.Given as goal

abbrev pub invariant-loop-take : goal.invariant-loop-take
invariant-loop-take g l = (l.take.link ≡ l.fn.take.link) × (l.take.taken ≡ l.room.items)

abbrev pub decreases-loop-take : goal.decreases-loop-take
decreases-loop-take g l = vec_capacity l.room - vec_len l.room
