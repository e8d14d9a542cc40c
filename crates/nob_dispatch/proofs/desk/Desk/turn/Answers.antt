use Rattle.nob_dispatch.proofs.Givings.{rests}
use Rattle.nob_dispatch.proofs.desk.Desk.turn.Goals as goal

pub returns-then-is_some-clause-given : goal.returns-then-is_some-clause-given
returns-then-is_some-clause-given g c =
    let idle = rests c.take_back.new.self in
    (c.take_back.new.self, c.take_back.ensures.back, idle.0, idle.1)

pub returns-then-self-ge-MAX_AWAY-clause-given : goal.returns-then-self-ge-MAX_AWAY-clause-given
returns-then-self-ge-MAX_AWAY-clause-given g c =
    let idle = rests c.take_back.new.self in
    (c.take_back.new.self, c.take_back.ensures.back, idle.0, idle.1)
