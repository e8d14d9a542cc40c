use Rattle.std.proofs.Common.{◌≡◌, IsSome, None, sym}
use Rattle.nob_space_messages.specs.Lanes.{lane_at}
use Rattle.nob_space_messages.proofs.lanes.Lanes.set.Goals as goal
use Rattle.nob_space_messages.proofs.lanes.Lanes.set.Goals.{in-Some, in_default}

pub returns-clause-puts : goal.returns-clause-puts
returns-clause-puts c =
    let there : IsSome (lane_at c.self.inside.map.entries c.args.target) = rw (← c.self.view_is) at c.requires in
    elim c.match-get_mut.branch [
      | in-Some w ↦ rw (← c.self.view_is, w.self-inside-is) (((c.get_mut.follows.holds c.args.lane).3 there).0)
      | in_default w ↦
          let none : lane_at c.self.inside.map.entries c.args.target ≡ None = sym (rw w.in_default.is at c.get_mut.ensures.value) in
          let bad = rw none at there in absurd (cc)
    ]
