use Rattle.std.proofs.Common.{◌+◌, ◌-◌, ◌≡◌, ◌≤◌, length}
use Rattle.nob_space_state.specs.Births.{life_of}
use Rattle.nob_space_state.specs.Stands.{AreBegun}
use Rattle.nob_space_state.proofs.parts.open_all.Given as goal

abbrev pub invariant-loop-p : goal.invariant-loop-p
invariant-loop-p l = record {
  count : length l.sessions.items + 1 ≡ l.p;
  few : l.p ≤ l.n + 1;
  begun : AreBegun l.me (life_of l.birth).session 1 l.limits l.sessions.items;
}

abbrev pub decreases-loop-p : goal.decreases-loop-p
decreases-loop-p l = l.n + 1 - l.p
