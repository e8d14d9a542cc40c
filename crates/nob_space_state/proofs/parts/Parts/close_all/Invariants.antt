use Rattle.std.proofs.Common.{◌≡◌, ◌+◌, ◌-◌, ◌≤◌}
use Rattle.nob_space_state.specs.Closing.{IsShutBelow}
use Rattle.nob_space_state.proofs.parts.Parts.close_all.Given as goal

abbrev pub invariant-loop-p : goal.invariant-loop-p
invariant-loop-p l = record {
  few : (1 ≤ l.p) × (l.p ≤ l.n + 1);
  same : l.self.here.n ≡ l.n;
  shut : IsShutBelow l.p l.self;
}

abbrev pub decreases-loop-p : goal.decreases-loop-p
decreases-loop-p l = l.n + 1 - l.p
