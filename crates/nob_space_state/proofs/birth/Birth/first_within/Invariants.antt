use Rattle.std.proofs.Common.{◌≡◌, ℕ, ◌+◌, ◌-◌, ◌<◌, ◌≤◌, true, false}
use Rattle.nob_model_session.specs.End.{last_session}
use Rattle.nob_model_types.specs.Sessions.{is_peer}
use Rattle.nob_space_state.specs.Births.{is_within, life_of}
use Rattle.nob_space_state.proofs.birth.Birth.first_within.Given as goal

abbrev pub invariant-loop-p : goal.invariant-loop-p
invariant-loop-p l = record {
  low : 1 ≤ l.p;
  few : l.p ≤ l.here.n + 1;
  numbers : (q : ℕ) → is_peer l.here.space l.here.n q ≡ true → q < l.p → (life_of l.self).session q ≤ last_session;
  none : (q : ℕ) → is_peer l.here.space l.here.n q ≡ true → q < l.p → is_within (life_of l.self) l.low l.high q ≡ false;
}

abbrev pub decreases-loop-p : goal.decreases-loop-p
decreases-loop-p l = l.here.n + 1 - l.p
