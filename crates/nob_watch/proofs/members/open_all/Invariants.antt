use Rattle.std.proofs.Common.{◌≡◌, ◌≤◌, ◌+◌, ◌-◌, ℕ, [], Some, length, slice_get}
use Rattle.nob_space.specs.Spaces.{Owner}
use Rattle.nob_watch.specs.Members.{IsMember}
use Rattle.nob_watch.proofs.members.open_all.Given as goal

-- the spaces below this one are there, and did nothing
abbrev pub invariant-loop-p : goal.invariant-loop-p
invariant-loop-p l = record {
  count : length l.spaces.items + 1 ≡ l.p;
  few : l.p ≤ l.n + 1;
  stand : (place : ℕ) (space : Owner) → slice_get l.spaces.items place ≡ Some space → IsMember l.n l.limits [] (place + 1) space;
}

abbrev pub decreases-loop-p : goal.decreases-loop-p
decreases-loop-p l = l.n + 1 - l.p
