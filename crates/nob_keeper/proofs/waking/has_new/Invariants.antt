use Rattle.std.proofs.Common.{◌≡◌, ◌≤◌, ◌<◌, ℕ, false}
use Rattle.nob_keeper.specs.Waking.{is_new_to}
use Rattle.nob_keeper.proofs.waking.has_new.Given as goal

abbrev pub invariant-loop-number : goal.invariant-loop-number
invariant-loop-number l = (peer : ℕ) → 1 ≤ peer → peer < l.number → is_new_to l.kept peer ≡ false
