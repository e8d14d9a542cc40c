use Rattle.std.proofs.Common.{◌≡◌, ℕ, ◌<◌, true, false, get_or}
use Rattle.nob_kept.proofs.closing.are_all_set.Given as goal

abbrev pub invariant-loop-mark : goal.invariant-loop-mark
invariant-loop-mark l = (place : ℕ) → place < l.mark-index → get_or l.marks place false ≡ true
