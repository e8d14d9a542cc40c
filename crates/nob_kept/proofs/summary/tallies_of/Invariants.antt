use Rattle.std.proofs.Common.{◌≡◌, ◌-◌}
use Rattle.nob_kept.specs.Segments as segments
use Rattle.nob_kept.specs.Summaries as summaries
use Rattle.nob_kept.proofs.summary.tallies_of.Given as goal

abbrev pub invariant-loop-number : goal.invariant-loop-number
invariant-loop-number l = l.tallies.items ≡ summaries.tallies_among l.kept (segments.spaces_to (l.number - 1))
