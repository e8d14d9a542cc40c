use Rattle.std.proofs.Common.{◌≡◌}
use Rattle.nob_cases.specs.Strangers.{strangers}
use Rattle.nob_cases.proofs.transit.answer_all.Given as goal

abbrev pub invariant-loop-case : goal.invariant-loop-case
invariant-loop-case l = strangers l.fn.table.bundles ≡ 0 → strangers l.table.bundles ≡ 0
