use Rattle.std.proofs.Common.{◌≡◌, ◌++◌, map, take, drop}
use Rattle.nob_model_work.specs.Work.{run_after}
use Rattle.nob_check_ledgers.proofs.lending.run_loans.Given as goal

-- the runs so far have their loans, the others are as they were
abbrev pub invariant-loop-run : goal.invariant-loop-run
invariant-loop-run l = l.run-items ≡ map (λ run. run_after l.past.here.space l.past.here.n l.past.deeds run) (take l.run-index l.fn.runs) ++ drop l.run-index l.fn.runs
