use Rattle.std.proofs.Common.{◌≡◌, ℕ, ◌+◌, ◌++◌, List, drop}
use Rattle.nob_trace.specs.declared.stamped.Stamped.{Stamped}
use Rattle.nob_trace.specs.declared.trace.Trace.{Trace}
use Rattle.nob_chain_check.specs.Running.{HasAnswered}
use Rattle.nob_chain_check.proofs.running.first_wrong_entry.Given as goal

-- the space answered the entries so far
abbrev pub invariant-loop-place : goal.invariant-loop-place
invariant-loop-place l = (trace : Trace) (passed : ℕ) (rest : List Stamped) → HasAnswered trace passed l.initial.space → drop passed trace.entries ≡ l.entries ++ rest → HasAnswered trace (passed + l.place) l.space
