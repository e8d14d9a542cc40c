-- A trace run again on a space.
use Rattle.std.specs.Prelude.{◌≡◌, ℕ, List, []}
use Rattle.std.specs.List.{AllByRecursion}
use Rattle.nob_ids.specs.declared.limits.Limits.{Limits}
use Rattle.nob_model_invariant.specs.Typed.{AreOfTypes}
use Rattle.nob_space.specs.Spaces.{Owner, StandsFor}
use Rattle.nob_trace.specs.declared.trace.Trace.{Trace}
use Rattle.nob_model_traces.specs.Traces.{IsRightTrace, journal_at}

-- a space is the trace's own, by its number, the number of spaces and its limits, and did nothing
pub record IsNewOf (trace : Trace) (space : Owner) : Type 0 where
  pub id : space.id ≡ trace.space
  pub n : space.n ≡ trace.n
  pub limits : space.limits ≡ trace.limits
  pub stands : StandsFor space []

-- a trace in which each result is right and what was handed on is of its types
pub record IsRightAndTyped (trace : Trace) : Type 0 where
  pub right : IsRightTrace trace
  pub typed : AreOfTypes (journal_at trace.space trace.entries)

-- these are the limits of each trace's space
abbrev pub HaveLimits : (ℕ → Limits) → List Trace → Type 0
HaveLimits limits traces = AllByRecursion (λ trace. limits trace.space ≡ trace.limits) traces
