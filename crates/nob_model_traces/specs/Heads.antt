-- Which entry comes next where some entries of each trace were passed: the earliest of the first ones that are left.
use Rattle.std.specs.Prelude.{ℕ, ◌+◌, ◌<◌, ◌^◌, List, [], ◌∷◌, length, slice_get, Option, Some, None, if◌then◌else◌}
use Rattle.nob_trace.specs.declared.stamped.Stamped.{Stamped}
use Rattle.nob_trace.specs.declared.trace.Trace.{Trace}
use Rattle.nob_model_traces.specs.declared.moment.Moment.{Moment}
use Rattle.nob_model_traces.specs.declared.merging.Head.{Head}
use Rattle.nob_model_traces.specs.Merged.{is_earlier}

-- when an entry of a trace of space s was made
abbrev pub moment_at : ℕ → Stamped → Moment
moment_at s stamped = record { stamp = stamped.stamp; space = s }

-- an entry as the first that is left of the trace at this place among all
abbrev pub head_at : (index s : ℕ) → Option Stamped → Option Head
head_at index s None = None
head_at index s (Some stamped) = Some (record { index = index; moment = moment_at s stamped })

-- the first that is left of a trace once so many were passed
abbrev pub head_of : ℕ → Trace → ℕ → Option Head
head_of index trace place = head_at index trace.space (slice_get trace.entries place)

-- the earlier of two
abbrev pub earlier_of : Option Head → Option Head → Option Head
earlier_of None other = other
earlier_of (Some one) None = Some one
earlier_of (Some one) (Some other) = if is_earlier other.moment one.moment then Some other else Some one

-- the earliest of all that are left, of traces that are counted from this index on
abbrev pub next_of : ℕ → List Trace → List ℕ → Option Head
next_of index [] places = None
next_of index (trace ∷ traces) [] = None
next_of index (trace ∷ traces) (place ∷ places) = earlier_of (head_of index trace place) (next_of (index + 1) traces places)

-- so many traces can be counted from this index on
abbrev pub IsIndex : ℕ → List Trace → Type 0
IsIndex index traces = index + length traces < 2 ^ 64
