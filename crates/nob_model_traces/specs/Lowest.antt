-- The wrong entry of the lowest space.
use Rattle.std.specs.Prelude.{ℕ, nat_lt, List, Option, Some, None, if◌then◌else◌}
use Rattle.std.specs.List.{AllByRecursion}
use Rattle.nob_trace.specs.declared.trace.Trace.{Trace}
use Rattle.nob_model_traces.specs.declared.fault.WrongEntry.{WrongEntry}
use Rattle.nob_model_traces.specs.Faults.{IsFirstNoRun}

-- the wrong entry of the lower space, of that at a place of space s and another one
abbrev pub lower_of : ℕ → Option ℕ → Option WrongEntry → Option WrongEntry
lower_of s None other = other
lower_of s (Some place) None = Some (record { space = s; place = place })
lower_of s (Some place) (Some found) = if nat_lt found.space s then Some found else Some (record { space = s; place = place })

-- this is the wrong entry of the lowest space of traces, or there is none and this holds of each
abbrev pub IsLowest : (Trace → Type 0) → List Trace → Option WrongEntry → Type 0
IsLowest holds traces None = AllByRecursion holds traces
IsLowest holds traces (Some wrong) = IsFirstNoRun traces wrong.space wrong.place
