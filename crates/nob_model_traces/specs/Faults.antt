-- What is wrong with traces: the first of C4, C1, C2 and C3, with its space and place. Places count from 1.
use Rattle.std.specs.Prelude.{◌≡◌, ◌<◌, ℕ, true, false, List, Result, Ok, Err}
use Rattle.std.specs.List.{AllByRecursion, Contains}
use Rattle.nob_model_types.specs.declared.entry.Entry.{Entry}
use Rattle.nob_trace.specs.declared.trace.Trace.{Trace}
use Rattle.nob_model_traces.specs.declared.fault.CheckFault.{CheckFault}
use Rattle.nob_model_traces.specs.declared.fault.CheckFault.TheVariants as faults
use Rattle.nob_model_traces.specs.declared.fault.CheckError.{CheckError}
use Rattle.nob_model_traces.specs.declared.fault.CheckError.TheVariants.{Fault, OutOfMemory}
use Rattle.nob_model_traces.specs.Traces.{IsRightTrace, IsFirstWrong, are_one_each}
use Rattle.nob_model_traces.specs.Merged.{IsMerged}
use Rattle.nob_model_traces.specs.Origins.{HaveOrigins, IsOriginFault}

-- the entry at this place of this space is the first wrong one of its trace, and the traces of all lower spaces are right
pub record IsFirstNoRun (traces : List Trace) (space place : ℕ) : Type 0 where
  pub trace : Trace
  pub is_there : Contains traces trace
  pub space_is : trace.space ≡ space
  pub wrong : IsFirstWrong trace place
  pub lower : AllByRecursion (λ other. other.space < space → IsRightTrace other) traces

-- traces that belong together, each of which is right
pub record AreRuns (traces : List Trace) : Type 0 where
  pub one_each : are_one_each traces ≡ true
  pub right : AllByRecursion IsRightTrace traces

-- this is what the first arrival without an origin is refused for, of the entries of traces that belong together and are right
pub record IsLost (traces : List Trace) (fault : CheckFault) : Type 0 where
  pub runs : AreRuns traces
  pub merged : List Entry
  pub is_merged : IsMerged traces merged
  pub lost : IsOriginFault merged fault

-- this is wrong with traces: they don't belong together; else a result isn't right; else a frame arrives that no entry transmitted, or none before it
abbrev pub IsFault : List Trace → CheckFault → Type 0
IsFault traces faults.Set = are_one_each traces ≡ false
IsFault traces (faults.NotARun space place) = (are_one_each traces ≡ true) × IsFirstNoRun traces space place
IsFault traces (faults.NoOrigin space place) = IsLost traces (faults.NoOrigin space place)
IsFault traces (faults.Stamp space place) = IsLost traces (faults.Stamp space place)

-- nothing is wrong with traces, and these are their entries in order of stamp, ties by space
pub record AreAccepted (traces : List Trace) (merged : List Entry) : Type 0 where
  pub runs : AreRuns traces
  pub is_merged : IsMerged traces merged
  pub origins : HaveOrigins merged

-- the merged entries of accepted traces, or what is wrong, unless memory ran out
abbrev pub IsChecked : {X : Type 0} → (X → List Entry) → List Trace → Result X CheckError → Type 0
IsChecked entries_of traces (Ok merged) = AreAccepted traces (entries_of merged)
IsChecked entries_of traces (Err (Fault fault)) = IsFault traces fault
IsChecked entries_of traces (Err OutOfMemory) = Unit {0}
