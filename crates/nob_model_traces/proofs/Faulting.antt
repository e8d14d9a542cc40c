-- What traces are refused for.
use Rattle.std.proofs.Common.{List}
use Rattle.nob_model_types.specs.declared.entry.Entry.{Entry}
use Rattle.nob_trace.specs.declared.trace.Trace.{Trace}
use Rattle.nob_model_traces.specs.Merged.{IsMerged}
use Rattle.nob_model_traces.specs.declared.fault.CheckFault.{CheckFault}
use Rattle.nob_model_traces.specs.declared.fault.CheckFault.TheVariants as faults
use Rattle.nob_model_traces.specs.Origins.{IsOriginFault, IsRefusedFor}
use Rattle.nob_model_traces.specs.Faults.{AreRuns, IsFault}

-- an arrival without an origin is refused for C2 or C3 alone
pub lost : (traces : List Trace) (merged : List Entry) (fault : CheckFault) → AreRuns traces → IsMerged traces merged → IsOriginFault merged fault → IsFault traces fault
lost traces merged (faults.NoOrigin s p) runs is fault = record { runs = runs; merged = merged; is_merged = is; lost = fault }
lost traces merged (faults.Stamp s p) runs is fault = record { runs = runs; merged = merged; is_merged = is; lost = fault }
lost traces merged faults.Set runs is (space, place, frame, alone, IsRefusedFor.nowhere none same) = absurd cc
lost traces merged faults.Set runs is (space, place, frame, alone, IsRefusedFor.later given same) = absurd cc
lost traces merged (faults.NotARun s p) runs is (space, place, frame, alone, IsRefusedFor.nowhere none same) = absurd cc
lost traces merged (faults.NotARun s p) runs is (space, place, frame, alone, IsRefusedFor.later given same) = absurd cc
