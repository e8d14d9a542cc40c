-- What the writers of traces answer.
use Rattle.std.specs.Prelude.{◌≡◌, true, false, Result, Ok, Err}
use Rattle.nob_trace.specs.declared.fault.TraceFault.{TraceFault}
use Rattle.nob_trace.specs.declared.fault.TraceFault.TheVariants as faults
use Rattle.nob_trace.specs.declared.fault.TraceError.{TraceError}
use Rattle.nob_trace.specs.declared.fault.TraceError.TheVariants.{Fault, OutOfMemory}
use Rattle.nob_trace.specs.declared.trace.Trace.{Trace}
use Rattle.nob_trace.specs.Traces.{IsWritable}
use Rattle.nob_trace.specs.Sessions.{is_known}

-- it is R2, and not all have a spelling; or memory ran out
abbrev pub Refuses : Type 0 → TraceError → Type 0
Refuses HaveAll (Fault fault) = (fault ≡ faults.Entry) × (HaveAll → ⊥)
Refuses HaveAll OutOfMemory = Unit {0}

-- where all have spellings it is written as it should be, and else it is R2, unless memory runs out
abbrev pub Writes : {X : Type 0} → (X → Type 0) → Type 0 → Result X TraceError → Type 0
Writes IsRight HaveAll (Ok x) = HaveAll × IsRight x
Writes IsRight HaveAll (Err e) = Refuses HaveAll e

-- why a trace isn't written: R5 where its version can't speak of all its entries, and R2 where it can, and a frame has no spelling
abbrev pub WritingFault : Trace → TraceFault → Type 0
WritingFault trace faults.Version = is_known trace ≡ false
WritingFault trace faults.Entry = (is_known trace ≡ true) × (IsWritable trace → ⊥)
WritingFault trace fault = ⊥
