-- What is written of an input that is refused.
use Rattle.std.specs.Prelude.{ℕ, List, codes}
use Rattle.nob_trace.specs.declared.fault.TraceFault.TheVariants as faults
use Rattle.nob_trace.specs.declared.fault.TraceError.{TraceError}
use Rattle.nob_trace.specs.declared.fault.TraceError.TheVariants.{Fault, OutOfMemory}

-- the fault's name on a line, or that memory ran out
abbrev pub refusal_line : TraceError → List ℕ
refusal_line (Fault faults.Short) = codes "R1\n"
refusal_line (Fault faults.Entry) = codes "R2\n"
refusal_line (Fault faults.Stamp) = codes "R3\n"
refusal_line (Fault faults.Trailing) = codes "R4\n"
refusal_line (Fault faults.Version) = codes "R5\n"
refusal_line OutOfMemory = codes "memory\n"
