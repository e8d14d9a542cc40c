-- What is written of an input that is refused.
use Rattle.std.specs.Prelude.{ℕ, List, codes}
use Rattle.nob_chain.specs.declared.fault.ChainError.{ChainError}
use Rattle.nob_chain.specs.declared.fault.ChainError.TheVariants.{Fault, OutOfMemory}
use Rattle.nob_chain.specs.declared.fault.ChainFault.TheVariants as faults

-- the fault's name on a line, or the line `memory`
abbrev pub refusal_line : ChainError → List ℕ
refusal_line (Fault faults.Short) = codes "R1\n"
refusal_line (Fault faults.Entry) = codes "R2\n"
refusal_line (Fault faults.Stamp) = codes "R3\n"
refusal_line (Fault faults.Trailing) = codes "R4\n"
refusal_line (Fault faults.Segment) = codes "R6\n"
refusal_line OutOfMemory = codes "memory\n"
