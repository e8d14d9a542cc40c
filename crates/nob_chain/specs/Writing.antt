-- What the writer of chains answers.
use Rattle.std.specs.Prelude.{◌≡◌, Option, Some, None, Result, Ok, Err}
use Rattle.std.specs.List.{AllByRecursion}
use Rattle.nob_frame.specs.declared.version.Version.TheVariants.{Two}
use Rattle.nob_trace.specs.Entries.{HasSpelling}
use Rattle.nob_chain.specs.declared.seal.Seal.{Seal}
use Rattle.nob_chain.specs.declared.segment.Segment.{Segment}
use Rattle.nob_chain.specs.declared.chain.ChainParts.{ChainParts}
use Rattle.nob_chain.specs.declared.fault.ChainFault.TheVariants as faults
use Rattle.nob_chain.specs.declared.fault.ChainError.{ChainError}
use Rattle.nob_chain.specs.declared.fault.ChainError.TheVariants.{Fault, OutOfMemory}

-- there is a seal
abbrev pub HasSeal : Option Seal → Type 0
HasSeal None = ⊥
HasSeal (Some seal) = Unit {0}

-- each frame of a segment has a spelling of version 2, and the segment has a seal
abbrev pub IsSpeakable : Segment → Type 0
IsSpeakable segment = AllByRecursion (HasSpelling Two) segment.entries × HasSeal segment.seal

-- a chain that can be written
abbrev pub IsWritable : ChainParts → Type 0
IsWritable chain = AllByRecursion IsSpeakable chain.segments

-- it is R2, and not all have a spelling; or memory ran out
abbrev pub Refuses : Type 0 → ChainError → Type 0
Refuses HaveAll (Fault fault) = (fault ≡ faults.Entry) × (HaveAll → ⊥)
Refuses HaveAll OutOfMemory = Unit {0}

-- where all have spellings it is written as it should be, and else it is R2, unless memory runs out
abbrev pub Writes : {X : Type 0} → (X → Type 0) → Type 0 → Result X ChainError → Type 0
Writes IsRight HaveAll (Ok x) = HaveAll × IsRight x
Writes IsRight HaveAll (Err e) = Refuses HaveAll e
