-- The one spelling of each chain, and what its type keeps.
use Rattle.std.specs.Prelude.{ℕ, suc, ◌<◌, ◌^◌, List, [], ◌∷◌, ◌++◌, length, codes, Option, Some, None}
use Rattle.std.specs.List.{AllByRecursion}
use Rattle.std.specs.Fmt.{decimal}
use Rattle.nob_ids.specs.Names.{IsSpace}
use Rattle.nob_frame.specs.declared.version.Version.TheVariants.{Two}
use Rattle.nob_model_reading.specs.Scripts.{limits_text, AreLimits}
use Rattle.nob_trace.specs.declared.stamped.Stamped.{Stamped}
use Rattle.nob_trace.specs.declared.trace.Trace.{Trace}
use Rattle.nob_trace.specs.Stamps.{Rise}
use Rattle.nob_trace.specs.Entries.{entry_text, IsTraced}
use Rattle.nob_chain.specs.declared.seal.Seal.{Seal}
use Rattle.nob_chain.specs.declared.segment.Segment.{Segment}
use Rattle.nob_chain.specs.declared.head.ChainHead.{ChainHead}
use Rattle.nob_chain.specs.declared.chain.ChainParts.{ChainParts}
use Rattle.nob_chain.specs.Seals.{IsDue, IsSeal, seal_text}

-- the entries of segments, one segment after the other
abbrev pub entries_of : List Segment → List Stamped
entries_of [] = []
entries_of (segment ∷ segments) = segment.entries ++ entries_of segments

-- a chain as the trace that it is: its entries one after the other
abbrev pub joined : ChainParts → Trace
joined chain = record { version = Two; space = chain.space; n = chain.n; limits = chain.limits; entries = entries_of chain.segments }

-- entries as one segment without a seal, or no segment where there is none
abbrev pub whole : List Stamped → List Segment
whole [] = []
whole (entry ∷ entries) = record { entries = entry ∷ entries; seal = None } ∷ []

-- a segment has entries
abbrev pub IsFilled : Segment → Type 0
IsFilled segment = 0 < length segment.entries

-- the seal's peers are those that are due, where there is a seal
abbrev pub HasDue : ℕ → ℕ → Option Seal → Type 0
HasDue own n None = Unit {0}
HasDue own n (Some seal) = IsDue own n seal

-- a segment of a chain of this space, of n: it has entries, and its seal, where it has one, has the peers that are due
pub record IsPart (own n : ℕ) (segment : Segment) : Type 0 where
  pub filled : IsFilled segment
  pub due : HasDue own n segment.seal

-- what the type of chains keeps: stamps are at least 1 and rise over all segments, no segment is empty, and each seal has the peers that are due
pub record IsKept (chain : ChainParts) : Type 0 where
  pub rise : Rise 0 (entries_of chain.segments)
  pub parts : AllByRecursion (IsPart chain.space chain.n) chain.segments

-- a line of a chain behind its first one
pub data ChainLine : Type 0 where
  -- the first line of a segment: its number, and how many entries it has
  begins : ℕ → ℕ → ChainLine
  -- an entry
  has : Stamped → ChainLine
  -- the seal of a segment
  ends : Seal → ChainLine

-- a segment's first line
abbrev pub opening_text : ℕ → ℕ → List ℕ
opening_text number count = codes "segment " ++ (decimal number ++ (codes " entries " ++ decimal count))

-- a line; entries stand as in traces of version 2
abbrev pub line_text : ChainLine → List ℕ
line_text (begins number count) = opening_text number count
line_text (has entry) = entry_text Two entry
line_text (ends seal) = seal_text seal

-- lines with their newlines
abbrev pub lines_text : List ChainLine → List ℕ
lines_text [] = []
lines_text (line ∷ lines) = line_text line ++ 10 ∷ lines_text lines

-- the line of a seal, where there is one
abbrev pub seal_lines : Option Seal → List ChainLine
seal_lines None = []
seal_lines (Some seal) = ends seal ∷ []

-- the lines of entries
abbrev pub entry_lines : List Stamped → List ChainLine
entry_lines [] = []
entry_lines (entry ∷ entries) = has entry ∷ entry_lines entries

-- the lines of a segment of this number
abbrev pub segment_lines : ℕ → Segment → List ChainLine
segment_lines number segment = begins number (length segment.entries) ∷ (entry_lines segment.entries ++ seal_lines segment.seal)

-- the lines of segments, numbered from this number on
abbrev pub segments_lines : ℕ → List Segment → List ChainLine
segments_lines number [] = []
segments_lines number (segment ∷ segments) = segment_lines number segment ++ segments_lines (suc number) segments

-- a chain's first line: its space, of how many, the limits, and how many segments follow
abbrev pub head_text : ChainHead → List ℕ
head_text head = codes "chain " ++ (decimal head.space ++ (codes " of " ++ (decimal head.n ++ limits_text head.limits (codes " segments " ++ decimal head.count))))

-- the first line of a chain, as a value
abbrev pub head_of : ChainParts → ChainHead
head_of chain = record { space = chain.space; n = chain.n; limits = chain.limits; count = length chain.segments }

-- a chain: its first line, and the lines of its segments
abbrev pub chain_text : ChainParts → List ℕ
chain_text chain = head_text (head_of chain) ++ 10 ∷ lines_text (segments_lines 1 chain.segments)

-- a first line with numbers in their ranges
pub record IsHead (head : ChainHead) : Type 0 where
  pub space : IsSpace head.space
  pub n : IsSpace head.n
  pub limits : AreLimits head.limits
  pub count : head.count < 2 ^ 64

-- there is a seal, and a text can spell it
abbrev pub IsSealed : ℕ → ℕ → Option Seal → Type 0
IsSealed own n None = ⊥
IsSealed own n (Some seal) = IsSeal own n seal

-- a segment that a text can spell: it has entries, each such that a trace of version 2 can have it, and it is sealed
pub record IsSegment (own n : ℕ) (segment : Segment) : Type 0 where
  pub filled : IsFilled segment
  pub few : length segment.entries < 2 ^ 64
  pub entries : AllByRecursion (IsTraced Two) segment.entries
  pub seal : IsSealed own n segment.seal

-- a chain that a text can spell: its numbers are in their ranges, its stamps rise from 1 on over all segments, and each segment can be spelt
pub record IsChain (chain : ChainParts) : Type 0 where
  pub head : IsHead (head_of chain)
  pub rise : Rise 0 (entries_of chain.segments)
  pub segments : AllByRecursion (IsSegment chain.space chain.n) chain.segments
