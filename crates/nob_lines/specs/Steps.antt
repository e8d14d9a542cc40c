-- Which line may stand behind the lines of a chain or trace so far, what it is refused for else, and what it makes of what was read.
use Rattle.std.specs.Prelude.{◌≡◌, ◌≢◌, ℕ, suc, ◌<◌, ◌≤◌, ◌^◌, ◌-◌, nat_lt, if◌then◌else◌, List, Option, Some, None}
use Rattle.nob_ids.specs.declared.limits.Limits.{Limits}
use Rattle.nob_frame.specs.declared.version.Version.{Version}
use Rattle.nob_frame.specs.declared.version.Version.TheVariants.{Two}
use Rattle.nob_trace.specs.declared.stamped.Stamped.{Stamped}
use Rattle.nob_trace.specs.Entries.{entry_text, IsTraced}
use Rattle.nob_trace.specs.Reading.{IsNoEntry}
use Rattle.nob_trace.specs.declared.head.Head as traces_head
use Rattle.nob_trace.specs.Traces as traces
use Rattle.nob_chain.specs.declared.head.ChainHead.{ChainHead}
use Rattle.nob_chain.specs.declared.seal.Seal.{Seal}
use Rattle.nob_chain.specs.declared.fault.ChainFault.{ChainFault}
use Rattle.nob_chain.specs.declared.fault.ChainFault.TheVariants as faults
use Rattle.nob_chain.specs.Seals.{seal_text, IsSeal}
use Rattle.nob_chain.specs.Chains as chains
use Rattle.nob_chain.specs.Chains.{ChainLine, begins, has, ends, opening_text}
use Rattle.nob_recall.specs.declared.dated.Dated.{Dated}
use Rattle.nob_lines.specs.declared.first.FirstLine.{FirstLine}
use Rattle.nob_lines.specs.declared.first.FirstLine.TheVariants.{OfChain, OfTrace}
use Rattle.nob_lines.specs.declared.reached.Reached.{Reached}
use Rattle.nob_lines.specs.declared.reached.Reached.TheVariants.{Between, Within}
use Rattle.nob_lines.specs.declared.reached.LineDue.{LineDue}
use Rattle.nob_lines.specs.declared.reached.LineDue.TheVariants as dues
use Rattle.nob_lines.specs.declared.taking.LinesRead.{LinesRead}

-- ---- first lines

-- the space whose entries follow
abbrev pub space_of : FirstLine → ℕ
space_of (OfChain head) = head.space
space_of (OfTrace head) = head.space

-- how many spaces there are
abbrev pub n_of : FirstLine → ℕ
n_of (OfChain head) = head.n
n_of (OfTrace head) = head.n

-- the limits of the space's sessions
abbrev pub limits_of : FirstLine → Limits
limits_of (OfChain head) = head.limits
limits_of (OfTrace head) = head.limits

-- the version of the frames that follow
abbrev pub version_of : FirstLine → Version
version_of (OfChain head) = Two
version_of (OfTrace head) = head.version

-- numbers in their ranges
abbrev pub IsFirst : FirstLine → Type 0
IsFirst (OfChain head) = chains.IsHead head
IsFirst (OfTrace head) = traces.IsHead head

-- its text
abbrev pub first_text : FirstLine → List ℕ
first_text (OfChain head) = chains.head_text head
first_text (OfTrace head) = traces.head_text head

-- the first line of a trace with the numbers of a chain's
abbrev pub traced : Version → ChainHead → traces_head.Head
traced version head = record { version = version; space = head.space; n = head.n; limits = head.limits; count = head.count }

-- ---- lines

-- a segment's first line or nothing is due
abbrev segment_due : ChainHead → ℕ → LineDue
segment_due head behind = if nat_lt behind head.count then dues.Segment else dues.Nothing

-- an entry is due, or this
abbrev entry_due : ℕ → LineDue → LineDue
entry_due missing other = if nat_lt 0 missing then dues.Entry else other

-- which line is due
abbrev pub due_of : FirstLine → Reached → LineDue
due_of (OfChain head) (Between behind last) = segment_due head behind
due_of (OfChain head) (Within number last missing) = entry_due missing dues.Seal
due_of (OfTrace head) (Between behind last) = dues.Nothing
due_of (OfTrace head) (Within number last missing) = entry_due missing dues.Nothing

-- a line of the kind that is due
abbrev pub CanFollow : FirstLine → LineDue → ChainLine → Type 0
CanFollow first dues.Segment (begins number count) = (number < 2 ^ 64) × (count < 2 ^ 64)
CanFollow first dues.Entry (has entry) = IsTraced (version_of first) entry
CanFollow first dues.Seal (ends seal) = IsSeal (space_of first) (n_of first) seal
CanFollow first due line = ⊥

-- its text; entries stand in the version of the first line
abbrev pub line_text : FirstLine → ChainLine → List ℕ
line_text first (begins number count) = opening_text number count
line_text first (has entry) = entry_text (version_of first) entry
line_text first (ends seal) = seal_text seal

-- it is as it should be: the number of the next segment, and some entries; or a greater stamp
abbrev pub Rises : Reached → ChainLine → Type 0
Rises (Between behind last) (begins number count) = (number ≡ suc behind) × (0 < count)
Rises (Within number last missing) (has entry) = last < entry.stamp
Rises reached line = Unit {0}

-- what it is refused for where it isn't
abbrev pub IsRefusedFor : Reached → ChainLine → ChainFault → Type 0
IsRefusedFor (Between behind last) (begins number count) faults.Segment = (number ≡ suc behind) × (0 < count) → ⊥
IsRefusedFor (Within number last missing) (has entry) faults.Stamp = entry.stamp ≤ last
IsRefusedFor reached line fault = ⊥

-- how far it leads
abbrev pub next_of : Reached → ChainLine → Reached
next_of (Between behind last) (begins number count) = Within number last count
next_of (Within number last missing) (has entry) = Within number entry.stamp (missing - 1)
next_of (Within number last missing) (ends seal) = Between number last
next_of reached line = reached

-- the segment in which lines are, or behind which
abbrev pub segment_of : Reached → ℕ
segment_of (Between behind last) = behind
segment_of (Within number last missing) = number

-- ---- entries

-- an entry of a space, with no seal behind it
abbrev pub dated_of : ℕ → Stamped → Dated
dated_of space entry = record { stamp = entry.stamp; entry = record { space = space; event = entry.event; result = entry.result }; seal = None }

-- an entry with the seal of this segment behind it, where there is one
abbrev pub sealed_by : ℕ → Seal → Option Dated → Option Dated
sealed_by number seal None = None
sealed_by number seal (Some dated) = Some (record { stamp = dated.stamp; entry = dated.entry; seal = Some (record { number = number; seal = seal }) })

-- the entry that is whole once a line is read: the one that was held back, with its seal where the line is one
abbrev pub told_by : LinesRead → ChainLine → Option Dated
told_by read (begins number count) = None
told_by read (has entry) = read.held
told_by read (ends seal) = sealed_by (segment_of read.reached) seal read.held

-- the entry that is held back then
abbrev pub held_by : LinesRead → ChainLine → Option Dated
held_by read (begins number count) = read.held
held_by read (has entry) = Some (dated_of (space_of read.first) entry)
held_by read (ends seal) = None

-- what was read, with a line more
abbrev pub with_line : LinesRead → ChainLine → LinesRead
with_line read line = record { first = read.first; reached = next_of read.reached line; held = held_by read line }

-- nothing is held back any more
abbrev pub ended : LinesRead → LinesRead
ended read = record { first = read.first; reached = read.reached; held = None }

-- how far the lines have come behind the first one
abbrev pub start_of : FirstLine → Reached
start_of (OfChain head) = Between 0 0
start_of (OfTrace head) = Within 1 0 head.count

-- a first line was read
abbrev pub begun : FirstLine → LinesRead
begun first = record { first = first; reached = start_of first; held = None }

-- how far lines may have come: in a chain in one of its segments, or behind it; a trace is one segment
abbrev pub IsPlaceOf : FirstLine → Reached → Type 0
IsPlaceOf (OfChain head) (Between behind last) = behind ≤ head.count
IsPlaceOf (OfChain head) (Within number last missing) = number ≤ head.count
IsPlaceOf (OfTrace head) (Between behind last) = ⊥
IsPlaceOf (OfTrace head) (Within number last missing) = Unit {0}

-- what the type of lines keeps
pub record IsKept (read : LinesRead) : Type 0 where
  pub first : IsFirst read.first
  pub place : IsPlaceOf read.first read.reached

-- ---- what comes of a line

-- a text is this line, which is due and as it should be: what was read has it, and the entry that is whole now is told
pub record IsRead (old new : LinesRead) (text : List ℕ) (told : Option Dated) (line : ChainLine) : Type 0 where
  pub can : CanFollow old.first (due_of old.first old.reached) line
  pub text_is : text ≡ line_text old.first line
  pub rises : Rises old.reached line
  pub told_is : told ≡ told_by old line
  pub new_is : new ≡ with_line old line

-- there is such a line
abbrev pub HasRead : (old new : LinesRead) → List ℕ → Option Dated → Type 0
HasRead old new text told = (line : ChainLine) × IsRead old new text told line

-- a text spells no line that is due
abbrev pub SpellsNone : LinesRead → List ℕ → Type 0
SpellsNone read text = (line : ChainLine) → CanFollow read.first (due_of read.first read.reached) line → text ≢ line_text read.first line

-- a text spells a line that is due, and is refused for this
abbrev pub IsRefused : LinesRead → List ℕ → ChainFault → Type 0
IsRefused read text fault = (line : ChainLine) × CanFollow read.first (due_of read.first read.reached) line × (text ≡ line_text read.first line) × IsRefusedFor read.reached line fault

-- what is wrong with a text that should be the next line: nothing is due, or it spells nothing that is due, or it isn't as it should be
abbrev pub IsLineFault : LinesRead → List ℕ → ChainFault → Type 0
IsLineFault read text faults.Short = ⊥
IsLineFault read text faults.Trailing = due_of read.first read.reached ≡ dues.Nothing
IsLineFault read text faults.Entry = (due_of read.first read.reached ≢ dues.Nothing) × SpellsNone read text
IsLineFault read text fault = IsRefused read text fault

-- what is wrong with a text that should be an entry of this version, behind this stamp
abbrev pub IsEntryFault : Version → ℕ → List ℕ → ChainFault → Type 0
IsEntryFault version last text faults.Entry = IsNoEntry version text
IsEntryFault version last text faults.Stamp = (entry : Stamped) × IsTraced version entry × (text ≡ entry_text version entry) × (entry.stamp ≤ last)
IsEntryFault version last text fault = ⊥
