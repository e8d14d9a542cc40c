-- Which of R1 to R4 and R6 a text is refused for: what the first line is refused for that isn't as it should be.
use Rattle.std.specs.Prelude.{◌≡◌, ◌≢◌, ℕ, zero, suc, ◌<◌, ◌≤◌, ◌^◌, List, [], ◌∷◌, ◌++◌, Result, Ok, Err}
use Rattle.nob_frame.specs.declared.version.Version.TheVariants.{Two}
use Rattle.nob_trace.specs.Entries.{IsTraced}
use Rattle.nob_trace.specs.Reading.{BeginsWithLine, Lacks}
use Rattle.nob_chain.specs.declared.head.ChainHead.{ChainHead}
use Rattle.nob_chain.specs.declared.chain.ChainParts.{ChainParts}
use Rattle.nob_chain.specs.declared.fault.ChainFault.{ChainFault}
use Rattle.nob_chain.specs.declared.fault.ChainFault.TheVariants as faults
use Rattle.nob_chain.specs.declared.fault.ChainError.{ChainError}
use Rattle.nob_chain.specs.declared.fault.ChainError.TheVariants.{Fault, OutOfMemory}
use Rattle.nob_chain.specs.Seals.{IsSeal}
use Rattle.nob_chain.specs.Chains.{ChainLine, begins, has, ends, line_text, lines_text, head_text, chain_text, IsHead, IsChain}

-- how far lines have come
pub data Stage : Type 0 where
  -- behind so many segments, with this last stamp
  between : ℕ → ℕ → Stage
  -- in the segment of this number, behind an entry of this stamp or none as yet, with so many entries missing: where none is, the seal is due
  within : ℕ → ℕ → ℕ → Stage

-- behind the first line
abbrev pub start : Stage
start = between 0 0

-- a line more is due there
abbrev pub Waits : ChainHead → Stage → Type 0
Waits head (between number last) = number < head.count
Waits head (within number last missing) = Unit {0}

-- a line of the kind that is due there: a segment's first line, an entry, or a seal with the peers that are due
abbrev pub CanStand : ChainHead → Stage → ChainLine → Type 0
CanStand head (between behind last) (begins number count) = (number < 2 ^ 64) × (count < 2 ^ 64)
CanStand head (within number last (suc missing)) (has entry) = IsTraced Two entry
CanStand head (within number last zero) (ends seal) = IsSeal head.space head.n seal
CanStand head stage line = ⊥

-- it is as it should be: the number of the next segment, and some entries; or a greater stamp
abbrev pub Passes : Stage → ChainLine → Type 0
Passes (between behind last) (begins number count) = (number ≡ suc behind) × (0 < count)
Passes (within number last missing) (has entry) = last < entry.stamp
Passes stage line = Unit {0}

-- what it is refused for where it isn't
abbrev pub IsFaultOf : Stage → ChainLine → ChainFault → Type 0
IsFaultOf (between behind last) (begins number count) faults.Segment = (number ≡ suc behind) × (0 < count) → ⊥
IsFaultOf (within number last missing) (has entry) faults.Stamp = entry.stamp ≤ last
IsFaultOf stage line fault = ⊥

-- how far it leads
abbrev pub next : Stage → ChainLine → Stage
next (between behind last) (begins number count) = within number last count
next (within number last (suc missing)) (has entry) = within number entry.stamp missing
next (within number last missing) (ends seal) = between number last
next stage line = stage

-- how far lines lead, one after the other
abbrev pub after : Stage → List ChainLine → Stage
after stage [] = stage
after stage (line ∷ lines) = after (next stage line) lines

-- lines that are due one after the other, each as it should be
abbrev pub Go : ChainHead → Stage → List ChainLine → Type 0
Go head stage [] = Unit {0}
Go head stage (line ∷ lines) = Waits head stage × CanStand head stage line × Passes stage line × Go head (next stage line) lines

-- a line that spells nothing that is due there
abbrev pub IsNoLine : ChainHead → Stage → List ℕ → Type 0
IsNoLine head stage text = (line : ChainLine) → CanStand head stage line → text ≢ line_text line

-- the first line of a text is one that is due there, and is refused for this
abbrev pub IsRefused : ChainHead → Stage → List ℕ → ChainFault → Type 0
IsRefused head stage text fault = (line : ChainLine) × (rest : List ℕ) × CanStand head stage line × (text ≡ line_text line ++ 10 ∷ rest) × IsFaultOf stage line fault

-- why a text doesn't go on there: its first line isn't whole, or spells nothing that is due, or isn't as it should be
abbrev pub LineFault : ChainHead → Stage → List ℕ → ChainFault → Type 0
LineFault head stage text faults.Short = Lacks 10 text
LineFault head stage text faults.Entry = (line rest : List ℕ) × BeginsWithLine text line rest × IsNoLine head stage line
LineFault head stage text fault = IsRefused head stage text fault

-- why a text doesn't go on there as it should: behind these lines, which are as they should be, one more is due, and this is left
pub record LinesFault (head : ChainHead) (stage : Stage) (text : List ℕ) (fault : ChainFault) (lines : List ChainLine) (left : List ℕ) : Type 0 where
  pub go : Go head stage lines
  pub text_is : text ≡ lines_text lines ++ left
  pub waits : Waits head (after stage lines)
  pub fault_is : LineFault head (after stage lines) left fault

-- such lines are there
abbrev pub GoesWrong : ChainHead → Stage → List ℕ → ChainFault → Type 0
GoesWrong head stage text fault = (lines : List ChainLine) × (left : List ℕ) × LinesFault head stage text fault lines left

-- a line that spells no first line of a chain
abbrev pub IsNoHead : List ℕ → Type 0
IsNoHead line = (head : ChainHead) → IsHead head → line ≢ head_text head

-- why a text doesn't begin with a chain
pub data FrontFault (text : List ℕ) (fault : ChainFault) : Type 0 where
  -- there is no whole first line
  cut : Lacks 10 text → fault ≡ faults.Short → FrontFault text fault
  -- the first line spells none
  bad : (line rest : List ℕ) → BeginsWithLine text line rest → IsNoHead line → fault ≡ faults.Entry → FrontFault text fault
  -- the lines behind it don't go on as they should
  inside : (head : ChainHead) (rest : List ℕ) → IsHead head → text ≡ head_text head ++ 10 ∷ rest → GoesWrong head start rest fault → FrontFault text fault

-- what is wrong with a text that should be one chain
pub data ChainProblem (text : List ℕ) (fault : ChainFault) : Type 0 where
  -- it doesn't begin with a chain
  front : FrontFault text fault → ChainProblem text fault
  -- bytes stand behind the chain with which it begins
  behind : (chain : ChainParts) (rest : List ℕ) → IsChain chain → text ≡ chain_text chain ++ rest → rest ≢ [] → fault ≡ faults.Trailing → ChainProblem text fault

-- the fault is right, or memory ran out
abbrev pub Explains : (ChainFault → Type 0) → ChainError → Type 0
Explains IsFault (Fault fault) = IsFault fault
Explains IsFault OutOfMemory = Unit {0}

-- what was given is right, or the fault is, unless memory ran out
abbrev pub Answers : {X : Type 0} → (X → Type 0) → (ChainFault → Type 0) → Result X ChainError → Type 0
Answers IsRight IsFault (Ok x) = IsRight x
Answers IsRight IsFault (Err e) = Explains IsFault e

-- this is given, unless memory ran out
abbrev pub Finds : {X : Type 0} → (X → Type 0) → Result X ChainError → Type 0
Finds IsRight result = Answers IsRight (λ fault. ⊥) result

-- a whole line stands at the front of a text
abbrev pub HasLine : List ℕ → Type 0
HasLine text = (line rest : List ℕ) × BeginsWithLine text line rest

-- in a segment: an entry or its seal is due
abbrev pub InSegment : Stage → Type 0
InSegment (between number last) = ⊥
InSegment (within number last missing) = Unit {0}

-- lines go on as they should into a segment, to where a whole line is left
pub record Reaches (head : ChainHead) (stage : Stage) (text : List ℕ) (lines : List ChainLine) (left : List ℕ) : Type 0 where
  pub go : Go head stage lines
  pub text_is : text ≡ lines_text lines ++ left
  pub inside : InSegment (after stage lines)
  pub whole : HasLine left

-- such lines are there
abbrev pub AtLine : ChainHead → Stage → List ℕ → Type 0
AtLine head stage text = (lines : List ChainLine) × (left : List ℕ) × Reaches head stage text lines left

-- a text begins with a first line, and goes on so behind it: to a whole line where an entry or a seal is due
abbrev pub AtSegment : List ℕ → Type 0
AtSegment text = (head : ChainHead) × (rest : List ℕ) × IsHead head × (text ≡ head_text head ++ 10 ∷ rest) × AtLine head start rest

-- an error for want of memory comes only there
abbrev pub IsThere : Type 0 → ChainError → Type 0
IsThere There (Fault fault) = Unit {0}
IsThere There OutOfMemory = There

-- memory runs out only there
abbrev pub RunsOut : {X : Type 0} → Type 0 → Result X ChainError → Type 0
RunsOut There (Ok x) = Unit {0}
RunsOut There (Err e) = IsThere There e
