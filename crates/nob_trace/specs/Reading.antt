-- Which of R1 to R4 a text is refused for: what the first line says that isn't as it should be.
use Rattle.std.specs.Prelude.{◌≡◌, ◌≢◌, ℕ, ◌<◌, ◌≤◌, ◌==◌, false, List, [], ◌∷◌, ◌++◌, length, Result, Ok, Err}
use Rattle.std.specs.List.{AllByRecursion, flat_map}
use Rattle.nob_frame.specs.declared.version.Version.{Version}
use Rattle.nob_trace.specs.declared.stamped.Stamped.{Stamped}
use Rattle.nob_trace.specs.declared.head.Head.{Head}
use Rattle.nob_trace.specs.declared.trace.Trace.{Trace}
use Rattle.nob_trace.specs.declared.fault.TraceFault.{TraceFault}
use Rattle.nob_trace.specs.declared.fault.TraceFault.TheVariants as faults
use Rattle.nob_trace.specs.declared.fault.TraceError.{TraceError}
use Rattle.nob_trace.specs.declared.fault.TraceError.TheVariants.{Fault, OutOfMemory}
use Rattle.nob_trace.specs.Entries.{entry_text, IsTraced}
use Rattle.nob_trace.specs.Stamps.{Rise, last_stamp}
use Rattle.nob_trace.specs.Traces.{head_text, entries_text, trace_text, IsHead, IsTrace}

-- the byte isn't among the bytes
abbrev pub Lacks : ℕ → List ℕ → Type 0
Lacks byte bytes = AllByRecursion (λ b. (b == byte) ≡ false) bytes

-- a text's first line is this one, with its newline, and the rest stands behind it
abbrev pub BeginsWithLine : List ℕ → List ℕ → List ℕ → Type 0
BeginsWithLine text line rest = Lacks 10 line × (text ≡ line ++ 10 ∷ rest)

-- a line that spells no first line of a trace
abbrev pub IsNoHead : List ℕ → Type 0
IsNoHead line = (head : Head) → IsHead head → line ≢ head_text head

-- a line that spells no entry of this version
abbrev pub IsNoEntry : Version → List ℕ → Type 0
IsNoEntry version line = (entry : Stamped) → IsTraced version entry → line ≢ entry_text version entry

-- lines that should begin with so many entries: these fewer ones stand there, each such that a trace of this version can have it, and then these lines are left
pub record Breaks (version : Version) (lines : List ℕ) (count : ℕ) (entries : List Stamped) (left : List ℕ) : Type 0 where
  pub few : length entries < count
  pub rise : Rise 0 entries
  pub traced : AllByRecursion (IsTraced version) entries
  pub lines_are : lines ≡ entries_text version entries ++ left

-- why lines don't begin with so many entries, whose stamps rise: the first line that breaks off, spells no entry, or has no greater stamp
abbrev pub EntriesFault : Version → List ℕ → ℕ → TraceFault → Type 0
EntriesFault version lines count faults.Short = (entries : List Stamped) × (left : List ℕ) × Breaks version lines count entries left × Lacks 10 left
EntriesFault version lines count faults.Entry = (entries : List Stamped) × (left line rest : List ℕ) × Breaks version lines count entries left × BeginsWithLine left line rest × IsNoEntry version line
EntriesFault version lines count faults.Stamp = (entries : List Stamped) × (left rest : List ℕ) × (entry : Stamped) × Breaks version lines count entries left × IsTraced version entry × (left ≡ entry_text version entry ++ 10 ∷ rest) × (entry.stamp ≤ last_stamp 0 entries)
EntriesFault version lines count faults.Trailing = ⊥
EntriesFault version lines count faults.Version = ⊥

-- lines go on with a whole line where they should have another entry: all before it are as they should be
abbrev pub AtLine : Version → List ℕ → ℕ → Type 0
AtLine version lines count = (entries : List Stamped) × (left line rest : List ℕ) × Breaks version lines count entries left × BeginsWithLine left line rest

-- a text begins with a first line, and goes on so behind it
abbrev pub AtEntry : List ℕ → Type 0
AtEntry text = (head : Head) × (rest : List ℕ) × IsHead head × (text ≡ head_text head ++ 10 ∷ rest) × AtLine head.version rest head.count

-- why a text doesn't begin with a trace
pub data TextFault (text : List ℕ) (fault : TraceFault) : Type 0 where
  -- there is no whole first line
  cut : Lacks 10 text → fault ≡ faults.Short → TextFault text fault
  -- the first line spells none
  bad : (line rest : List ℕ) → BeginsWithLine text line rest → IsNoHead line → fault ≡ faults.Entry → TextFault text fault
  -- the lines behind it don't begin with the entries that it promises
  lines : (head : Head) (rest : List ℕ) → IsHead head → text ≡ head_text head ++ 10 ∷ rest → EntriesFault head.version rest head.count fault → TextFault text fault

-- what is wrong with a text that should be one trace
pub data TraceProblem (text : List ℕ) (fault : TraceFault) : Type 0 where
  -- it doesn't begin with a trace
  front : TextFault text fault → TraceProblem text fault
  -- bytes stand behind the trace with which it begins
  behind : (trace : Trace) (rest : List ℕ) → IsTrace trace → text ≡ trace_text trace ++ rest → rest ≢ [] → fault ≡ faults.Trailing → TraceProblem text fault

-- what is wrong with a text that should be traces, one after the other: behind these something stands that doesn't begin with a trace
pub record TracesProblem (text : List ℕ) (fault : TraceFault) (traces : List Trace) (left : List ℕ) : Type 0 where
  pub are : AllByRecursion IsTrace traces
  pub text_is : text ≡ flat_map trace_text traces ++ left
  pub some : left ≢ []
  pub fault_is : TextFault left fault

-- behind these traces a text goes on with a part of one, or with a whole one
pub data AtTrace (text : List ℕ) : Type 0 where
  -- it goes on with a first line and a whole line where an entry should stand
  part : (traces : List Trace) (left : List ℕ) → AllByRecursion IsTrace traces → text ≡ flat_map trace_text traces ++ left → AtEntry left → AtTrace text
  -- it goes on with a trace
  whole : (traces : List Trace) (left : List ℕ) → AllByRecursion IsTrace traces → text ≡ flat_map trace_text traces ++ left → 0 < length traces → AtTrace text

-- the fault is right, or memory ran out
abbrev pub Explains : (TraceFault → Type 0) → TraceError → Type 0
Explains IsFault (Fault fault) = IsFault fault
Explains IsFault OutOfMemory = Unit {0}

-- what was given is right, or the fault is, unless memory ran out
abbrev pub Answers : {X : Type 0} → (X → Type 0) → (TraceFault → Type 0) → Result X TraceError → Type 0
Answers IsRight IsFault (Ok x) = IsRight x
Answers IsRight IsFault (Err e) = Explains IsFault e

-- this is given, unless memory ran out
abbrev pub Finds : {X : Type 0} → (X → Type 0) → Result X TraceError → Type 0
Finds IsRight result = Answers IsRight (λ fault. ⊥) result

-- an error for want of memory comes only there
abbrev pub IsThere : Type 0 → TraceError → Type 0
IsThere There (Fault fault) = Unit {0}
IsThere There OutOfMemory = There

-- memory runs out only there
abbrev pub RunsOut : {X : Type 0} → Type 0 → Result X TraceError → Type 0
RunsOut There (Ok x) = Unit {0}
RunsOut There (Err e) = IsThere There e
