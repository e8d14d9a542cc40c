-- What is true of all traces.
use Rattle.std.specs.Prelude.{◌≡◌, ℕ, true, List, ◌++◌, Result}
use Rattle.std.specs.List.{AllByRecursion, flat_map}
use Rattle.nob_frame.specs.declared.version.Version.{Version}
use Rattle.nob_model_types.specs.declared.answer.Answer.{Answer}
use Rattle.nob_model_types.specs.declared.refusal.Refusal.{Refusal}
use Rattle.nob_trace.specs.declared.stamped.Stamped.{Stamped}
use Rattle.nob_trace.specs.declared.trace.Trace.{Trace}
use Rattle.nob_trace.specs.declared.fault.TraceFault.{TraceFault}
use Rattle.nob_trace.specs.Entries.{entry_text, result_text, IsTraced, IsTracedResult}
use Rattle.nob_trace.specs.Traces.{trace_text, IsTrace, IsWritable}
use Rattle.nob_trace.specs.Sessions.{is_known}
use Rattle.nob_trace.specs.Reading.{TraceProblem, TracesProblem}

-- each frame has a spelling in a trace that a text can spell
abbrev pub AreWritable : Type 0
AreWritable = (trace : Trace) → IsTrace trace → IsWritable trace

-- a trace's version can speak of all that stands in it where each frame has a spelling
abbrev pub AreKnown : Type 0
AreKnown = (trace : Trace) → IsWritable trace → is_known trace ≡ true

-- a text spells one result, in whichever version
abbrev pub OneResult : Type 0
OneResult = (text : List ℕ) (version other : Version) (result twin : Result Answer Refusal) → IsTracedResult version result → IsTracedResult other twin → text ≡ result_text version result → text ≡ result_text other twin → result ≡ twin

-- a line spells one entry, in whichever version
abbrev pub OneEntry : Type 0
OneEntry = (line : List ℕ) (version other : Version) (entry twin : Stamped) → IsTraced version entry → IsTraced other twin → line ≡ entry_text version entry → line ≡ entry_text other twin → entry ≡ twin

-- what begins with a trace begins with that one alone, and the same is left behind it
abbrev pub OneFront : Type 0
OneFront = (trace twin : Trace) (rest left : List ℕ) → IsTrace trace → IsTrace twin → trace_text trace ++ rest ≡ trace_text twin ++ left → (trace ≡ twin) × (rest ≡ left)

-- a text spells one trace, and so one of one version
abbrev pub OneTrace : Type 0
OneTrace = (text : List ℕ) (trace twin : Trace) → IsTrace trace → IsTrace twin → text ≡ trace_text trace → text ≡ trace_text twin → trace ≡ twin

-- a text is traces, one after the other, in one way
abbrev pub OneList : Type 0
OneList = (text : List ℕ) (traces others : List Trace) → AllByRecursion IsTrace traces → AllByRecursion IsTrace others → text ≡ flat_map trace_text traces → text ≡ flat_map trace_text others → traces ≡ others

-- a text that isn't a trace has one fault at most, and one that is has none
abbrev pub OneFault : Type 0
OneFault = ((text : List ℕ) (fault other : TraceFault) → TraceProblem text fault → TraceProblem text other → fault ≡ other) × ((text : List ℕ) (trace : Trace) (fault : TraceFault) → IsTrace trace → text ≡ trace_text trace → TraceProblem text fault → ⊥)

-- the same of a text that should be traces, one after the other
abbrev pub OneFaultOfAll : Type 0
OneFaultOfAll = ((text : List ℕ) (fault other : TraceFault) (traces others : List Trace) (left rest : List ℕ) → TracesProblem text fault traces left → TracesProblem text other others rest → fault ≡ other)
    × ((text : List ℕ) (all : List Trace) (fault : TraceFault) (traces : List Trace) (left : List ℕ) → AllByRecursion IsTrace all → text ≡ flat_map trace_text all → TracesProblem text fault traces left → ⊥)
