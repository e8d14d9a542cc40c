-- The one spelling of each trace.
use Rattle.std.specs.Prelude.{ℕ, ◌<◌, ◌^◌, List, [], ◌∷◌, ◌++◌, length, codes}
use Rattle.std.specs.List.{AllByRecursion}
use Rattle.std.specs.Fmt.{decimal}
use Rattle.nob_ids.specs.Names.{IsSpace}
use Rattle.nob_frame.specs.declared.version.Version.{Version}
use Rattle.nob_frame.specs.declared.version.Version.TheVariants.{One, Two}
use Rattle.nob_model_reading.specs.Scripts.{limits_text, AreLimits}
use Rattle.nob_trace.specs.declared.stamped.Stamped.{Stamped}
use Rattle.nob_trace.specs.declared.head.Head.{Head}
use Rattle.nob_trace.specs.declared.trace.Trace.{Trace}
use Rattle.nob_trace.specs.Stamps.{Rise}
use Rattle.nob_trace.specs.Entries.{entry_text, IsTraced, HasSpelling}

-- the word with which a trace begins, and the space behind it: it says the version of its frames
abbrev pub head_word : Version → List ℕ
head_word One = codes "trace "
head_word Two = codes "trace2 "

-- a trace's first line: its version's word, its space, of how many, the limits, and how many entries follow
abbrev pub head_text : Head → List ℕ
head_text head =
    head_word head.version ++ (decimal head.space ++ (codes " of " ++ (decimal head.n ++ limits_text head.limits (codes " entries " ++ decimal head.count))))

-- entries, a line each
abbrev pub entries_text : Version → List Stamped → List ℕ
entries_text version [] = []
entries_text version (entry ∷ entries) = entry_text version entry ++ 10 ∷ entries_text version entries

-- the first line of a trace, as a value
abbrev pub head_of : Trace → Head
head_of trace = record { version = trace.version; space = trace.space; n = trace.n; limits = trace.limits; count = length trace.entries }

-- a trace: its first line and its entries
abbrev pub trace_text : Trace → List ℕ
trace_text trace = head_text (head_of trace) ++ 10 ∷ entries_text trace.version trace.entries

-- a first line with numbers in their ranges
pub record IsHead (head : Head) : Type 0 where
  pub space : IsSpace head.space
  pub n : IsSpace head.n
  pub limits : AreLimits head.limits
  pub count : head.count < 2 ^ 64

-- a trace that a text can spell: its numbers are in their ranges, its stamps rise from 1 on, and its entries are such that a trace of its version can have
pub record IsTrace (trace : Trace) : Type 0 where
  pub head : IsHead (head_of trace)
  pub rise : Rise 0 trace.entries
  pub entries : AllByRecursion (IsTraced trace.version) trace.entries

-- a trace in which each frame has a spelling of its version, and whose events its version has
abbrev pub IsWritable : Trace → Type 0
IsWritable trace = AllByRecursion (HasSpelling trace.version) trace.entries
