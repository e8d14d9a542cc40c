-- What is written for an input.
use Rattle.std.specs.Prelude.{◌≡◌, ◌⊎◌, ℕ, Bool, true, false, List, [], ◌∷◌, ◌++◌, ◌==◌, codes}
use Rattle.std.specs.List.{AllByRecursion, flat_map, list_any}
use Rattle.nob_trace.specs.declared.trace.Trace.{Trace}
use Rattle.nob_trace.specs.declared.fault.TraceFault.{TraceFault}
use Rattle.nob_trace.specs.Traces.{trace_text, IsTrace}
use Rattle.nob_trace.specs.Reading.{TraceProblem, TracesProblem}
use Rattle.nob_chain.specs.declared.chain.ChainParts.{ChainParts}
use Rattle.nob_chain.specs.Chains.{chain_text, IsChain}
use Rattle.nob_model_text.specs.Lines.{lines_of}
use Rattle.test_definitions.specs.Verdicts.{IsVerdict}
use Rattle.nob_script_text.specs.declared.ending.Ending.{Ending}
use Rattle.nob_script_text.specs.Scripts.{FromScript, IsVerdictOf}
use Rattle.test_definitions.specs.Journals.{FromJournal}

-- the input begins with this
abbrev pub BeginsWith : List ℕ → List ℕ → Type 0
BeginsWith word input = (rest : List ℕ) × (input ≡ word ++ rest)

-- the input begins as a trace of one of the two versions does
abbrev pub BeginsAsTrace : List ℕ → Type 0
BeginsAsTrace input = BeginsWith (codes "trace ") input ⊎ BeginsWith (codes "trace2 ") input

-- the input is traces, one after the other, and what is written is the input
abbrev pub IsCopy : List ℕ → List ℕ → Type 0
IsCopy input text = (text ≡ input) × (all : List Trace) × AllByRecursion IsTrace all × (input ≡ flat_map trace_text all)

-- the input is one chain, and what is written is the input
abbrev pub IsChainCopy : List ℕ → List ℕ → Type 0
IsChainCopy input text = (text ≡ input) × (chain : ChainParts) × IsChain chain × (input ≡ chain_text chain)

-- the input is one trace, and what is written is what is said of it
abbrev pub IsJudged : List ℕ → List ℕ → Type 0
IsJudged input text = (trace : Trace) × IsTrace trace × (input ≡ trace_text trace) × IsVerdict trace text

-- what is written is what a script gives where there is memory enough
abbrev pub IsAnswers : List ℕ → List ℕ → Type 0
IsAnswers input text = (ending : Ending) × FromScript false IsVerdictOf (lines_of input) text ending

-- whether an equals sign stands in a line
abbrev pub has_equals_sign : List ℕ → Bool
has_equals_sign line = list_any (λ byte. byte == 61) line

-- whether one stands in the second of these lines: then they are entries, each with its result; no step of a script has one
abbrev pub has_results : List (List ℕ) → Bool
has_results [] = false
has_results (line ∷ []) = false
has_results (line ∷ second ∷ lines) = has_equals_sign second

-- what is written for an input: a copy where that is asked for; else what is said of a trace or of a journal, or the answers to a script
pub data IsOutput (is_copy : Bool) (input text : List ℕ) : Type 0 where
  copy : is_copy ≡ true → IsCopy input text → IsOutput is_copy input text
  verdict : is_copy ≡ false → BeginsAsTrace input → IsJudged input text → IsOutput is_copy input text
  journal : is_copy ≡ false → (BeginsAsTrace input → ⊥) → has_results (lines_of input) ≡ true → FromJournal (lines_of input) text → IsOutput is_copy input text
  answers : is_copy ≡ false → (BeginsAsTrace input → ⊥) → has_results (lines_of input) ≡ false → IsAnswers input text → IsOutput is_copy input text

-- why traces aren't copied: behind some of them something stands that doesn't begin with a trace
abbrev pub IsUncopied : List ℕ → TraceFault → Type 0
IsUncopied input fault = (all : List Trace) × (left : List ℕ) × TracesProblem input fault all left

-- why an input is refused: only traces are
pub data IsRefused (is_copy : Bool) (input : List ℕ) (fault : TraceFault) : Type 0 where
  copy : is_copy ≡ true → IsUncopied input fault → IsRefused is_copy input fault
  verdict : is_copy ≡ false → BeginsAsTrace input → TraceProblem input fault → IsRefused is_copy input fault
