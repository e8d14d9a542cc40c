-- What is written for a pair script: a relation, since a step may be refused for want of memory.
use Rattle.std.specs.Prelude.{◌≡◌, ◌≢◌, ℕ, ◌+◌, List, [], ◌∷◌, ◌++◌, IsTrue, codes}
use Rattle.nob_ids.specs.declared.limits.Limits.{Limits}
use Rattle.nob_model_session.specs.declared.entry.PairEntry.{PairEntry}
use Rattle.nob_model_session.specs.Pair.{PairFronts, PairRun}
use Rattle.nob_model_text.specs.Lines.{lines_of, line_text, answered_text, bad_step_text}
use Rattle.nob_demo_scripts.specs.declared.step.Step.{Step}
use Rattle.nob_demo_scripts.specs.declared.pair_script.PairEnding.{PairEnding}
use Rattle.nob_demo_scripts.specs.declared.pair_script.PairEnding.TheVariants.{Fronts, BadStep, OutOfMemory}
use Rattle.nob_demo_scripts.specs.Grammar.{step_text, header_text, IsStep, IsLimits}
use Rattle.nob_demo_scripts.specs.Run.{step_answer, entries_of, takes_memory}
use Rattle.nob_demo_scripts.specs.Pairs.{Ends, PairStands}

-- what is written after a script's text: the line `memory` where memory ran out beside the steps
abbrev pub last_line : PairEnding → List ℕ
last_line Fronts = []
last_line BadStep = []
last_line OutOfMemory = codes "memory\n"

-- a text grew by something of which P holds
abbrev pub Grows : List ℕ → List ℕ → (List ℕ → Type 0) → Type 0
Grows old new P = (written : List ℕ) × (new ≡ old ++ written) × P written

-- a line that spells a step
abbrev pub IsStepLine : List ℕ → Step → Type 0
IsStepLine line step = IsStep step × (line ≡ step_text step)

-- a line that spells no step
abbrev pub IsNoStep : List ℕ → Type 0
IsNoStep line = (step : Step) → IsStep step → line ≢ step_text step

-- what is written for a step's line after a run J, which is the run K then
pub data StepMade (limits : Limits) (line : List ℕ) (J K : List PairEntry) (written : List ℕ) : Type 0 where
  -- the line with the step's answer: the calls of the step and those before are a run of the pair, and the answer is that of the step's calls
  answered : (step : Step) → IsStepLine line step → written ≡ answered_text line (step_answer limits step J) → K ≡ entries_of limits step J ++ J → PairRun 1 2 limits limits K → StepMade limits line J K written
  -- the step takes memory, is refused for want of it, and changes nothing
  refused : (step : Step) → IsStepLine line step → IsTrue (takes_memory step J) → written ≡ answered_text line (codes "memory") → K ≡ J → StepMade limits line J K written

-- a pair that stood for the run J stands for the run with a line's step, and a text grew by what is written for it
abbrev pub MakesStep : Limits → List ℕ → List PairEntry → Ends → (old new : List ℕ) → Type 0
MakesStep limits line J ends old new = (K : List PairEntry) × PairStands limits ends K × Grows old new (StepMade limits line J K)

-- what is written from line n on, which is this one, after a run J; from the next line on it is as `from_next` has it
pub data FromLine (limits : Limits) (n : ℕ) (line : List ℕ) (from_next : List PairEntry → List ℕ → Type 0) (J : List PairEntry) (text : List ℕ) (outcome : PairEnding) : Type 0 where
  -- the line is a step
  made : (K : List PairEntry) (written rest : List ℕ) → StepMade limits line J K written → text ≡ written ++ rest → from_next K rest → FromLine limits n line from_next J text outcome
  -- the line is no step, and the run ends
  bad : IsNoStep line → text ≡ bad_step_text n → outcome ≡ BadStep → FromLine limits n line from_next J text outcome
  -- memory runs out beside the steps, and the run ends
  stopped : text ≡ codes "memory\n" → outcome ≡ OutOfMemory → FromLine limits n line from_next J text outcome

-- what is written at the end of the steps: that the fronts hold, as they do
pub data AtEnd (J : List PairEntry) (text : List ℕ) (outcome : PairEnding) : Type 0 where
  finished : PairFronts J → text ≡ codes "fronts yes\n" → outcome ≡ Fronts → AtEnd J text outcome
  stopped : text ≡ codes "memory\n" → outcome ≡ OutOfMemory → AtEnd J text outcome

-- what is written from these lines on, of which the first is line n, after a run J
abbrev pub FromLines : Limits → ℕ → List (List ℕ) → List PairEntry → List ℕ → PairEnding → Type 0
FromLines limits n [] J text outcome = AtEnd J text outcome
FromLines limits n (line ∷ lines) J text outcome = FromLine limits n line (λ K rest. FromLines limits (n + 1) lines K rest outcome) J text outcome

-- a line that is no header
abbrev pub IsNoHeader : List ℕ → Type 0
IsNoHeader line = (window retry : ℕ) → IsLimits window retry → line ≢ header_text window retry

-- what is written for a script whose first line is this one
pub data FromHeader (header : List ℕ) (steps : List (List ℕ)) (text : List ℕ) (outcome : PairEnding) : Type 0 where
  -- the header as it came, and then the steps from a new pair on
  opened : (limits : Limits) (rest : List ℕ) → IsLimits limits.window limits.retry → header ≡ header_text limits.window limits.retry → text ≡ line_text header ++ rest → FromLines limits 2 steps [] rest outcome → FromHeader header steps text outcome
  -- the first line is no header, and the run ends
  bad : IsNoHeader header → text ≡ bad_step_text 1 → outcome ≡ BadStep → FromHeader header steps text outcome
  -- memory runs out beside the steps, and the run ends
  stopped : text ≡ codes "memory\n" → outcome ≡ OutOfMemory → FromHeader header steps text outcome

-- what is written for a script without a line: the first one is missing
pub data FromNothing (text : List ℕ) (outcome : PairEnding) : Type 0 where
  bad : text ≡ bad_step_text 1 → outcome ≡ BadStep → FromNothing text outcome
  stopped : text ≡ codes "memory\n" → outcome ≡ OutOfMemory → FromNothing text outcome

-- what is written for a script's lines
abbrev pub FromScript : List (List ℕ) → List ℕ → PairEnding → Type 0
FromScript [] text outcome = FromNothing text outcome
FromScript (header ∷ steps) text outcome = FromHeader header steps text outcome

-- what is written for a script, and how its run ends
abbrev pub Plays : List ℕ → List ℕ → PairEnding → Type 0
Plays script text outcome = FromScript (lines_of script) text outcome
