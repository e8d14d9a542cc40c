-- What is written for a script of a world. Where there is memory enough, each step is answered by the definitions.
use Rattle.std.specs.Prelude.{◌≡◌, ◌≢◌, ℕ, ◌+◌, Bool, true, List, [], ◌∷◌, ◌++◌, codes, Option, Some, None}
use Rattle.nob_ids.specs.declared.limits.Limits.{Limits}
use Rattle.nob_model_types.specs.declared.entry.WorldStep.{WorldStep}
use Rattle.nob_model_reading.specs.declared.opening.Opening.{Opening}
use Rattle.nob_model_reading.specs.Scripts.{opening_text, step_text, IsOpening, IsStep}
use Rattle.nob_model_journal.specs.declared.verdict.Verdict.{Verdict}
use Rattle.nob_model_journal.specs.Verdicts.{IsVerdict}
use Rattle.nob_model_text.specs.Lines.{line_text, answered_text, bad_step_text}
use Rattle.nob_script_text.specs.declared.ending.Ending.{Ending}
use Rattle.nob_script_text.specs.declared.ending.Ending.TheVariants.{Judged, BadStep, OutOfMemory}
use Rattle.nob_script_text.specs.Verdicts.{verdict_line}
use Rattle.nob_script_text.specs.Worlds.{World, new_world, outcome_of, makes_entry}

-- the limits that a first line means: those that it states, or else a window of 8 and a retry limit of 16
abbrev pub AreLimitsOf : Option Limits → Limits → Type 0
AreLimitsOf None limits = (limits.window ≡ 8) × (limits.retry ≡ 16)
AreLimitsOf (Some stated) limits = limits ≡ stated

-- a line that spells this step
abbrev pub IsStepLine : List ℕ → WorldStep → Type 0
IsStepLine line step = IsStep step × (line ≡ step_text step)

-- a line that spells no step
abbrev pub IsNoStep : List ℕ → Type 0
IsNoStep line = (step : WorldStep) → IsStep step → line ≢ step_text step

-- a line that spells this first line of a script
abbrev pub IsOpeningLine : List ℕ → Opening → Type 0
IsOpeningLine line opening = IsOpening opening × (line ≡ opening_text opening)

-- a line that spells no first line of a script
abbrev pub IsNoOpening : List ℕ → Type 0
IsNoOpening line = (opening : Opening) → IsOpening opening → line ≢ opening_text opening

-- memory ran out beside the steps, where it may, and the run ends
abbrev pub RanOut : (may_lack : Bool) → List ℕ → Ending → Type 0
RanOut may_lack text ending = (may_lack ≡ true) × (text ≡ codes "memory\n") × (ending ≡ OutOfMemory)

-- what is written for a step's line, and the world after it
pub data StepMade (may_lack : Bool) (world : World) (line : List ℕ) (next : World) (written : List ℕ) : Type 0 where
  -- the line with the step's answer
  answered : (step : WorldStep) → IsStepLine line step → written ≡ answered_text line (outcome_of world step).0 → next ≡ (outcome_of world step).1 → StepMade may_lack world line next written
  -- the step would make an entry, is refused for want of memory, and changes nothing
  refused : (step : WorldStep) → IsStepLine line step → may_lack ≡ true → makes_entry world step ≡ true → written ≡ answered_text line (codes "S14") → next ≡ world → StepMade may_lack world line next written

-- what is written from line n of a script on, which is this one; from the next line on it is as `from_next` has it
pub data FromLine (may_lack : Bool) (n : ℕ) (world : World) (line : List ℕ) (from_next : World → List ℕ → Type 0) (text : List ℕ) (ending : Ending) : Type 0 where
  -- the line is a step
  made : (next : World) (written rest : List ℕ) → StepMade may_lack world line next written → text ≡ written ++ rest → from_next next rest → FromLine may_lack n world line from_next text ending
  -- the line is no step, and the run ends
  bad : IsNoStep line → text ≡ bad_step_text n → ending ≡ BadStep → FromLine may_lack n world line from_next text ending
  -- memory runs out
  stopped : RanOut may_lack text ending → FromLine may_lack n world line from_next text ending

-- the verdict on a world is that of the definitions
abbrev pub IsVerdictOf : World → Verdict → Type 0
IsVerdictOf world verdict = IsVerdict world.n world.journal verdict

-- what is written at the end of the steps: the verdict on all that was done, as `judges` has it
pub data AtEnd (may_lack : Bool) (judges : World → Verdict → Type 0) (world : World) (text : List ℕ) (ending : Ending) : Type 0 where
  judged : (verdict : Verdict) → judges world verdict → text ≡ verdict_line verdict → ending ≡ Judged verdict → AtEnd may_lack judges world text ending
  stopped : RanOut may_lack text ending → AtEnd may_lack judges world text ending

-- what is written from these lines of a script on, of which the first is line n
abbrev pub FromLines : (may_lack : Bool) → (judges : World → Verdict → Type 0) → ℕ → World → List (List ℕ) → List ℕ → Ending → Type 0
FromLines may_lack judges n world [] text ending = AtEnd may_lack judges world text ending
FromLines may_lack judges n world (line ∷ lines) text ending = FromLine may_lack n world line (λ next rest. FromLines may_lack judges (n + 1) next lines rest ending) text ending

-- what is written for a script whose first line is this one
pub data FromOpening (may_lack : Bool) (judges : World → Verdict → Type 0) (line : List ℕ) (lines : List (List ℕ)) (text : List ℕ) (ending : Ending) : Type 0 where
  -- the line as it came, and then the steps in a new world
  opened : (opening : Opening) (limits : Limits) (rest : List ℕ) → IsOpeningLine line opening → AreLimitsOf opening.limits limits → text ≡ line_text line ++ rest → FromLines may_lack judges 2 (new_world opening.n limits) lines rest ending → FromOpening may_lack judges line lines text ending
  -- it is no first line, and the run ends
  bad : IsNoOpening line → text ≡ bad_step_text 1 → ending ≡ BadStep → FromOpening may_lack judges line lines text ending
  -- memory runs out
  stopped : RanOut may_lack text ending → FromOpening may_lack judges line lines text ending

-- what is written for a script without a line: the first one is missing
pub data FromNothing (may_lack : Bool) (text : List ℕ) (ending : Ending) : Type 0 where
  bad : text ≡ bad_step_text 1 → ending ≡ BadStep → FromNothing may_lack text ending
  stopped : RanOut may_lack text ending → FromNothing may_lack text ending

-- what is written for a script of these lines, and how its run ends
abbrev pub FromScript : (may_lack : Bool) → (judges : World → Verdict → Type 0) → List (List ℕ) → List ℕ → Ending → Type 0
FromScript may_lack judges [] text ending = FromNothing may_lack text ending
FromScript may_lack judges (line ∷ lines) text ending = FromOpening may_lack judges line lines text ending

-- what is written after a script's text: the line `memory` where memory ran out beside the steps
abbrev pub last_line : Ending → List ℕ
last_line (Judged verdict) = []
last_line BadStep = []
last_line OutOfMemory = codes "memory\n"

-- a text grew by something of which P holds
abbrev pub Grows : List ℕ → List ℕ → (List ℕ → Type 0) → Type 0
Grows old new P = (written : List ℕ) × (new ≡ old ++ written) × P written
