-- A script that is run on a world of spaces.
use Rattle.std.specs.Prelude.{◌≡◌, ⊤, ℕ, true, List, codes, Result, Ok, Err}
use Rattle.nob_model_types.specs.declared.answer.Answer.{Answer}
use Rattle.nob_model_text.specs.Lines.{lines_of, bad_step_text}
use Rattle.nob_script_text.specs.declared.ending.Ending.{Ending}
use Rattle.nob_script_text.specs.declared.ending.Ending.TheVariants.{Judged, BadStep}
use Rattle.nob_script_text.specs.declared.ending.Ending.TheVariants as ending
use Rattle.nob_model_journal.specs.declared.verdict.Verdict.{Verdict}
use Rattle.nob_model_journal.specs.declared.verdict.Verdict.TheVariants.{Yes}
use Rattle.nob_script_text.specs.Scripts.{FromScript, RanOut}
use Rattle.nob_script_text.specs.Worlds.{result_text}
use Rattle.nob_script_text.specs.Worlds as scripts
use Rattle.nob_world.specs.Worlds.{World, journal, IsSafe}
use Rattle.nob_world.specs.declared.error.WorldError.{WorldError}
use Rattle.nob_world.specs.declared.error.WorldError.TheVariants.{Refused, NoSpace, NoFrame, OutOfMemory}

-- a world of spaces as a script speaks of it
abbrev pub script_world : World → scripts.World
script_world world = record { n = world.n; limits = world.limits; journal = journal world; frames = world.frames }

-- what is written of what a step gave, where so many frames were transmitted before
abbrev pub step_result_text : ℕ → Result Answer WorldError → List ℕ
step_result_text before (Ok answer) = result_text before (Ok answer)
step_result_text before (Err (Refused refusal)) = result_text before (Err refusal)
step_result_text before (Err NoSpace) = codes "X1"
step_result_text before (Err NoFrame) = codes "X2"
step_result_text before (Err OutOfMemory) = codes "S14"

-- a world is judged yes, and all that is proved of worlds holds of it: fronts, withdraws, losses and findings, and nothing leaks
abbrev pub IsSafelyYes : scripts.World → Verdict → Type 0
IsSafelyYes world verdict = (verdict ≡ Yes) × IsSafe world.n world.journal

-- what is written for a script, and how its run ends: memory may be wanted
abbrev pub Plays : List ℕ → List ℕ → Ending → Type 0
Plays script text ending = FromScript true IsSafelyYes (lines_of script) text ending

-- what is written at the end of a run whose line n is no step, or that memory runs out for
pub data EndsBadly (n : ℕ) (written : List ℕ) (ending : Ending) : Type 0 where
  bad : written ≡ bad_step_text n → ending ≡ BadStep → EndsBadly n written ending
  stopped : RanOut true written ending → EndsBadly n written ending

-- where a verdict is written it is yes
abbrev pub SaysYes : Ending → Type 0
SaysYes (Judged verdict) = verdict ≡ Yes
SaysYes BadStep = ⊤
SaysYes ending.OutOfMemory = ⊤
