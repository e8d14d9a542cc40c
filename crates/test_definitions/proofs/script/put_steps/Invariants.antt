use Rattle.std.proofs.Common.{◌+◌, ◌≤◌, false, length}
use Rattle.nob_model_text.specs.Lines.{lines_of}
use Rattle.nob_script_text.specs.Scripts.{IsVerdictOf}
use Rattle.nob_script_text.proofs.Playing.{Completes}
use Rattle.test_definitions.proofs.script.put_steps.Given as goal

-- what completes the lines that are left completes all
abbrev pub invariant-loop-line : goal.invariant-loop-line
invariant-loop-line l = (l.number + length l.left ≤ length l.steps + 2) × Completes false IsVerdictOf l.number (lines_of l.left) (lines_of l.steps) l.fn.world l.world l.fn.text.items l.text.items

-- each line leaves fewer bytes
abbrev pub decreases-loop-line : goal.decreases-loop-line
decreases-loop-line l = length l.left
