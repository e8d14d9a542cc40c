use Rattle.std.proofs.Common.{◌+◌, ◌≤◌, true, length}
use Rattle.nob_model_text.specs.Lines.{lines_of}
use Rattle.nob_script_text.proofs.Playing.{Completes}
use Rattle.nob_demo_scripts.specs.WorldScripts.{script_world, IsSafelyYes}
use Rattle.nob_demo_scripts.proofs.world_script.play_steps.Given as goal

-- what completes the lines that are left completes all
abbrev pub invariant-loop-line : goal.invariant-loop-line
invariant-loop-line l = (l.number + length l.left ≤ length l.steps + 2) × Completes true IsSafelyYes l.number (lines_of l.left) (lines_of l.steps) (script_world l.fn.world) (script_world l.world) l.fn.text.items l.text.items

-- each line leaves fewer bytes
abbrev pub decreases-loop-line : goal.decreases-loop-line
decreases-loop-line l = length l.left
