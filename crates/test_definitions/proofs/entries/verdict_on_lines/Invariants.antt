use Rattle.std.proofs.Common.{◌+◌, ◌≤◌, length, reverse}
use Rattle.nob_model_text.specs.Lines.{lines_of}
use Rattle.test_definitions.proofs.Entering.{Reads}
use Rattle.test_definitions.proofs.entries.verdict_on_lines.Given as goal

-- what is written for the lines that are left is written for all
abbrev pub invariant-loop-line : goal.invariant-loop-line
invariant-loop-line l = (l.number + length l.left ≤ length l.lines + 2) × Reads l.number (reverse l.journal.items) (lines_of l.left) (lines_of l.lines)

-- each line leaves fewer bytes
abbrev pub decreases-loop-line : goal.decreases-loop-line
decreases-loop-line l = length l.left
