use Rattle.std.proofs.Common.{List, ◌++◌, Some, None, length}
use Rattle.test_worlds.specs.declared.script.Move.{Move}
use Rattle.nob_model_text.specs.Lines.{lines_of}
use Rattle.test_worlds.specs.Scripts.{SayAll}
use Rattle.test_worlds.proofs.script.moves_of.Given as goal

-- what the lines that are left spell stands behind the moves that were read
abbrev pub invariant-loop-line : goal.invariant-loop-line
invariant-loop-line l = ((rest : List Move) → SayAll (lines_of l.left) (Some rest) → SayAll (lines_of l.text) (Some (l.moves.items ++ rest))) × (SayAll (lines_of l.left) None → SayAll (lines_of l.text) None)

-- each line leaves fewer bytes
abbrev pub decreases-loop-line : goal.decreases-loop-line
decreases-loop-line l = length l.left
