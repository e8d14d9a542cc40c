use Rattle.std.proofs.Common.{List, ◌+◌, ◌≤◌, length}
use Rattle.nob_ids.specs.declared.limits.Limits.{Limits}
use Rattle.nob_model_session.specs.declared.entry.PairEntry.{PairEntry}
use Rattle.nob_model_text.specs.Lines.{lines_of}
use Rattle.nob_demo_scripts.specs.Pairs.{PairStands}
use Rattle.nob_demo_scripts.proofs.Playing.{Completes}
use Rattle.nob_demo_scripts.proofs.pair_script.play_steps.Given as goal

-- the pair stands for a run of the lines so far, and what completes the lines left completes all
abbrev pub invariant-loop-line : goal.invariant-loop-line
invariant-loop-line l = record {
  few : l.number + length l.left ≤ length l.fn.steps + 2;
  run : (limits : Limits) (J : List PairEntry) → PairStands limits l.fn.pair J → (K : List PairEntry) × PairStands limits l.pair K × Completes limits l.number (lines_of l.left) (lines_of l.fn.steps) J K l.fn.text.items l.text.items;
}

abbrev pub decreases-loop-line : goal.decreases-loop-line
decreases-loop-line l = length l.left
