use Rattle.std.proofs.Common.{ℕ, List, [], ◌++◌, Some, ap, refl, codes}
use Rattle.nob_demo_spaces.specs.Scores.{empty}
use Rattle.nob_demo_spaces.specs.declared.ending.Stop.TheVariants as stops
use Rattle.nob_demo_spaces.proofs.playing.play.Goals as goal

-- there was no memory for the nodes
pub returns-in_default : goal.returns-in_default
returns-in_default g c = (Some stops.OutOfMemory, empty, [], [], tt, (ap (λ (text : List ℕ). text ++ codes "memory\n") c.requires, refl))
