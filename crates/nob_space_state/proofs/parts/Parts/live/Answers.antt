use Rattle.std.proofs.Common.{◌∙◌}
use Rattle.nob_space_state.proofs.Exported.{objects_there}
use Rattle.nob_space_state.proofs.parts.Parts.live.Goals as goal

pub returns : goal.returns
returns c limits D stands = c.object_count.ensures.count ∙ objects_there stands c.object_count.ensures.once c.object_count.ensures.live
