use Rattle.nob_world.proofs.Worlds.{frames_go}
use Rattle.nob_world.proofs.making.frames_due.Goals as goal

pub returns-in-Ok-clause-to : goal.returns-in-Ok-clause-to
returns-in-Ok-clause-to c L stands = frames_go _ _ _ L _ c.in-Ok.frames.items ((c.in-Ok.ensures {u = tt}).answer L stands)
