use Rattle.std.proofs.Common.{◌≡◌, Some, sym, subst}
use Rattle.nob_world.specs.Worlds.{World, step_fault, world_of}
use Rattle.nob_world.proofs.Safe.{safe}
use Rattle.nob_world.proofs.world.World.step.Goals as goal

pub invariant_of-self : goal.invariant_of-self
invariant_of-self c = c.take_step.ensures.world c.self.inside.limits c.self.invariant

pub returns-clause-safe : goal.returns-clause-safe
returns-clause-safe c = safe (world_of c.self.inside.n c.self.inside.limits c.take_step.new.spaces.items c.take_step.new.entries.items c.take_step.new.frames.items) (c.take_step.ensures.world c.self.inside.limits c.self.invariant)

pub returns-clause-fault : goal.returns-clause-fault
returns-clause-fault c fault is = c.take_step.ensures.fault fault (subst (λ (w : World). step_fault w.n w.frames c.args.step.now ≡ Some fault) (sym c.self.view_is) is)
