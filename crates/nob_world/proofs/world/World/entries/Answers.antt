use Rattle.std.proofs.Common.{List, reverse, sym, subst}
use Rattle.nob_model_types.specs.declared.entry.Entry.{Entry}
use Rattle.nob_model_journal.specs.Runs.{WorldRun}
use Rattle.nob_model_invariant.specs.Typed.{AreOfTypes}
use Rattle.nob_world.specs.Worlds.{World, IsSafe, world_of}
use Rattle.nob_world.proofs.Safe.{safe}
use Rattle.nob_world.proofs.world.World.entries.Goals as goal

pub returns-clause-safe : goal.returns-clause-safe
returns-clause-safe c =
    subst (λ (w : World). IsSafe w.n (reverse c.as_slice.result.now)) c.self.view_is
    (subst (λ (es : List Entry). IsSafe c.self.inside.n (reverse es)) (sym c.as_slice.ensures.value) (safe (world_of c.self.inside.n c.self.inside.limits c.self.inside.spaces.items c.self.inside.entries.items c.self.inside.frames.items) c.self.invariant))

pub returns-clause-run : goal.returns-clause-run
returns-clause-run c =
    subst (λ (w : World). WorldRun w.n (λ _. w.limits) (reverse c.as_slice.result.now)) c.self.view_is
    (subst (λ (es : List Entry). WorldRun c.self.inside.n (λ _. c.self.inside.limits) (reverse es)) (sym c.as_slice.ensures.value) c.self.invariant.run)

pub returns-clause-typed : goal.returns-clause-typed
returns-clause-typed c = subst (λ (es : List Entry). AreOfTypes (reverse es)) (sym c.as_slice.ensures.value) c.self.invariant.typed
