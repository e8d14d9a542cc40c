use Rattle.std.proofs.Common.{List, reverse, subst, sym}
use Rattle.nob_model_types.specs.declared.entry.Entry.{Entry}
use Rattle.nob_model_journal.specs.Runs.{WorldRun}
use Rattle.test_worlds.proofs.growths.worlds.entries_made.Goals as goal

pub returns-clause-run : goal.returns-clause-run
returns-clause-run c = subst (λ (made : List Entry). WorldRun c.args.world.now.n (λ _. c.args.world.now.limits) (reverse made)) (sym (c.in-Ok.ensures {u = tt})) c.entries-made.ensures.run
