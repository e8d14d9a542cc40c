use Rattle.std.proofs.Common.{ℕ, reverse, subst, ◌∙◌}
use Rattle.std.specs.Prelude.{IfOk}
use Rattle.nob_ids.specs.declared.limits.Limits.{Limits}
use Rattle.nob_model_journal.specs.Runs.{WorldRun}
use Rattle.test_worlds.proofs.growths.worlds.entries_of.Goals as goal

pub returns-clause-run : goal.returns-clause-run
returns-clause-run c =
    subst (λ (n : ℕ). IfOk c.entries_in-entries.result (λ entries. WorldRun n (λ _. c.args.script.now.limits) (reverse entries.items))) (c.entries_in-entries.ensures.n ∙ c.in_ok-world.ensures.n)
    (subst (λ (limits : Limits). IfOk c.entries_in-entries.result (λ entries. WorldRun c.entries_in-entries.new.world.n (λ _. limits) (reverse entries.items))) (c.entries_in-entries.ensures.limits ∙ c.in_ok-world.ensures.limits)
    c.entries_in-entries.ensures.run)
