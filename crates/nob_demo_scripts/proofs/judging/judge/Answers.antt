use Rattle.std.proofs.Common.{List, reverse, refl, subst, ◌∙◌}
use Rattle.std.proofs.lemmas.List.{append-nil}
use Rattle.nob_model_types.specs.declared.entry.Entry.{Entry}
use Rattle.nob_model_journal.specs.declared.verdict.Verdict.TheVariants.{Yes}
use Rattle.nob_script_text.specs.Scripts.{AtEnd}
use Rattle.nob_world.specs.Worlds.{IsSafe}
use Rattle.nob_demo_scripts.proofs.judging.judge.Goals as goal

pub returns-clause-judged : goal.returns-clause-judged
returns-clause-judged c =
    let safe = subst (λ (entries : List Entry). IsSafe c.args.world.now.n (reverse entries)) c.entries.ensures.entries c.entries.ensures.safe in
    (c.verdict_line.result.now, append-nil c.extend_from_slice.new.self.items ∙ c.in-Ok.ensures.items, AtEnd.judged Yes (refl, safe) c.verdict_line.ensures refl)
