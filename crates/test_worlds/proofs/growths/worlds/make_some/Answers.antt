use Rattle.std.proofs.Common.{◌<◌, List, length, reverse, take, subst, sym, ◌∙◌, true≢false, arith}
use Rattle.std.proofs.lemmas.List.{take_all}
use Rattle.std.proofs.lemmas.Option.{slice_get_within}
use Rattle.nob_model_types.specs.declared.entry.Entry.{Entry}
use Rattle.nob_model_types.specs.declared.entry.WorldStep.{WorldStep}
use Rattle.nob_model_journal.specs.Runs.{WorldRun}
use Rattle.test_worlds.specs.Makings.{Makes}
use Rattle.test_worlds.proofs.Growing.{ran, ran_past, stopped_at}
use Rattle.test_worlds.proofs.growths.worlds.make_some.Goals as goal

pub returns-in-Ok-clause-made : goal.returns-in-Ok-clause-made
returns-in-Ok-clause-made c =
    let old = c.args.world.now in
    let new = c.run-outcome.new.self in
    let run_old = subst (λ (entries : List Entry). WorldRun old.n (λ _. old.limits) (reverse entries)) c.entries.ensures.entries c.entries.ensures.run in
    let run_new = subst (λ (entries : List Entry). WorldRun new.n (λ _. new.limits) (reverse entries)) c.entries-2.ensures.entries c.entries-2.ensures.run in
    subst (λ (steps : List WorldStep). Makes (reverse steps) old new) (sym (take_all (length c.args.steps.now) c.args.steps.now (omega arith)))
    (ran old new (reverse c.args.steps.now) run_old run_new c.run-outcome.ensures.n c.run-outcome.ensures.limits (c.in-Ok.ensures {u = tt}).from)

pub returns-then-is_memory-clause-made : goal.returns-then-is_memory-clause-made
returns-then-is_memory-clause-made c =
    let old = c.args.world.now in
    let new = c.run-outcome.new.self in
    let run_old = subst (λ (entries : List Entry). WorldRun old.n (λ _. old.limits) (reverse entries)) c.entries.ensures.entries c.entries.ensures.run in
    let run_new = subst (λ (entries : List Entry). WorldRun new.n (λ _. new.limits) (reverse entries)) c.entries-2.ensures.entries c.entries-2.ensures.run in
    ran old new (reverse (take c.in-Err.place c.args.steps.now)) run_old run_new c.run-outcome.ensures.n c.run-outcome.ensures.limits (c.in-Err.ensures {u = tt}).from

pub returns-else-is_memory-clause-few : goal.returns-else-is_memory-clause-few
returns-else-is_memory-clause-few c =
    let stopped = (c.in-Err.ensures {u = tt}).stopped in
    let within : c.in-Err.place < length c.args.steps.now = slice_get_within c.args.steps.now c.in-Err.place stopped.0 stopped.1 in
    omega (arith, within)

pub returns-else-is_memory-clause-made : goal.returns-else-is_memory-clause-made
returns-else-is_memory-clause-made c =
    let old = c.args.world.now in
    let new = c.run-outcome.new.self in
    let run_old = subst (λ (entries : List Entry). WorldRun old.n (λ _. old.limits) (reverse entries)) c.entries.ensures.entries c.entries.ensures.run in
    let run_new = subst (λ (entries : List Entry). WorldRun new.n (λ _. new.limits) (reverse entries)) c.entries-2.ensures.entries c.entries-2.ensures.run in
    let made = ran old new (reverse (take c.in-Err.place c.args.steps.now)) run_old run_new c.run-outcome.ensures.n c.run-outcome.ensures.limits (c.in-Err.ensures {u = tt}).from in
    let stopped = (c.in-Err.ensures {u = tt}).stopped in
    let past = stopped_at stopped.0 c.in-Err.error new (sym c.frames.ensures.frames ∙ c.frames.ensures.transmitted_frames) (λ wanted. true≢false (sym (c.is_memory.ensures.1 wanted) ∙ c.if-is_memory.false)) stopped.2 in
    ran_past old new c.args.steps.now c.in-Err.place stopped.0 stopped.1 c.run-outcome.ensures.n made past
