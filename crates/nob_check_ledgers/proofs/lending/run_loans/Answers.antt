use Rattle.std.proofs.Common.{◌<◌, List, length, sym, ap, subst, ◌∙◌}
use Rattle.nob_model_work.specs.declared.work.Run.{Run}
use Rattle.nob_model_work.specs.Work.{run_after}
use Rattle.nob_model_types.proofs.Mapped.{changed_next}
use Rattle.nob_check_ledgers.proofs.lending.run_loans.Goals as goal

pub loop-run-preserved : goal.loop-run-preserved
loop-run-preserved c =
    let change : Run → Run = λ run. run_after c.args.past.now.here.space c.args.past.now.here.n c.args.past.now.deeds run in
    let at = c.loop-run in
    let lt : at.run-index < length c.args.runs = subst (λ (runs : List Run). at.run-index < length runs) (c.deref_mut-run-items.ensures.value ∙ c.into_vec-runs.ensures) c.loop-run-test.true in
    changed_next change c.args.runs at.run-items at.run-index c.run-item.result c.lend_run.new.run at.invariant lt c.run-item.is (c.lend_run.ensures ∙ ap change (sym c.run-item.is))
