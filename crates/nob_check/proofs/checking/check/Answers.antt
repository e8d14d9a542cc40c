use Rattle.std.proofs.Common.{List, length, reverse, sym, subst, ◌∙◌}
use Rattle.std.specs.Global.{Vec}
use Rattle.nob_model_types.specs.declared.entry.Entry.{Entry}
use Rattle.nob_model_journal.specs.Runs.{WorldRun}
use Rattle.nob_model_invariant.specs.Safe.{IsSafe}
use Rattle.nob_check.proofs.Worlds.{world_run}
use Rattle.nob_check.proofs.Accepting.{safe_of, accepted_ok, err_only}
use Rattle.nob_check.proofs.checking.check.Goals as goal

pub returns-in-Ok-clause-only : goal.returns-in-Ok-clause-only
returns-in-Ok-clause-only c = λ merged accepted. c.from_vec.ensures ∙ accepted_ok c.args.traces.now c.in-Ok.entries.items merged c.in-Ok.ensures.checked accepted

pub returns-in-Ok-clause-run : goal.returns-in-Ok-clause-run
returns-in-Ok-clause-run c = λ limits its.
    let accepted = c.in-Ok.ensures.checked in
    subst (λ (es : List Entry). WorldRun (length c.args.traces.now) limits (reverse es)) (sym c.from_vec.ensures)
    ((world_run c.args.traces.now c.in-Ok.entries.items limits accepted.runs.one_each c.in-Ok.ensures.typed accepted.is_merged accepted.origins its).0)

pub returns-in-Ok-clause-safe : goal.returns-in-Ok-clause-safe
returns-in-Ok-clause-safe c =
    subst (λ (es : List Entry). IsSafe (length c.args.traces.now) (reverse es)) (sym c.from_vec.ensures)
    (safe_of c.args.traces.now c.in-Ok.entries.items c.in-Ok.ensures.checked c.in-Ok.ensures.typed)

pub returns-in-Err-clause-only : goal.returns-in-Err-clause-only
returns-in-Err-clause-only c = λ merged accepted. err_only (λ (entries : Vec Entry). entries.items) c.args.traces.now merged c.in-Err.error c.in-Err.ensures.checked accepted
