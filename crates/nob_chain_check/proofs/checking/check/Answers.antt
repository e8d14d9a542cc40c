use Rattle.std.proofs.Common.{List, length, reverse, sym, subst, ◌∙◌}
use Rattle.std.specs.Global.{Vec}
use Rattle.nob_model_types.specs.declared.entry.Entry.{Entry}
use Rattle.nob_model_journal.specs.Runs.{WorldRun}
use Rattle.nob_model_invariant.specs.Safe.{IsSafe}
use Rattle.nob_chain_check.proofs.Accepting.{run_of, safe_of, accepted_ok, err_only}
use Rattle.nob_chain_check.proofs.checking.check.Goals as goal

pub returns-in-Ok-clause-only : goal.returns-in-Ok-clause-only
returns-in-Ok-clause-only c = λ merged accepted. c.from_vec.ensures ∙ accepted_ok c.args.chains.items c.in-Ok.entries.items merged c.in-Ok.ensures.checked accepted

pub returns-in-Ok-clause-run : goal.returns-in-Ok-clause-run
returns-in-Ok-clause-run c = λ limits its.
    subst (λ (es : List Entry). WorldRun (length c.args.chains.items) limits (reverse es)) (sym c.from_vec.ensures)
    (run_of c.args.chains.items c.in-Ok.entries.items limits c.in-Ok.ensures.checked c.in-Ok.ensures.typed its)

pub returns-in-Ok-clause-safe : goal.returns-in-Ok-clause-safe
returns-in-Ok-clause-safe c =
    subst (λ (es : List Entry). IsSafe (length c.args.chains.items) (reverse es)) (sym c.from_vec.ensures)
    (safe_of c.args.chains.items c.in-Ok.entries.items c.in-Ok.ensures.checked c.in-Ok.ensures.typed)

pub returns-in-Err-clause-only : goal.returns-in-Err-clause-only
returns-in-Err-clause-only c = λ merged accepted. err_only (λ (entries : Vec Entry). entries.items) c.args.chains.items merged c.in-Err.error c.in-Err.ensures.checked accepted
