use Rattle.std.proofs.Common.{sym, ap, subst, ◌∙◌}
use Rattle.nob_model_work.specs.Work.{call_after_close}
use Rattle.nob_space_calls.specs.Rows.{calls_in, changed, AreRows}
use Rattle.nob_space_calls.proofs.Numbered.{are_closed, calls_closed}
use Rattle.nob_space_calls.proofs.rows.Rows.close.Goals as goal

pub invariant_of-self : goal.invariant_of-self
invariant_of-self c = subst (λ rs. AreRows rs c.self.inside.to) (sym c.end_calls.ensures.rows) (are_closed c.self.inside.calls.rows c.self.inside.to c.self.invariant c.args.peer c.args.ready.now.replies c.iter.result)

pub returns-clause-calls : goal.returns-clause-calls
returns-clause-calls c =
    rw (← c.self.view_is) (ap calls_in c.end_calls.ensures.rows
    ∙ ap (λ ks. calls_in (changed (call_after_close c.args.peer c.args.ready.now.replies) ks c.self.inside.calls.rows)) (c.iter.ensures.items ∙ c.self.invariant.listed c.args.peer)
    ∙ calls_closed c.args.peer c.args.ready.now.replies c.self.inside.calls.rows c.self.invariant.rising)
