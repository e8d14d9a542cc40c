use Rattle.std.proofs.Common.{sym, ap, subst, ◌∙◌}
use Rattle.nob_space_calls.specs.Rows.{calls_in, AreRows}
use Rattle.nob_space_calls.proofs.Numbered.{calls_answered, are_answered}
use Rattle.nob_space_calls.proofs.rows.Rows.answer.Goals as goal

pub invariant_of-self : goal.invariant_of-self
invariant_of-self c = subst (λ rs. AreRows rs c.self.inside.to) (sym c.answer_call.ensures.rows) (are_answered c.self.inside.calls.rows c.self.inside.to c.self.invariant c.args.peer c.args.call)

pub returns-clause-calls : goal.returns-clause-calls
returns-clause-calls c = rw (← c.self.view_is) (ap calls_in c.answer_call.ensures.rows ∙ calls_answered c.args.peer c.args.call c.self.inside.calls.rows c.self.invariant.rising c.self.invariant.numbered)
