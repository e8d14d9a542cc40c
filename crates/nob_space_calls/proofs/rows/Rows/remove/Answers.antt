use Rattle.std.proofs.Common.{not, filter, sym, ap, ◌∙◌}
use Rattle.nob_model_work.specs.Work.{is_call}
use Rattle.nob_space_calls.specs.Rows.{calls_in}
use Rattle.nob_space_calls.proofs.Numbered.{are_unchanged, are_removed, calls_removed}
use Rattle.nob_space_calls.proofs.rows.Rows.remove.Goals as goal

pub invariant_of-self : goal.invariant_of-self
invariant_of-self c = are_unchanged c.self.inside.calls.rows c.self.inside.to c.self.invariant c.get-number.result c.take.new.self.rows (sym c.take.ensures.item ∙ c.in_default.is) c.take.ensures.rows

pub returns-in_default-clause-calls : goal.returns-in_default-clause-calls
returns-in_default-clause-calls c =
    rw (← c.self.view_is) (ap calls_in c.take.ensures.rows ∙ calls_removed c.get-number.result c.self.inside.calls.rows c.self.invariant.rising c.self.invariant.numbered
    ∙ ap (λ n. filter (λ own. not (is_call n own)) (calls_in c.self.inside.calls.rows)) c.get-number.ensures)

pub invariant_of-self-2 : goal.invariant_of-self-2
invariant_of-self-2 c =
    are_removed c.self.inside.calls.rows c.self.inside.to c.self.invariant c.get-number.result c.in-Some.own c.take.new.self.rows c.take-2.new.self (sym c.take.ensures.item ∙ c.in-Some.is) c.take.ensures.rows c.take-2.ensures.numbers

pub returns-clause-calls : goal.returns-clause-calls
returns-clause-calls c =
    rw (← c.self.view_is) (ap calls_in c.take.ensures.rows ∙ calls_removed c.get-number.result c.self.inside.calls.rows c.self.invariant.rising c.self.invariant.numbered
    ∙ ap (λ n. filter (λ own. not (is_call n own)) (calls_in c.self.inside.calls.rows)) c.get-number.ensures)
