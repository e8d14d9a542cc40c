use Rattle.std.proofs.Common.{◌≡◌, true, sym, ap, ◌∙◌}
use Rattle.nob_table_rows.specs.declared.standing.Standing.{Standing}
use Rattle.nob_table_rows.specs.Standings.{is_pending}
use Rattle.nob_table.specs.Table.{standing}
use Rattle.nob_table.proofs.Stands.{answered_one}
use Rattle.nob_table.proofs.table.ObjectTable.answer.Goals as goal

pub returns-clause-answered : goal.returns-clause-answered
returns-clause-answered c =
    let pending : is_pending (standing c.args.self.now c.args.rep).state ≡ true =
    ap (λ (s : Standing). is_pending s.state) (sym c.state-standing.ensures.stands) ∙ sym c.if-not-is_pending.ensures in
    rw (← c.self.view_is, c.set_answer.ensures.counted) (answered_one _ _ _ _ _ c.args.rep c.set_answer.new.self.surrogates c.args.grant (rw (← c.self.view_is) at pending) c.set_answer.ensures.surrogates)
