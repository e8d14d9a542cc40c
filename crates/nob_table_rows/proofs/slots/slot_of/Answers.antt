use Rattle.std.proofs.Common.{sym, ◌∙◌}
use Rattle.nob_table_rows.proofs.Marked.{none_there, other_there, row_there}
use Rattle.nob_table_rows.proofs.slots.slot_of.Goals as goal

pub returns-in_default : goal.returns-in_default
returns-in_default c = sym (none_there c.args.rows.now c.requires c.args.rep.now c.count_below-at.result c.count_below-at.ensures.below c.count_below-at.ensures.from (sym c.row_of.ensures ∙ c.in_default.is))

pub returns-then-not-is_same : goal.returns-then-not-is_same
returns-then-not-is_same c =
    sym (other_there c.args.rows.now c.requires c.args.rep.now c.count_below-at.result c.count_below-at.ensures.below c.count_below-at.ensures.from c.in-Some.row (sym c.row_of.ensures ∙ c.in-Some.is) (sym c.is_same.ensures ∙ c.if-not-is_same.true))

pub returns : goal.returns
returns c =
    sym (row_there c.args.rows.now c.requires c.args.rep.now c.count_below-at.result c.count_below-at.ensures.below c.count_below-at.ensures.from c.in-Some.row (sym c.row_of.ensures ∙ c.in-Some.is) (sym c.is_same.ensures ∙ c.if-not-is_same.false))
