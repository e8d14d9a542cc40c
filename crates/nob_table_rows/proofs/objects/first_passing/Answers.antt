use Rattle.std.proofs.Common.{sym, ◌∙◌}
use Rattle.nob_table_rows.proofs.LiveRows.{once_by_index}
use Rattle.nob_table_rows.proofs.Marked.{first_marked, none_marked}
use Rattle.nob_table_rows.proofs.objects.first_passing.Goals as goal

pub returns-in_default : goal.returns-in_default
returns-in_default c = λ test marked. none_marked test c.args.slots.now.rows c.args.marks.now c.args.index c.count_below-start.result (once_by_index c.args.slots.now.rows c.requires.by_index) c.requires.by_index marked (λ k f got less. c.count_below-start.ensures.below k f got less) c.in_default.ensures

pub returns : goal.returns
returns c = λ test marked. first_marked test c.args.slots.now.rows c.args.marks.now c.args.index c.count_below-start.result (once_by_index c.args.slots.now.rows c.requires.by_index) c.requires.by_index marked (λ k f got less. c.count_below-start.ensures.below k f got less)
    (λ k f got le. c.count_below-start.ensures.from k f got le) c.in-Some.at c.in-Some-row.slot (sym c.row.ensures ∙ c.in-Some-row.is) c.in-Some.ensures
