use Rattle.std.proofs.Common.{is_some, Some, sym, ap, ◌∙◌, true≢false}
use Rattle.nob_table_rows.proofs.Made.{length_each, once_each, puts_each}
use Rattle.nob_table.specs.declared.surrogates.Marked.{Marked}
use Rattle.nob_table.proofs.Marks.{surrogate_of, row_there, mark_at, marks_same}
use Rattle.nob_table.proofs.surrogates.Surrogates.set.Goals as goal

-- there is a row
not_none : goal.In_default → ⊥
not_none c = true≢false (sym (row_there c.self.inside.rows.rows c.args.rep.now (rw (← c.self.view_is) at c.requires)) ∙ ap is_some (sym c.get.ensures ∙ c.in_default.is))

pub returns-in_default-clause-rows : goal.returns-in_default-clause-rows
returns-in_default-clause-rows c = absurd (not_none c)

pub returns-in_default-clause-once : goal.returns-in_default-clause-once
returns-in_default-clause-once c = absurd (not_none c)

-- the row that is written
abbrev marked : goal.After-set → Marked
marked c = record { surrogate = c.args.surrogate; kept = c.in-Some.marked.kept }

pub returns-clause-rows : goal.returns-clause-rows
returns-clause-rows c = rw (← c.self.view_is) (puts_each surrogate_of c.self.inside.rows.rows c.set.new.self.rows c.args.rep.now (Some (marked c)) c.set.ensures.rows)

pub returns-clause-kept : goal.returns-clause-kept
returns-clause-kept c =
    rw (← c.self.view_is) (marks_same c.self.inside.rows.rows c.set.new.self.rows c.args.rep.now (marked c) c.set.ensures.rows
    (mark_at c.self.inside.rows.rows c.args.rep.now (Some c.in-Some.marked) (sym c.get.ensures ∙ c.in-Some.is)))

pub returns-clause-len : goal.returns-clause-len
returns-clause-len c = rw (← c.self.view_is, length_each surrogate_of c.self.inside.rows.rows, length_each surrogate_of c.set.new.self.rows) c.set.ensures.len

pub returns-clause-once : goal.returns-clause-once
returns-clause-once c = once_each surrogate_of c.set.new.self.rows c.set.ensures.once
