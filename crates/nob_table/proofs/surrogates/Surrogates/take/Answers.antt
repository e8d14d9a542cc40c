use Rattle.std.proofs.Common.{None}
use Rattle.nob_table_rows.proofs.Made.{length_each, once_each, some_each, puts_each}
use Rattle.nob_table.proofs.Marks.{surrogate_of, mark_of}
use Rattle.nob_table.proofs.surrogates.Surrogates.take.Goals as goal

pub returns-clause-puts : goal.returns-clause-puts
returns-clause-puts c = rw (← c.self.view_is) (puts_each surrogate_of c.self.inside.rows.rows c.take.new.self.rows c.args.rep.now None c.take.ensures.puts)

pub returns-clause-kept : goal.returns-clause-kept
returns-clause-kept c = rw (← c.self.view_is) (puts_each mark_of c.self.inside.rows.rows c.take.new.self.rows c.args.rep.now None c.take.ensures.puts)

pub returns-clause-once : goal.returns-clause-once
returns-clause-once c = once_each surrogate_of c.take.new.self.rows c.take.ensures.once

pub returns-clause-len : goal.returns-clause-len
returns-clause-len c =
    rw (← c.self.view_is, length_each surrogate_of c.self.inside.rows.rows, length_each surrogate_of c.take.new.self.rows, some_each surrogate_of c.self.inside.rows.rows c.args.rep.now) c.take.ensures.len
