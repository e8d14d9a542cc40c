use Rattle.std.proofs.Common.{None}
use Rattle.nob_ids.specs.Names.{is_same}
use Rattle.nob_table_rows.specs.Order.{place_in}
use Rattle.nob_table.proofs.Ordered.{order_filter}
use Rattle.nob_table.proofs.Tables.{place_puts}
use Rattle.nob_table.proofs.table.ObjectTable.remove.Goals as goal

pub returns-clause-order : goal.returns-clause-order
returns-clause-order c =
    rw (← c.self.view_is) (λ reps order. order_filter (place_in c.self.inside.far.surrogates) (place_in c.remove.new.self.surrogates) reps order.0 order.1 (is_same c.args.rep)
    (place_puts c.self.inside.far.surrogates c.remove.new.self.surrogates c.args.rep None c.remove.ensures.surrogates))
