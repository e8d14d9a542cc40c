use Rattle.std.proofs.Common.{Some, is_some, sym, ap, ◌∙◌}
use Rattle.nob_table_rows.specs.Order.{place_in}
use Rattle.nob_table_rows.specs.Standings.{waiting_surrogate}
use Rattle.nob_table.proofs.Ordered.{order_push}
use Rattle.nob_table.proofs.Tables.{place_puts, no_place}
use Rattle.nob_table.proofs.table.ObjectTable.pending.Goals as goal

pub returns-clause-order : goal.returns-clause-order
returns-clause-order c =
    let none = no_place _ _ _ _ c.self.inside.far.counted c.self.inside.far.surrogates c.self.invariant c.args.rep (ap is_some (sym c.counts.ensures) ∙ sym c.is_some.ensures ∙ c.if-is_some.false) in
    rw (← c.self.view_is) (λ reps order. order_push (place_in c.self.inside.far.surrogates) (place_in c.push.new.self.surrogates) reps order.0 order.1 c.args.rep c.self.inside.far.dirties
    (place_puts c.self.inside.far.surrogates c.push.new.self.surrogates c.args.rep (Some (waiting_surrogate c.self.inside.far.dirties)) c.in_ok-push.ensures.surrogates) none c.self.invariant.sent)
