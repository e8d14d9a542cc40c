use Rattle.std.proofs.Common.{sym, ◌∙◌}
use Rattle.nob_pins.proofs.Rows.{none_last}
use Rattle.nob_pins.proofs.table.end_all.Goals as goal
use Rattle.std.proofs.Common.{ap}
use Rattle.nob_pins.specs.Peers.{all_pinned}

pub end-requires : goal.end-requires
end-requires c = (none_last c.pop.new.self.items c.in-Some.row (ap all_pinned (sym c.in-Some.ensures.items) ∙ c.loop-row.invariant)).1

pub loop-row-preserved : goal.loop-row-preserved
loop-row-preserved c = (none_last c.pop.new.self.items c.in-Some.row (ap all_pinned (sym c.in-Some.ensures.items) ∙ c.loop-row.invariant)).0
