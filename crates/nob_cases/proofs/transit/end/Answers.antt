use Rattle.nob_cases.proofs.Strangers.{nothing_left}
use Rattle.nob_cases.proofs.transit.end.Goals as goal

pub end-requires : goal.end-requires
end-requires c = nothing_left c.args.table.bundles _ _ c.requires.known (rw c.requires.two at c.close.ensures) (rw c.requires.three at c.close-2.ensures)
