use Rattle.std.proofs.Common.{List, sym, subst}
use Rattle.nob_keeper.specs.Receipt.{Receipt}
use Rattle.nob_agents.specs.Sending.{AreTied}
use Rattle.nob_agents.proofs.sender.Sender.new.Goals as goal

pub invariant_of-result : goal.invariant_of-result
invariant_of-result g c =
    subst (λ (receipts : List Receipt). AreTied (record { ways = c.args.ways.items; receipts = receipts; handled = 0 })) (sym c.requires.seat) (record { tied = c.requires.ways; apart = c.requires.apart; asked = tt })
