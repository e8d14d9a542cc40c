use Rattle.nob_exchange.proofs.carrying.+exchange_up_to.Given as goal

abbrev pub decreases-exchange_up_to : goal.decreases-exchange_up_to
decreases-exchange_up_to l = l.times
