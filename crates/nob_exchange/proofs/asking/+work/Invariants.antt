use Rattle.nob_exchange.proofs.asking.+work.Given as goal

abbrev pub decreases-work : goal.decreases-work
decreases-work l = l.most
