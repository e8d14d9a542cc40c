use Rattle.nob_rounds.proofs.rounds.+deliver_each.Given as goal

abbrev pub decreases-deliver_each : goal.decreases-deliver_each
decreases-deliver_each l = l.count
