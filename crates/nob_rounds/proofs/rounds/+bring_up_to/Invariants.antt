use Rattle.nob_rounds.proofs.rounds.+bring_up_to.Given as goal

abbrev pub decreases-bring_up_to : goal.decreases-bring_up_to
decreases-bring_up_to l = l.last
