use Rattle.nob_rounds.proofs.rounds.+turns_up_to.Given as goal

abbrev pub decreases-turns_up_to : goal.decreases-turns_up_to
decreases-turns_up_to l = l.last
