use Rattle.nob_rounds.proofs.askings.+numbers_up_to.Given as goal

abbrev pub decreases-numbers_up_to : goal.decreases-numbers_up_to
decreases-numbers_up_to l = l.last
