use Rattle.nob_rounds.proofs.askings.+spaces_up_to.Given as goal

abbrev pub decreases-spaces_up_to : goal.decreases-spaces_up_to
decreases-spaces_up_to l = l.last
