use Rattle.nob_rounds.proofs.ending.+end_rounds.Given as goal

abbrev pub decreases-end_rounds : goal.decreases-end_rounds
decreases-end_rounds l = l.most
