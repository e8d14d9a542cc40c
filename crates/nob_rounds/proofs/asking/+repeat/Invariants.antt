use Rattle.nob_rounds.proofs.asking.+repeat.Given as goal

abbrev pub decreases-repeat : goal.decreases-repeat
decreases-repeat l = l.most
