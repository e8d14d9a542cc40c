use Rattle.nob_trace.proofs.numbers.+spells.Given as goal

abbrev pub decreases-spells : goal.decreases-spells
decreases-spells l = l.number
