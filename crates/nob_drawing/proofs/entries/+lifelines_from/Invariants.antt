use Rattle.nob_drawing.proofs.entries.+lifelines_from.Given as goal

abbrev pub decreases-lifelines_from : goal.decreases-lifelines_from
decreases-lifelines_from l = l.count
