use Rattle.nob_drawing_plan.proofs.bar.+free_lane.Given as goal

abbrev pub decreases-free_lane : goal.decreases-free_lane
decreases-free_lane l = l.tries
