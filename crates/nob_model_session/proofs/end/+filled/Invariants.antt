use Rattle.nob_model_session.proofs.end.+filled.Given as goal

abbrev pub decreases-filled : goal.decreases-filled
decreases-filled l = l.count
