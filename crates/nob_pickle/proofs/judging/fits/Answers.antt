use Rattle.nob_pickle.proofs.Whole.{faulty}
use Rattle.nob_pickle.proofs.judging.fits.Goals as goal

pub returns-in-Err-clause-fits : goal.returns-in-Err-clause-fits
returns-in-Err-clause-fits c = (λ e. absurd (cc), λ fits. absurd (faulty c.args.value.now c.in-Err.fault c.in-Err.ensures.fault fits))
