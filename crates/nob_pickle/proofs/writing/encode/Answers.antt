use Rattle.std.proofs.Common.{sym, ap, ◌∙◌, Ok}
use Rattle.nob_pickle.proofs.Whole.{faulty, fits_pickle}
use Rattle.nob_pickle.proofs.writing.encode.Goals as goal

pub returns-in_ok-pickle_of_len-in-Ok-clause-exact : goal.returns-in_ok-pickle_of_len-in-Ok-clause-exact
returns-in_ok-pickle_of_len-in-Ok-clause-exact c = fits_pickle c.args.value.now c.in-Ok.ensures.fits ∙ ap Ok (sym c.in_ok-pickle_of_len-in-Ok.ensures)

pub returns-in-Err-clause-only : goal.returns-in-Err-clause-only
returns-in-Err-clause-only c = λ fits. absurd (faulty c.args.value.now c.in-Err.fault c.in-Err.ensures.fault fits)
