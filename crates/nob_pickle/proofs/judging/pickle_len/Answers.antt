use Rattle.nob_pickle.proofs.Whole.{judged_by}
use Rattle.nob_pickle.proofs.judging.pickle_len.Goals as goal

pub returns-clause-fits : goal.returns-clause-fits
returns-clause-fits c = judged_by c.args.value.now c.judged.result c.judged.ensures.exact c.judged.ensures.typed
