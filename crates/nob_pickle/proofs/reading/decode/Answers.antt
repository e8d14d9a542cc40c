use Rattle.std.proofs.Common.{arith}
use Rattle.nob_pickle.proofs.Whole.{found_by, only_by}
use Rattle.nob_pickle.proofs.reading.decode.Goals as goal

pub returns-clause-found : goal.returns-clause-found
returns-clause-found c = found_by c.whole.result c.args.bytes.now (λ i. omega (arith, c.type_inv.bytes i)) c.whole.ensures.exact

pub returns-clause-only : goal.returns-clause-only
returns-clause-only c = λ v s. only_by c.whole.result c.args.bytes.now v s c.whole.ensures.exact
