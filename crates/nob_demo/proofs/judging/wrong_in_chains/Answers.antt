use Rattle.std.proofs.Common.{Some, None, subst}
use Rattle.nob_model_chains.specs.Lowest.{IsLowest}
use Rattle.nob_chain_check.specs.Running.{IsRightAndSealed}
use Rattle.nob_demo.proofs.Judged.{chain_wrong}
use Rattle.nob_demo.proofs.judging.wrong_in_chains.Goals as goal

pub returns-in-Some : goal.returns-in-Some
returns-in-Some c = chain_wrong c.args.chains.now c.in-Some.wrong c.entry_in.result c.requires (subst (IsLowest IsRightAndSealed c.args.chains.now) c.in-Some.is c.in_ok-wrong.ensures) c.entry_in.ensures

pub returns-in-None : goal.returns-in-None
returns-in-None c = subst (IsLowest IsRightAndSealed c.args.chains.now) c.in-None.is c.in_ok-wrong.ensures
