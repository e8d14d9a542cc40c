use Rattle.std.proofs.Common.{not, rules}
use Rattle.std.proofs.lemmas.Fn.{filter_same}
use Rattle.nob_ids.specs.declared.wire_rep.WireRep.{WireRep}
use Rattle.nob_check_ledgers.specs.Making.{can_lend}
use Rattle.nob_check_ledgers.proofs.making.without_lendable.Goals as goal

pub returns : goal.returns
returns c = filter_same _ (λ (rep : WireRep). not (can_lend c.args.past.now.here.space c.args.past.now.here.n c.args.past.now.deeds rep)) _ (λ x b f call. search rules) _ _ c.retain.ensures.filtered
