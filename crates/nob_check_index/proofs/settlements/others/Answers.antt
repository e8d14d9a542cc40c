use Rattle.std.proofs.Common.{not, rules}
use Rattle.std.specs.Prelude.{◌==◌}
use Rattle.std.proofs.lemmas.Fn.{filter_same}
use Rattle.nob_check_index.specs.declared.settlements.Settlement.{Settlement}
use Rattle.nob_check_index.proofs.settlements.others.Goals as goal

pub returns : goal.returns
returns c = filter_same _ (λ (settlement : Settlement). not (c.args.peer == settlement.peer)) _ (λ x b f call. search rules) _ _ c.retain.ensures.filtered
