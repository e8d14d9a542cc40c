use Rattle.std.proofs.Common.{not, rules, Option}
use Rattle.std.specs.Prelude.{◌==◌}
use Rattle.indexmap.proofs.CallerLemmas.{filter-RetainsPairs}
use Rattle.nob_item.specs.declared.item.Item.{Item}
use Rattle.nob_check_tables.specs.declared.came.Arrival.{Arrival}
use Rattle.nob_check_tables.proofs.came.others.Goals as goal

pub returns : goal.returns
returns c = filter-RetainsPairs _ (λ (count : Arrival × Option Item). not (c.args.peer == count.0.from)) _ (λ k v b w f call. search rules) _ _ c.retain.ensures.filtered
