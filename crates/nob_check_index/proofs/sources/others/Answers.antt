use Rattle.std.proofs.Common.{not, rules, List}
use Rattle.std.specs.Prelude.{◌==◌}
use Rattle.indexmap.proofs.CallerLemmas.{filter-RetainsPairs}
use Rattle.nob_ids.specs.declared.wire_rep.WireRep.{WireRep}
use Rattle.nob_model_journal.specs.declared.losses.Source.{Source}
use Rattle.nob_check_index.proofs.sources.others.Goals as goal

pub returns : goal.returns
returns c = filter-RetainsPairs _ (λ (row : WireRep × List Source). not (c.args.peer == row.0.owner)) _ (λ k v b w f call. search rules) _ _ c.retain.ensures.filtered
