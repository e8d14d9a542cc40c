use Rattle.std.proofs.Common.{not, rules}
use Rattle.std.specs.Prelude.{◌==◌}
use Rattle.indexmap.proofs.CallerLemmas.{filter-RetainsPairs}
use Rattle.nob_ids.specs.declared.wire_rep.WireRep.{WireRep}
use Rattle.nob_model_types.specs.declared.turns.Turns.{Turns}
use Rattle.nob_check_tables.proofs.rows.others.Goals as goal

pub returns : goal.returns
returns c = filter-RetainsPairs _ (λ (count : WireRep × Turns). not (c.args.peer == count.0.owner)) _ (λ k v b w f call. search rules) _ _ c.retain.ensures.filtered
