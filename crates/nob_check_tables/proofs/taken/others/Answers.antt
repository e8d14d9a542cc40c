use Rattle.std.proofs.Common.{ℕ, not, rules}
use Rattle.std.specs.Prelude.{◌==◌}
use Rattle.indexmap.proofs.CallerLemmas.{filter-RetainsPairs}
use Rattle.nob_check_tables.proofs.taken.others.Goals as goal

pub returns : goal.returns
returns c = filter-RetainsPairs _ (λ (count : ℕ × ℕ). not (c.args.peer == count.0)) _ (λ k v b w f call. search rules) _ _ c.retain.ensures.filtered
