use Rattle.std.proofs.Common.{ℕ, not, rules}
use Rattle.std.specs.Prelude.{◌==◌}
use Rattle.std.proofs.lemmas.Fn.{filter_same}
use Rattle.nob_check_tables.proofs.closed.others.Goals as goal

pub returns : goal.returns
returns c = filter_same _ (λ (other : ℕ). not (c.args.peer == other)) _ (λ x b f call. search rules) _ _ c.retain.ensures.filtered
