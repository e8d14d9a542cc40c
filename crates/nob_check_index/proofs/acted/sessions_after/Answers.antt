use Rattle.std.proofs.Common.{ℕ, sym, ap, ◌∙◌}
use Rattle.nob_model_types.specs.declared.deed.Deed.{Deed}
use Rattle.nob_check_index.specs.ActedSessions.{with_one, sessions_after}
use Rattle.nob_check_index.proofs.acted.sessions_after.Goals as goal

pub returns-in_ok-more-in-Act : goal.returns-in_ok-more-in-Act
returns-in_ok-more-in-Act c =
    c.in_ok-more-in-Act.ensures
    ∙ ap (λ (k : ℕ). with_one c.in-Act.from k c.args.sessions) c.number.ensures
    ∙ sym (ap (λ (deed : Deed). sessions_after deed c.args.tables.now c.args.sessions) c.in-Act.is)
