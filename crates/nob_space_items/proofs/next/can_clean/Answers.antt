use Rattle.std.proofs.Common.{◌≡◌, Some, None, is_some, sym, ap, ◌∙◌}
use Rattle.std.specs.Prelude.{MatchOption}
use Rattle.nob_model.specs.Next as next
use Rattle.nob_model_history.specs.Histories.{history_of}
use Rattle.nob_space_state.specs.Parts.{state_of}
use Rattle.nob_space_items.specs.Cleaning.{NoneSpareBelow, IsFirstSpare}
use Rattle.nob_space_items.proofs.Spares.{apart_there, first_there, none_there, pinned_there}
use Rattle.nob_space_items.proofs.next.can_clean.Goals as goal

pub first_spare-requires-clause-apart : goal.first_spare-requires-clause-apart
first_spare-requires-clause-apart c = apart_there c.requires.2

pub first_spare-requires-clause-pinned : goal.first_spare-requires-clause-pinned
first_spare-requires-clause-pinned c = pinned_there c.requires.2

pub returns : goal.returns
returns c limits D stands =
    c.is_some.ensures
    ∙ elim c.first_spare.result as (λ found. MatchOption found (NoneSpareBelow (state_of c.args.parts.now) c.args.parts.now.table.dirties) (λ rep. IsFirstSpare (state_of c.args.parts.now) rep) → is_some found ≡ next.can_clean c.args.parts.now.here.space c.args.parts.now.here.n (history_of c.args.parts.now.here.space c.args.parts.now.here.n D)) [
      | Some rep ↦ λ first. sym (ap is_some (first_there stands rep first))
      | None ↦ λ nowhere. sym (ap is_some (none_there stands nowhere))
    ] c.first_spare.ensures
