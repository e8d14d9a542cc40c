use Rattle.std.proofs.Common.{sym, ◌∙◌}
use Rattle.nob_space_state.specs.Parts.{state_of}
use Rattle.nob_space_items.proofs.Spares.{is_unpinned, none_next, none_past}
use Rattle.nob_space_items.proofs.cleaning.first_spare.Goals as goal

pub returns-then-not-is_pinned : goal.returns-then-not-is_pinned
returns-then-not-is_pinned c =
    let found = (c.in-Some.ensures {u = tt}).first in (
      c.in-Some.at,
      found.1,
      is_unpinned (state_of c.args.parts.now) c.in-Some.rep found.2 (sym c.is_pinned.ensures ∙ c.if-not-is_pinned.true),
      none_next (state_of c.args.parts.now) c.loop-place.place c.in-Some.at c.requires.pinned c.loop-place.invariant found.3,
    )

pub loop-place-preserved : goal.loop-place-preserved
loop-place-preserved c =
    let found = (c.in-Some.ensures {u = tt}).first in
    none_past (state_of c.args.parts.now) c.in-Some.rep c.in-Some.at c.requires.apart found.1 (sym c.is_pinned.ensures ∙ c.if-not-is_pinned.false)
    (none_next (state_of c.args.parts.now) c.loop-place.place c.in-Some.at c.requires.pinned c.loop-place.invariant found.3)

pub returns-in_default : goal.returns-in_default
returns-in_default c = none_next (state_of c.args.parts.now) c.loop-place.place c.args.parts.now.table.dirties c.requires.pinned c.loop-place.invariant (λ rep place at low _. (c.in_default.ensures {u = tt}).first rep place at low)
