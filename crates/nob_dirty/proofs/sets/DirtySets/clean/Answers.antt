use Rattle.std.proofs.Common.{◌≡◌, ◌==◌, ◌&&◌, not, sym, ◌∙◌, ap, position, Some, None}
use Rattle.nob_dirty.specs.Rows.{is_row}
use Rattle.nob_dirty.proofs.Listed.{left, left_none, row_there, apart_changed}
use Rattle.nob_dirty.proofs.sets.DirtySets.clean.Goals as goal

pub invariant_of-self : goal.invariant_of-self
invariant_of-self c =
    let rows = c.self.inside.rows.items in
    let place : position (is_row c.args.client) rows ≡ Some c.in-Some.place = ap (position (is_row c.args.client)) (sym c.deref.ensures.value) ∙ sym c.place_of.ensures ∙ c.in-Some.is in
    let found = row_there (is_row c.args.client) rows c.in-Some.place place in
    apart_changed (λ i had. not (c.args.index == i) && had) rows c.leave_at.new.rows.items c.in-Some.place found.0 found.2 c.self.invariant c.leave_at.ensures.leaves

pub returns-in-Some : goal.returns-in-Some
returns-in-Some c =
    let rows = c.self.inside.rows.items in
    let place : position (is_row c.args.client) rows ≡ Some c.in-Some.place = ap (position (is_row c.args.client)) (sym c.deref.ensures.value) ∙ sym c.place_of.ensures ∙ c.in-Some.is in
    record { leaves = rw (← c.self.view_is) (left rows c.leave_at.new.rows.items c.in-Some.place c.args.index c.args.client place c.self.invariant c.leave_at.ensures.leaves) }

pub returns-in_default : goal.returns-in_default
returns-in_default c =
    let rows = c.self.inside.rows.items in
    let none : position (is_row c.args.client) rows ≡ None = ap (position (is_row c.args.client)) (sym c.deref.ensures.value) ∙ sym c.place_of.ensures ∙ c.in_default.is in
    record { leaves = rw (← c.self.view_is) (left_none rows c.args.index c.args.client none) }
