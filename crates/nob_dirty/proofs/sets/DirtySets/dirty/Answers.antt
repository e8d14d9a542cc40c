use Rattle.std.proofs.Common.{◌≡◌, ◌==◌, ◌||◌, sym, ◌∙◌, ap, position, Some, None}
use Rattle.nob_dirty.specs.Rows.{is_row}
use Rattle.nob_dirty.proofs.Listed.{entered, begun, row_there, apart_changed, apart_begun}
use Rattle.nob_dirty.proofs.sets.DirtySets.dirty.Goals as goal

pub invariant_of-self-in_default : goal.invariant_of-self-in_default
invariant_of-self-in_default c =
    let rows = c.self.inside.rows.items in
    let none : position (is_row c.args.client) rows ≡ None = ap (position (is_row c.args.client)) (sym c.deref.ensures.value) ∙ sym c.place_of.ensures ∙ c.in_default.is in
    apart_begun rows c.begin.new.rows.items c.args.index c.args.client none c.self.invariant c.in_ok-begin.ensures.begins

pub returns-in_default-clause-enters : goal.returns-in_default-clause-enters
returns-in_default-clause-enters c =
    rw (← c.self.view_is) (begun c.self.inside.rows.items c.begin.new.rows.items c.args.index c.args.client c.in_ok-begin.ensures.begins)

pub invariant_of-self-2 : goal.invariant_of-self-2
invariant_of-self-2 c =
    let rows = c.self.inside.rows.items in
    let place : position (is_row c.args.client) rows ≡ Some c.in-Some.place = ap (position (is_row c.args.client)) (sym c.deref.ensures.value) ∙ sym c.place_of.ensures ∙ c.in-Some.is in
    let found = row_there (is_row c.args.client) rows c.in-Some.place place in
    apart_changed (λ i had. had || c.args.index == i) rows c.enter_at.new.rows.items c.in-Some.place found.0 found.2 c.self.invariant c.in_ok-enter_at.ensures.enters

pub returns-clause-enters : goal.returns-clause-enters
returns-clause-enters c =
    let rows = c.self.inside.rows.items in
    let place : position (is_row c.args.client) rows ≡ Some c.in-Some.place = ap (position (is_row c.args.client)) (sym c.deref.ensures.value) ∙ sym c.place_of.ensures ∙ c.in-Some.is in
    rw (← c.self.view_is) (entered rows c.enter_at.new.rows.items c.in-Some.place c.args.index c.args.client place c.self.invariant c.in_ok-enter_at.ensures.enters)
