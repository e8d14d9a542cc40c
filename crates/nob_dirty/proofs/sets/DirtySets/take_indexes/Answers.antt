use Rattle.std.proofs.Common.{◌≡◌, sym, ◌∙◌, ap, subst, position, Some, None, false}
use Rattle.nob_dirty.specs.Rows.{is_row, all_listings}
use Rattle.nob_dirty.specs.Sets.{AreIndexes}
use Rattle.nob_dirty.proofs.Listed.{emptied, emptied_none, indexes_there, indexes_nowhere, row_there, row_is, apart_changed}
use Rattle.nob_dirty.proofs.sets.DirtySets.take_indexes.Goals as goal

pub invariant_of-self : goal.invariant_of-self
invariant_of-self c =
    let rows = c.self.inside.rows.items in
    let place : position (is_row c.args.client) rows ≡ Some c.in-Some.place = ap (position (is_row c.args.client)) (sym c.deref.ensures.value) ∙ sym c.place_of.ensures ∙ c.in-Some.is in
    let found = row_there (is_row c.args.client) rows c.in-Some.place place in
    apart_changed (λ i had. false) rows c.empty_at.new.rows.items c.in-Some.place found.0 found.2 c.self.invariant c.empty_at.ensures.leaves

pub returns : goal.returns
returns c =
    let rows = c.self.inside.rows.items in
    let place : position (is_row c.args.client) rows ≡ Some c.in-Some.place = ap (position (is_row c.args.client)) (sym c.deref.ensures.value) ∙ sym c.place_of.ensures ∙ c.in-Some.is in
    let found = row_there (is_row c.args.client) rows c.in-Some.place place in
    record {
      leaves = rw (← c.self.view_is) (emptied rows c.empty_at.new.rows.items c.in-Some.place c.args.client place c.self.invariant c.empty_at.ensures.leaves);
      indexes = rw (← c.self.view_is) (subst (λ keys. AreIndexes (all_listings rows) c.args.client keys) (sym (c.empty_at.ensures.indexes found.0 found.2)) (indexes_there rows c.in-Some.place c.args.client found.0 found.2 (row_is c.args.client found.0 found.3) c.self.invariant));
    }

pub returns-in_default : goal.returns-in_default
returns-in_default c =
    let rows = c.self.inside.rows.items in
    let none : position (is_row c.args.client) rows ≡ None = ap (position (is_row c.args.client)) (sym c.deref.ensures.value) ∙ sym c.place_of.ensures ∙ c.in_default.is in
    record {
      leaves = rw (← c.self.view_is) (emptied_none rows c.args.client none);
      indexes = rw (c.new.ensures.empty, ← c.self.view_is) (indexes_nowhere rows c.args.client none);
    }
