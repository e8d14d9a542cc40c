use Rattle.std.proofs.Common.{◌≡◌, sym, ◌∙◌, ap, position, Some, None}
use Rattle.std.proofs.lemmas.Result.{IfOk-weaker}
use Rattle.nob_dirty.specs.Rows.{is_row}
use Rattle.nob_dirty.specs.Sets.{AreIndexes}
use Rattle.nob_dirty.proofs.Listed.{indexes_at, indexes_nowhere, no_indexes_at}
use Rattle.nob_dirty.proofs.sets.DirtySets.indexes.Goals as goal

pub returns-clause-indexes : goal.returns-clause-indexes
returns-clause-indexes c =
    let rows = c.self.inside.rows.items in
    let place : position (is_row c.args.client) rows ≡ Some c.in-Some.place = ap (position (is_row c.args.client)) (sym c.deref.ensures.value) ∙ sym c.place_of.ensures ∙ c.in-Some.is in
    IfOk-weaker c.rising.result (λ found. found.items ≡ c.index.result.now.indexes) (λ found. AreIndexes c.args.self.now c.args.client found.items) (λ found is. rw (← c.self.view_is, is) (indexes_at rows c.in-Some.place c.args.client c.index.result.now place c.index.ensures c.self.invariant)) c.rising.ensures.indexes

pub returns-clause-nobody : goal.returns-clause-nobody
returns-clause-nobody c nowhere =
    let rows = c.self.inside.rows.items in
    let place : position (is_row c.args.client) rows ≡ Some c.in-Some.place = ap (position (is_row c.args.client)) (sym c.deref.ensures.value) ∙ sym c.place_of.ensures ∙ c.in-Some.is in
    c.rising.ensures.none (no_indexes_at rows c.in-Some.place c.args.client c.index.result.now place c.self.invariant c.index.ensures (rw (← c.self.view_is) at nowhere))

pub returns-in_default-clause-indexes : goal.returns-in_default-clause-indexes
returns-in_default-clause-indexes c =
    let rows = c.self.inside.rows.items in
    let none : position (is_row c.args.client) rows ≡ None = ap (position (is_row c.args.client)) (sym c.deref.ensures.value) ∙ sym c.place_of.ensures ∙ c.in_default.is in
    rw (c.new.ensures.items, ← c.self.view_is) (indexes_nowhere rows c.args.client none)
