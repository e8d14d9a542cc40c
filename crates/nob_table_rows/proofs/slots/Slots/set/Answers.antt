use Rattle.std.proofs.Common.{arith}
use Rattle.std.proofs.lemmas.Map.{keys-set_value, lookup-set_value}
use Rattle.nob_ids.specs.Names.{is_same}
use Rattle.nob_table_rows.proofs.LiveRows.{once_by_index}
use Rattle.nob_table_rows.proofs.Marked.{set_slot}
use Rattle.nob_table_rows.proofs.Same.{same_laws, same_congr}
use Rattle.nob_table_rows.proofs.slots.Slots.set.Goals as goal

pub index_mut-requires : goal.index_mut-requires
index_mut-requires c =
    let put = set_slot c.self.inside.rows.items c.deref.result.now c.deref.ensures.value c.self.invariant c.args.rep.now c.args.slot (rw (← c.self.view_is) at c.requires) c.count_below-at.result c.count_below-at.ensures.below c.count_below-at.ensures.from in
    omega (arith, put.0)

pub returns-clause-written : goal.returns-clause-written
returns-clause-written c =
    let put = set_slot c.self.inside.rows.items c.deref.result.now c.deref.ensures.value c.self.invariant c.args.rep.now c.args.slot (rw (← c.self.view_is) at c.requires) c.count_below-at.result c.count_below-at.ensures.below c.count_below-at.ensures.from in
    rw (← c.self.view_is) put.1

pub returns-clause-rows : goal.returns-clause-rows
returns-clause-rows c =
    let there = rw (← c.self.view_is) at c.requires in
    let put = set_slot c.self.inside.rows.items c.deref.result.now c.deref.ensures.value c.self.invariant c.args.rep.now c.args.slot there c.count_below-at.result c.count_below-at.ensures.below c.count_below-at.ensures.from in
    rw (← c.self.view_is, put.1) (λ other. lookup-set_value same_laws (is_same c.args.rep.now) (same_congr c.args.rep.now) other c.args.slot c.self.inside.rows.items there)

pub returns-clause-reps : goal.returns-clause-reps
returns-clause-reps c =
    let put = set_slot c.self.inside.rows.items c.deref.result.now c.deref.ensures.value c.self.invariant c.args.rep.now c.args.slot (rw (← c.self.view_is) at c.requires) c.count_below-at.result c.count_below-at.ensures.below c.count_below-at.ensures.from in
    rw (← c.self.view_is, put.1) (keys-set_value (is_same c.args.rep.now) c.self.inside.rows.items c.args.slot)

pub invariant_of-self : goal.invariant_of-self
invariant_of-self c =
    let put = set_slot c.self.inside.rows.items c.deref.result.now c.deref.ensures.value c.self.invariant c.args.rep.now c.args.slot (rw (← c.self.view_is) at c.requires) c.count_below-at.result c.count_below-at.ensures.below c.count_below-at.ensures.from in
    rw (put.1, keys-set_value (is_same c.args.rep.now) c.self.inside.rows.items c.args.slot) c.self.invariant

pub returns-clause-once : goal.returns-clause-once
returns-clause-once c =
    let put = set_slot c.self.inside.rows.items c.deref.result.now c.deref.ensures.value c.self.invariant c.args.rep.now c.args.slot (rw (← c.self.view_is) at c.requires) c.count_below-at.result c.count_below-at.ensures.below c.count_below-at.ensures.from in
    once_by_index _ (rw (put.1, keys-set_value (is_same c.args.rep.now) c.self.inside.rows.items c.args.slot) c.self.invariant)
