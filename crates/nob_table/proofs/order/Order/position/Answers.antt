use Rattle.std.proofs.Common.{◌≡◌, true, false, nat_lt, rules, List, sym, subst}
use Rattle.std.proofs.lemmas.Fn.{always_returns_same}
use Rattle.std.specs.List.Sorted.{IsPartitionPoint, IsPartitionedBy}
use Rattle.nob_table.specs.declared.order.Slot.{Slot}
use Rattle.nob_table_rows.proofs.Parted.{partitioned, below_point, from_point}
use Rattle.nob_table.proofs.order.Order.position.Goals as goal

point : (c : goal.After-partition_point) → IsPartitionPoint (λ (e : Slot). nat_lt e.place c.args.place ≡ true) (λ (e : Slot). nat_lt e.place c.args.place ≡ false) c.args.self.now.slots.items c.partition_point.result
point c =
    subst (λ (xs : List Slot). IsPartitionPoint (λ (e : Slot). nat_lt e.place c.args.place ≡ true) (λ (e : Slot). nat_lt e.place c.args.place ≡ false) xs c.partition_point.result) c.deref.ensures.value
    (c.partition_point.ensures.partitioned (λ (e : Slot). nat_lt e.place c.args.place) (always_returns_same _ _ _ (λ a r f k. search rules))
    (subst (λ (xs : List Slot). IsPartitionedBy (λ (e : Slot). nat_lt e.place c.args.place) xs) (sym c.deref.ensures.value) (partitioned (λ (e : Slot). e.place) c.args.self.now.slots.items c.requires c.args.place)))

pub returns-clause-below : goal.returns-clause-below
returns-clause-below c = λ at slot got less. below_point (λ (e : Slot). e.place) c.args.self.now.slots.items c.args.place c.partition_point.result at slot (point c) got less

pub returns-clause-from : goal.returns-clause-from
returns-clause-from c = λ at slot got le. from_point (λ (e : Slot). e.place) c.args.self.now.slots.items c.args.place c.partition_point.result at slot (point c) got le
