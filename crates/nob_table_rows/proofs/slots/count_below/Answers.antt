use Rattle.std.proofs.Common.{◌≡◌, true, false, nat_lt, rules, Option}
use Rattle.std.proofs.lemmas.Fn.{always_returns_same}
use Rattle.std.specs.List.Sorted.{IsPartitionPoint}
use Rattle.nob_ids.specs.declared.wire_rep.WireRep.{WireRep}
use Rattle.nob_table_rows.specs.declared.object.Object.{Object}
use Rattle.nob_table_rows.proofs.Parted.{partitioned, below_point, from_point}
use Rattle.nob_table_rows.proofs.LiveRows.{slots_rise}
use Rattle.nob_table_rows.proofs.slots.count_below.Goals as goal

point : (c : goal.After-partition_point) → IsPartitionPoint (λ (e : WireRep × Option Object). nat_lt e.0.index c.args.index ≡ true) (λ (e : WireRep × Option Object). nat_lt e.0.index c.args.index ≡ false) c.args.rows.now c.partition_point.result
point c =
    c.partition_point.ensures.partitioned (λ (e : WireRep × Option Object). nat_lt e.0.index c.args.index) (always_returns_same _ _ _ (λ a r f k. search rules))
    (partitioned (λ (e : WireRep × Option Object). e.0.index) c.args.rows.now (slots_rise c.args.rows.now c.requires) c.args.index)

pub returns-clause-below : goal.returns-clause-below
returns-clause-below c = λ at row got less. below_point (λ (e : WireRep × Option Object). e.0.index) c.args.rows.now c.args.index c.partition_point.result at row (point c) got less

pub returns-clause-from : goal.returns-clause-from
returns-clause-from c = λ at row got le. from_point (λ (e : WireRep × Option Object). e.0.index) c.args.rows.now c.args.index c.partition_point.result at row (point c) got le
