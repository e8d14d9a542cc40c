use Rattle.std.proofs.Common.{◌≡◌, List, length, vec_capacity}
use Rattle.nob_ids.specs.declared.wire_rep.WireRep.{WireRep}
use Rattle.nob_table_rows.specs.declared.standing.Surrogate.{Surrogate}
use Rattle.nob_table.specs.Far.{AreLinked, AreEnds}
use Rattle.nob_table.proofs.order.Order.link_all.Given as goal

abbrev pub invariant-loop-at : goal.invariant-loop-at
invariant-loop-at l = (l.self.slots ≡ l.fn.self.slots) × (l.self.idle ≡ l.fn.self.idle) × (l.self.spare ≡ l.fn.self.spare) × (length l.self.before.items ≡ length l.fn.self.before.items) × (vec_capacity l.self.before ≡ vec_capacity l.fn.self.before)
    × ((surrogates : List (WireRep × Surrogate)) → AreEnds l.fn.self.slots.items surrogates l.fn.self.ends 0 → AreLinked l.fn.self.slots.items surrogates l.self.before.items l.at × AreEnds l.fn.self.slots.items surrogates l.self.ends l.at)
