use Rattle.std.proofs.Common.{◌∙◌, arith, ap, length}
use Rattle.nob_table_rows.proofs.objects.Objects.reserve.Goals as goal

pub invariant_of-self-2 : goal.invariant_of-self-2
invariant_of-self-2 c = record {
  slots_are = rw c.reserve.ensures.rows c.self.invariant.slots_are;
  unheld_are = rw c.reserve.ensures.rows (λ at. c.reserve-2.ensures.same at ∙ c.self.invariant.unheld_are at);
  spare_are = rw c.reserve.ensures.rows (λ at. c.reserve-3.ensures.same at ∙ c.self.invariant.spare_are at);
  slots_room = c.in_ok-reserve.ensures.ok;
  unheld_room = rw c.reserve.ensures.rows (omega (arith, c.saturating_add-count.ensures, c.len.ensures.len, ap length c.reserve.ensures.rows, c.in_ok-reserve-2.ensures.ok, c.in_ok-reserve-2.ensures.small));
  spare_room = rw c.reserve.ensures.rows (omega (arith, c.saturating_add-count.ensures, c.len.ensures.len, ap length c.reserve.ensures.rows, c.in_ok-reserve-3.ensures.ok, c.in_ok-reserve-3.ensures.small));
}
