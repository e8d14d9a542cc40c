use Rattle.std.proofs.Common.{[], arith, refl, ◌%◌}
use Rattle.std.proofs.lemmas.Nat.Bits.{bit_at-zero}
use Rattle.nob_table_rows.proofs.LiveRows.{once_by_index}
use Rattle.nob_table_rows.proofs.objects.Objects.begin_at.Goals as goal

pub invariant_of-result : goal.invariant_of-result
invariant_of-result c = record {
  slots_are = rw c.new.ensures (record { once = once_by_index [] tt; by_index = tt; low = tt; count = refl; few = omega arith });
  unheld_are = rw (c.new.ensures, c.new-2.ensures) (λ at. rw (bit_at-zero (at % 64)) refl);
  spare_are = rw (c.new.ensures, c.new-3.ensures) (λ at. rw (bit_at-zero (at % 64)) refl);
  slots_room = omega arith;
  unheld_room = rw c.new.ensures (omega arith);
  spare_room = rw c.new.ensures (omega arith);
}
