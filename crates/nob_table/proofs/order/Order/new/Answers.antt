use Rattle.std.proofs.Common.{[], refl, ◌%◌}
use Rattle.std.proofs.lemmas.Nat.Bits.{bit_at-zero}
use Rattle.std.proofs.lemmas.Option.{none-some}
use Rattle.nob_table.proofs.Linked.{ends_none, linked_none}
use Rattle.nob_table.proofs.order.Order.new.Goals as goal

pub returns-clause-ordered : goal.returns-clause-ordered
returns-clause-ordered c = rw (c.new.ensures.items, c.new-2.ensures.items, c.new-3.ensures, c.new-4.ensures) (record {
  in_order = λ i j e f less got. absurd (none-some e got);
  have_slots = λ rep place is. absurd (none-some place is);
  idle_are = λ at. rw (bit_at-zero (at % 64)) refl;
  spare_are = λ at. rw (bit_at-zero (at % 64)) refl;
  linked = linked_none [] [] [];
  ended = ends_none [] [] 33;
  same = refl;
})
