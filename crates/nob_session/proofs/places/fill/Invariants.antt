use Rattle.std.proofs.Common.{◌≡◌, ◌≤◌, None, replicate}
use Rattle.std.specs.VecDeque.{deque_len, deque_capacity}
use Rattle.nob_model_session.specs.End.{reach}
use Rattle.nob_session.proofs.places.fill.Given as goal

abbrev pub invariant-loop : goal.invariant-loop
invariant-loop l = record {
  items : l.ring.items ≡ replicate l.counter None;
  len : deque_len l.ring ≡ l.counter;
  room : reach ≤ deque_capacity l.ring;
  capacity : deque_capacity l.ring ≡ deque_capacity l.initial.ring;
}
