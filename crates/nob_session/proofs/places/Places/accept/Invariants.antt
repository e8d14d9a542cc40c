use Rattle.std.proofs.Common.{◌≡◌, ◌+◌, ◌-◌, ◌++◌, take, drop}
use Rattle.std.specs.VecDeque.{deque_len, deque_capacity}
use Rattle.nob_model_session.specs.End.{filled}
use Rattle.nob_model_session.specs.Right.{in_a_row}
use Rattle.nob_session.specs.Keeping.{moved_up}
use Rattle.nob_session.proofs.places.Places.accept.Given as goal

abbrev pub invariant-loop-taken : goal.invariant-loop-taken
invariant-loop-taken l = record {
  moved : l.self ≡ moved_up l.taken l.initial.self;
  waiting : l.waiting.items ≡ l.initial.waiting.items ++ filled (take l.taken l.initial.self);
  count : in_a_row l.most l.initial.self ≡ l.taken + in_a_row (l.most - l.taken) (drop l.taken l.initial.self);
  len : deque_len l.waiting ≡ deque_len l.initial.waiting + l.taken;
  capacity : deque_capacity l.waiting ≡ deque_capacity l.initial.waiting;
}
