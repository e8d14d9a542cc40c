use Rattle.std.proofs.Common.{◌≡◌, ◌++◌, length, map, filter, take, drop}
use Rattle.nob_space_messages.specs.Waiting.{granted_copy, waits_for}
use Rattle.nob_space_messages.proofs.lending.lend_to.Given as goal

abbrev pub invariant-loop-place : goal.invariant-loop-place
invariant-loop-place l = record {
  message : l.message ≡ record { from = l.fn.message.from; session = l.fn.message.session; number = l.fn.message.number; item = l.fn.message.item; copies = map (granted_copy l.rep) (take l.place l.fn.message.copies) ++ drop l.place l.fn.message.copies };
  count : l.lent ≡ length (filter (waits_for l.rep) (take l.place l.fn.message.copies));
}
