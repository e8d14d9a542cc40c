use Rattle.std.proofs.Common.{◌≡◌, ◌++◌, map, take, drop}
use Rattle.nob_model_types.specs.Messages.{copy_after}
use Rattle.nob_check_ledgers.proofs.lending.lend_message.Given as goal

-- the copies so far have their loans, the others are as they were
abbrev pub invariant-loop-place : goal.invariant-loop-place
invariant-loop-place l = l.message ≡ record {
  from = l.fn.message.from;
  session = l.fn.message.session;
  number = l.fn.message.number;
  item = l.fn.message.item;
  copies = map (λ copy. copy_after l.past.here.space l.past.here.n l.past.deeds copy) (take l.place l.fn.message.copies) ++ drop l.place l.fn.message.copies;
}
