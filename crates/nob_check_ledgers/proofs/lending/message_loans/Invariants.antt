use Rattle.std.proofs.Common.{◌≡◌, ◌++◌, map, take, drop}
use Rattle.nob_model_types.specs.Messages.{message_after}
use Rattle.nob_check_ledgers.proofs.lending.message_loans.Given as goal

-- the messages so far have their loans, the others are as they were
abbrev pub invariant-loop-message : goal.invariant-loop-message
invariant-loop-message l = l.message-items ≡ map (λ message. message_after l.past.here.space l.past.here.n l.past.deeds message) (take l.message-index l.fn.messages) ++ drop l.message-index l.fn.messages
