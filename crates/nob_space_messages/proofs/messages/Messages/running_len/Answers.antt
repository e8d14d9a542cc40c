use Rattle.std.proofs.Common.{sym, ◌∙◌}
use Rattle.nob_queues.specs.Queues.{rows_at}
use Rattle.nob_space_messages.proofs.Newest.{as_many}
use Rattle.nob_space_messages.proofs.messages.Messages.running_len.Goals as goal

pub returns : goal.returns
returns c = rw (← c.self.view_is) (c.len.ensures.count ∙ sym (as_many (rows_at c.self.inside.queues 2)))
