use Rattle.std.proofs.Common.{nat_lt, ap, ◌∙◌}
use Rattle.nob_space_messages.specs.Lines.{items_of}
use Rattle.nob_space_messages.proofs.Carried.{any_copy}
use Rattle.nob_queues.specs.Queues.{marked_at, room_at, rows_at}
use Rattle.nob_space_messages.proofs.Unmoved.{carried_kept, counted_kept, ready_kept}
use Rattle.nob_space_messages.proofs.messages.Messages.carries_any_of.Goals as goal

pub returns : goal.returns
returns c = rw (← c.self.view_is) (c.has_copies.ensures ∙ ap (nat_lt 0) (c.self.invariant.1 c.args.owner) ∙ any_copy c.args.owner (items_of (rows_at c.self.inside.queues 0)))
