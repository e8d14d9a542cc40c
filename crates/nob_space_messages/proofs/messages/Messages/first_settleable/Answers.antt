use Rattle.std.proofs.Common.{ap, sym, ◌∙◌}
use Rattle.std.specs.Option.{option_copied}
use Rattle.nob_space_messages.proofs.Found.{first_found, first_none}
use Rattle.nob_queues.specs.Queues.{marked_at, room_at, rows_at}
use Rattle.nob_space_messages.proofs.Unmoved.{carried_kept, counted_kept, ready_kept}
use Rattle.nob_space_messages.proofs.messages.Messages.first_settleable.Goals as goal

pub returns-in_err-stamp : goal.returns-in_err-stamp
returns-in_err-stamp c = ap option_copied c.from_residual.ensures ∙ rw (← c.self.view_is) (sym ((first_none c.self.invariant.0 c.in_err-stamp.ensures.first).0))

pub returns : goal.returns
returns c = rw (← c.self.view_is) (sym ((first_found c.self.invariant.0 c.in_ok-stamp.stamp c.in_ok-entry.entry.now c.in_ok-stamp.ensures.first (sym c.get.ensures ∙ ap option_copied c.in_ok-entry.was)).0))
