use Rattle.std.proofs.Common.{sym, ap, ◌∙◌}
use Rattle.std.specs.Option.{option_copied}
use Rattle.nob_queues.specs.Queues.{rows_at}
use Rattle.nob_space_messages.specs.Rows.{newest_first}
use Rattle.nob_space_messages.proofs.Heads.{first_marked, none_marked}
use Rattle.nob_space_messages.proofs.messages.Messages.first_free.Goals as goal

pub returns-in_default : goal.returns-in_default
returns-in_default c =
    let ready = c.self.invariant.4 in
    rw (← c.self.view_is) (sym (none_marked (rows_at c.self.inside.queues 1) ready.rising c.self.inside.ready.lines.links.rows c.self.inside.ready.lines.lanes ready.lines ready.targets (newest_first (rows_at c.self.inside.queues 2)) c.self.invariant.5 c.in_default.ensures.first).0)

pub returns : goal.returns
returns c =
    let ready = c.self.invariant.4 in
    rw (← c.self.view_is) (sym (first_marked (rows_at c.self.inside.queues 1) ready.rising c.self.inside.ready.lines.links.rows c.self.inside.ready.lines.lanes ready.lines ready.targets (newest_first (rows_at c.self.inside.queues 2)) c.self.invariant.5 c.in-Some.stamp c.in-Some-get.entry.now c.in-Some.ensures.first (sym c.get.ensures ∙ ap option_copied c.in-Some-get.is)).0)
