use Rattle.std.proofs.Common.{rules, ◌≡◌, length, sym, ap, ◌∙◌}
use Rattle.std.specs.Option.{option_copied}
use Rattle.nob_queues.proofs.Keyed.{item_or}
use Rattle.nob_queues.proofs.Seen.{at_queue, item_seen}
use Rattle.nob_queues.proofs.queues.Queues.get.Goals as goal

pub returns-in_default : goal.returns-in_default
returns-in_default g c =
    let queues = c.self.inside.queues in
    let three : length queues ≡ 3 = search rules in
    let got = at_queue queues c.args.queue c.index-self-queue.result three c.requires c.index-self-queue.is in
    rw (← c.self.view_is) (sym (item_seen c.self.inside.items.slots queues c.args.queue _ got c.self.invariant.0 c.args.number ∙ ap (item_or c.self.inside.items.slots) (sym c.get.ensures ∙ ap option_copied c.in_default.is)))

pub returns : goal.returns
returns g c =
    let queues = c.self.inside.queues in
    let three : length queues ≡ 3 = search rules in
    let got = at_queue queues c.args.queue c.index-self-queue.result three c.requires c.index-self-queue.is in
    rw (← c.self.view_is) (c.get-2.ensures ∙ sym (item_seen c.self.inside.items.slots queues c.args.queue _ got c.self.invariant.0 c.args.number ∙ ap (item_or c.self.inside.items.slots) (sym c.get.ensures ∙ ap option_copied c.in-Some.is)))
