use Rattle.std.proofs.Common.{rules, ◌≡◌, length}
use Rattle.nob_queues.proofs.Seen.{at_queue, found_seen}
use Rattle.nob_queues.proofs.queues.Queues.first_marked.Goals as goal

pub returns-clause-there : goal.returns-clause-there
returns-clause-there g c =
    let queues = c.self.inside.queues in
    let three : length queues ≡ 3 = search rules in
    let got = at_queue queues c.args.queue c.index-self-queue.result three c.requires c.index-self-queue.is in
    rw (← c.self.view_is) (found_seen c.self.inside.items.slots queues c.args.queue _ got c.self.invariant.0 c.first_marked.result c.first_marked.ensures.there)
