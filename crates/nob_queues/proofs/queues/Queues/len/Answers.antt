use Rattle.std.proofs.Common.{rules, ◌≡◌, length, ◌∙◌}
use Rattle.nob_queues.proofs.Seen.{at_queue, length_seen, marks_seen, rising_seen}
use Rattle.nob_queues.proofs.queues.Queues.len.Goals as goal

pub returns-clause-count : goal.returns-clause-count
returns-clause-count g c =
    let queues = c.self.inside.queues in
    let three : length queues ≡ 3 = search rules in
    let got = at_queue queues c.args.queue c.index-self-queue.result three c.requires c.index-self-queue.is in
    rw (← c.self.view_is) (c.len.ensures.count ∙ length_seen c.self.inside.items.slots queues c.args.queue _ got c.self.invariant.0)

pub returns-clause-rising : goal.returns-clause-rising
returns-clause-rising g c =
    let queues = c.self.inside.queues in
    let three : length queues ≡ 3 = search rules in
    let got = at_queue queues c.args.queue c.index-self-queue.result three c.requires c.index-self-queue.is in
    rw (← c.self.view_is) (rising_seen c.self.inside.items.slots queues c.args.queue _ got c.self.invariant.0)

pub returns-clause-there : goal.returns-clause-there
returns-clause-there g c =
    let queues = c.self.inside.queues in
    let three : length queues ≡ 3 = search rules in
    let got = at_queue queues c.args.queue c.index-self-queue.result three c.requires c.index-self-queue.is in
    rw (← c.self.view_is) (marks_seen c.self.inside.items.slots queues c.args.queue _ got c.self.invariant.0 c.len.ensures.there)
