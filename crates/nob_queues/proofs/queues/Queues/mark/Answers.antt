use Rattle.std.proofs.Common.{rules, ◌≡◌, length, refl}
use Rattle.nob_queues.proofs.Kept.{kept_same}
use Rattle.nob_queues.proofs.Seen.{at_queue, keeps_but, puts_seen, some_unseen}
use Rattle.nob_queues.proofs.queues.Queues.mark.Goals as goal

pub mark-requires : goal.mark-requires
mark-requires g c =
    let queues = c.self.inside.queues in
    let three : length queues ≡ 3 = search rules in
    let got = at_queue queues c.args.queue c.index-self-queue.result three c.requires.queue c.index-self-queue.is in
    some_unseen c.self.inside.items.slots queues c.args.queue _ got c.self.invariant.0 c.args.number (rw (← c.self.view_is) at c.requires.there)

pub invariant_of-self : goal.invariant_of-self
invariant_of-self g c =
    let queues = c.self.inside.queues in
    let three : length queues ≡ 3 = search rules in
    let got = at_queue queues c.args.queue c.index-self-queue.result three c.requires.queue c.index-self-queue.is in
    (kept_same c.self.inside.items.slots queues c.self.invariant.0 c.args.queue _ _ got c.mark.ensures.rows, c.self.invariant.1)

pub returns-clause-marked : goal.returns-clause-marked
returns-clause-marked g c =
    let queues = c.self.inside.queues in
    let three : length queues ≡ 3 = search rules in
    let got = at_queue queues c.args.queue c.index-self-queue.result three c.requires.queue c.index-self-queue.is in
    rw (← c.self.view_is) (puts_seen c.self.inside.items.slots queues c.args.queue _ got c.self.inside.items.slots _ c.args.number c.args.on c.mark.ensures.marked)

pub returns-clause-kept : goal.returns-clause-kept
returns-clause-kept g c =
    let queues = c.self.inside.queues in
    let three : length queues ≡ 3 = search rules in
    let got = at_queue queues c.args.queue c.index-self-queue.result three c.requires.queue c.index-self-queue.is in
    rw (← c.self.view_is) (keeps_but c.self.inside.items.slots queues c.args.queue _ got c.self.inside.items.slots _ c.self.inside.room (λ p ne. refl) c.mark.ensures.room)
