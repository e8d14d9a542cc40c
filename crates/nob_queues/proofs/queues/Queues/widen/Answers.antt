use Rattle.std.proofs.Common.{rules, ◌≡◌, length, refl}
use Rattle.std.proofs.lemmas.Bool.{eqb-false}
use Rattle.nob_queues.proofs.Kept.{kept_same}
use Rattle.nob_queues.proofs.Seen.{at_queue, other_put}
use Rattle.nob_queues.proofs.queues.Queues.widen.Goals as goal

pub invariant_of-self : goal.invariant_of-self
invariant_of-self g c =
    let queues = c.self.inside.queues in
    let three : length queues ≡ 3 = search rules in
    let got = at_queue queues c.args.queue c.index-self-queue.result three c.requires c.index-self-queue.is in
    (kept_same c.self.inside.items.slots queues c.self.invariant.0 c.args.queue _ _ got c.reserve.ensures.rows, c.self.invariant.1)

pub returns-clause-others : goal.returns-clause-others
returns-clause-others g c =
    let queues = c.self.inside.queues in
    let three : length queues ≡ 3 = search rules in
    let got = at_queue queues c.args.queue c.index-self-queue.result three c.requires c.index-self-queue.is in
    rw (← c.self.view_is) (λ other differs. other_put c.self.inside.items.slots queues c.args.queue _ got c.self.inside.items.slots _ other (eqb-false other c.args.queue differs) refl)
