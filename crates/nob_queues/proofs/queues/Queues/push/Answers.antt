use Rattle.std.proofs.Common.{rules, ◌≡◌, ◌<◌, ◌++◌, ◌∷◌, [], List, ℕ, length, sym, ap, arith, ◌∙◌}
use Rattle.std.proofs.lemmas.Bool.{eqb-false}
use Rattle.nob_queues.proofs.Kept.{kept_pushed, pushed_apart, pushed_rows}
use Rattle.nob_queues.proofs.Seen.{above_unseen, at_queue, other_put, rows_put, rows_seen}
use Rattle.nob_queues.proofs.queues.Queues.push.Goals as goal

pub push-requires-clause-above : goal.push-requires-clause-above
push-requires-clause-above g c =
    let queues = c.self.inside.queues in
    let three : length queues ≡ 3 = search rules in
    let got = at_queue queues c.args.queue c.index-self-queue.result three c.requires.queue c.index-self-queue.is in
    above_unseen c.self.inside.items.slots queues c.args.queue _ got c.self.invariant.0 c.args.number (rw (← c.self.view_is) at c.requires.above)

pub invariant_of-self : goal.invariant_of-self
invariant_of-self g c =
    let queues = c.self.inside.queues in
    let slots = c.self.inside.items.slots in
    let three : length queues ≡ 3 = search rules in
    let got = at_queue queues c.args.queue c.index-self-queue.result three c.requires.queue c.index-self-queue.is in
    let above = above_unseen slots queues c.args.queue _ got c.self.invariant.0 c.args.number (rw (← c.self.view_is) at c.requires.above) in
    let some : 0 < c.self.inside.room = rw (← c.self.view_is) at c.requires.room in
    let room = c.self.invariant.1 in
    let insert = c.insert_reserved-key.ensures in (
      kept_pushed slots queues c.self.invariant.0 c.args.queue _ got c.insert_reserved-key.new.self.slots c.args.number c.insert_reserved-key.result c.args.item c.push.new.self c.push.ensures.rows above insert.was_vacant insert.updates.changed insert.updates.others insert.len,
      omega (arith, some, room, insert.len, insert.capacity),
    )

pub returns-clause-rows : goal.returns-clause-rows
returns-clause-rows g c =
    let queues = c.self.inside.queues in
    let slots = c.self.inside.items.slots in
    let three : length queues ≡ 3 = search rules in
    let got = at_queue queues c.args.queue c.index-self-queue.result three c.requires.queue c.index-self-queue.is in
    let above = above_unseen slots queues c.args.queue _ got c.self.invariant.0 c.args.number (rw (← c.self.view_is) at c.requires.above) in
    let insert = c.insert_reserved-key.ensures in
    rw (← c.self.view_is) (
    rows_put slots queues c.args.queue _ got c.insert_reserved-key.new.self.slots _
    ∙ pushed_rows slots queues c.self.invariant.0 c.args.queue _ got c.insert_reserved-key.new.self.slots c.args.number c.insert_reserved-key.result c.args.item c.push.new.self c.push.ensures.rows above insert.was_vacant insert.updates.changed insert.updates.others
    ∙ ap (λ (rs : List (ℕ × g.row.T.Denot)). rs ++ (c.args.number, c.args.item) ∷ []) (sym (rows_seen slots queues c.args.queue _ got)))

pub returns-clause-others : goal.returns-clause-others
returns-clause-others g c =
    let queues = c.self.inside.queues in
    let slots = c.self.inside.items.slots in
    let three : length queues ≡ 3 = search rules in
    let got = at_queue queues c.args.queue c.index-self-queue.result three c.requires.queue c.index-self-queue.is in
    let above = above_unseen slots queues c.args.queue _ got c.self.invariant.0 c.args.number (rw (← c.self.view_is) at c.requires.above) in
    let insert = c.insert_reserved-key.ensures in
    rw (← c.self.view_is) (λ other differs. other_put slots queues c.args.queue _ got c.insert_reserved-key.new.self.slots _ other (eqb-false other c.args.queue differs)
    (pushed_apart slots queues c.self.invariant.0 c.args.queue _ got c.insert_reserved-key.new.self.slots c.args.number c.insert_reserved-key.result c.args.item c.push.new.self c.push.ensures.rows above insert.was_vacant insert.updates.changed insert.updates.others other))
