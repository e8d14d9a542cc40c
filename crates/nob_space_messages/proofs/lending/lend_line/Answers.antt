use Rattle.std.proofs.Common.{◌≡◌, nat_lt, ap, sym, subst, refl, ◌∙◌, arith, if◌then◌else◌}
use Rattle.nob_slots.specs.Slots.{IsRising}
use Rattle.nob_space_messages.specs.Waiting.{due_to_all}
use Rattle.nob_space_messages.specs.Lines.{places_for, is_standing, items_of, lent_entry, lent_where, stands}
use Rattle.nob_space_messages.proofs.Lent.{due_lent, lent_again, lent_all, lent_next, lent_none}
use Rattle.nob_space_messages.proofs.Rows.{changed_rising}
use Rattle.nob_queues.specs.Queues.{KeepsBut, marked_at, rows_at}
use Rattle.nob_queues.proofs.Writes.{kept_same, kept_twice}
use Rattle.nob_space_messages.proofs.lending.lend_line.Goals as goal

pub loop-place-init : goal.loop-place-init
loop-place-init c = (c.requires.rising, c.requires.marked, lent_none c.args.rep.now (rows_at c.args.queues.now 0), omega arith, lent_none c.args.rep.now (rows_at c.args.queues.now 0), kept_same c.args.queues.now 0)

pub loop-place-preserved : goal.loop-place-preserved
loop-place-preserved c = (
  subst IsRising (sym c.lend_unless-lent.ensures.rows) (changed_rising (λ s e. if is_standing c.link-standing.result s then lent_entry c.args.rep.now e else e) (rows_at c.loop-place.queues 0) c.loop-place.invariant.0),
  c.lend_unless-lent.ensures.marked,
  lent_next c.args.rep.now c.args.lines.now c.loop-place.place c.link-standing.result (rows_at c.args.queues.now 0) (rows_at c.loop-place.queues 0) (rows_at c.lend_unless-lent.new.queues 0) c.link-standing.ensures c.loop-place.invariant.2 c.lend_unless-lent.ensures.rows,
  omega (arith, c.loop-place.invariant.3, c.lend_unless-lent.ensures.count),
  lent_again c.args.rep.now (is_standing c.link-standing.result) (rows_at c.loop-place.queues 0) (rows_at c.lend_unless-lent.new.queues 0) c.lend_unless-lent.ensures.rows,
  kept_twice c.args.queues.now c.loop-place.queues c.lend_unless-lent.new.queues 0 c.loop-place.invariant.5 c.lend_unless-lent.ensures.kept,
)

pub returns-clause-rows : goal.returns-clause-rows
returns-clause-rows c =
    let end : c.loop-place.place ≡ c.count-place-end.result = omega (arith, c.loop-place-test.false, c.loop-place.auto.place-end) in
    c.loop-place.invariant.2
    ∙ ap (λ n. lent_where c.args.rep.now (λ s. nat_lt 0 (stands c.args.lines.now c.args.rep.now n s)) (rows_at c.args.queues.now 0)) (end ∙ c.count-place-end.ensures.count)
    ∙ lent_all c.args.rep.now c.args.lines.now (places_for c.args.lines.now c.args.rep.now) (rows_at c.args.queues.now 0) c.requires.rising c.requires.lined

pub returns-clause-count : goal.returns-clause-count
returns-clause-count c =
    let due = ap (λ rows. due_to_all c.args.rep.now (items_of rows)) (returns-clause-rows c) in
    let none = due_lent c.args.rep.now (rows_at c.args.queues.now 0) in
    omega (arith, c.loop-place.invariant.3, due, none)
