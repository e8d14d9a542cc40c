use Rattle.std.proofs.Common.{◌≡◌, ◌<◌, ◌++◌, ◌+◌, ◌∷◌, ℕ, Option, Some, None, IsSome, find, length, sym, ap, subst, refl, arith, ◌∙◌, if◌then◌else◌}
use Rattle.std.proofs.lemmas.Option.{same_Some}
use Rattle.std.specs.Option.{option_copied}
use Rattle.nob_model_acting.specs.Candidates.{target_of}
use Rattle.nob_queues.specs.Queues.{row_if, rows_at}
use Rattle.nob_slots.specs.Slots.{item_at}
use Rattle.nob_space_messages.specs.declared.entry.Entry.{Entry}
use Rattle.nob_space_messages.specs.InLine.{target_at, with_at}
use Rattle.nob_space_messages.specs.Jobs.{is_free_of}
use Rattle.nob_space_messages.specs.Lanes.{is_target, lane_at, runs_in}
use Rattle.nob_space_messages.specs.Lines.{items_of}
use Rattle.nob_space_messages.specs.Rows.{newest_first}
use Rattle.nob_space_messages.proofs.Counted.{runs_few}
use Rattle.nob_space_messages.proofs.Heads.{first_marked, none_marked}
use Rattle.nob_space_messages.proofs.Jobs.{counted_more, ready_taken}
use Rattle.nob_space_messages.proofs.Newest.{above_rows, one_newer}
use Rattle.nob_space_messages.proofs.Unmoved.{carried_kept, waiting_kept}
use Rattle.nob_space_messages.proofs.messages.Messages.claim.Goals as goal

pub invariant_of-self : goal.invariant_of-self
invariant_of-self c =
    let queues = c.self.inside.queues in
    let new = c.shift.new.self in
    let entry = c.in-Some-get.entry.now in
    let found : item_at (rows_at queues 1) c.in-Some.stamp ≡ Some entry = sym c.get.ensures ∙ ap option_copied c.in-Some-get.is in (
      waiting_kept queues new c.self.inside.waits.froms c.self.inside.waits.lines c.self.inside.waits.next c.self.inside.waits.room (c.shift.ensures.others 0 refl refl) c.self.invariant.0,
      carried_kept queues new c.self.inside.waits.copies (c.shift.ensures.others 0 refl refl) c.self.invariant.1,
      c.self.invariant.2,
      (λ some. let had = c.self.invariant.3 some in omega (arith, had, c.shift.ensures.room)),
      ready_taken c.self.invariant.4 c.in-Some.stamp entry (rows_at new 1) _ c.take.new.self.links c.take.new.self.lanes c.take-2.new.self found c.shift.ensures.from
          (λ k. c.take.ensures.targets k ∙ ap (λ links. with_at (target_at links) c.in-Some.stamp None k) c.begin.ensures.links) c.take.ensures.lines c.take-2.ensures.numbers c.shift.ensures.queue_room
          (c.take.ensures.links_room ∙ c.begin.ensures.links_room) (omega (arith, c.take.ensures.lanes_room, c.begin.ensures.lanes_room)) c.take-2.ensures.room,
      counted_more c.self.inside.ready.lines.lanes c.take.new.self.lanes (rows_at queues 2) c.self.invariant.5 c.get-2.result c.target_of.result entry (rows_at new 2) (c.shift.ensures.to ∙ ap (λ o. rows_at queues 2 ++ row_if c.get-2.result o) found) c.target_of.ensures
          (λ k. c.take.ensures.runs k ∙ c.begin.ensures.runs k),
    )

pub returns-clause-ready : goal.returns-clause-ready
returns-clause-ready c =
    let ready = c.self.invariant.4 in
    let rows = rows_at c.self.inside.queues 1 in
    let found = sym c.get.ensures ∙ ap option_copied c.in-Some-get.is in
    rw (← c.self.view_is) (ap items_of c.shift.ensures.from ∙ sym (first_marked rows ready.rising c.self.inside.ready.lines.links.rows c.self.inside.ready.lines.lanes ready.lines ready.targets (newest_first (rows_at c.self.inside.queues 2)) c.self.invariant.5 c.in-Some.stamp c.in-Some-get.entry.now c.in-Some.ensures.first found).1)

pub returns-clause-running : goal.returns-clause-running
returns-clause-running c =
    let ready = c.self.invariant.4 in
    let rows = rows_at c.self.inside.queues 1 in
    let running = rows_at c.self.inside.queues 2 in
    let found = sym c.get.ensures ∙ ap option_copied c.in-Some-get.is in
    let first = (first_marked rows ready.rising c.self.inside.ready.lines.links.rows c.self.inside.ready.lines.lanes ready.lines ready.targets (newest_first running) c.self.invariant.5 c.in-Some.stamp c.in-Some-get.entry.now c.in-Some.ensures.first found).0 in
    rw (← c.self.view_is) (λ message is.
    let same = same_Some c.in-Some-get.entry.now.message message (sym first ∙ is) in
    ap newest_first (c.shift.ensures.to ∙ ap (λ o. running ++ row_if c.get-2.result o) found) ∙ one_newer running (c.get-2.result, c.in-Some-get.entry.now)
    ∙ (λ i. record { job = c.get-2.ensures i; message = same i } ∷ newest_first running))

pub unreachable-requires : goal.unreachable-requires
unreachable-requires c =
    let ready = c.self.invariant.4 in
    let rows = rows_at c.self.inside.queues 1 in
    let running = newest_first (rows_at c.self.inside.queues 2) in
    let free : IsSome (find (is_free_of running) (items_of rows)) = rw (← c.self.view_is) at c.requires.free in
    let none = (none_marked rows ready.rising c.self.inside.ready.lines.links.rows c.self.inside.ready.lines.lanes ready.lines ready.targets running c.self.invariant.5 c.in_default.ensures.first).0 in
    let bad = rw none at free in absurd (cc)

pub shift-requires-clause-above : goal.shift-requires-clause-above
shift-requires-clause-above c = rw c.get-2.ensures (above_rows c.args.job (rows_at c.self.inside.queues 2) (rw (← c.self.view_is) at c.requires.above))

pub returns-clause-running_room : goal.returns-clause-running_room
returns-clause-running_room c =
    let found = sym c.get.ensures ∙ ap option_copied c.in-Some-get.is in
    let one = ap (λ (o : Option Entry). length (row_if c.get-2.result o)) found in
    rw (← c.self.view_is) (omega (arith, one, c.shift.ensures.room_to))
