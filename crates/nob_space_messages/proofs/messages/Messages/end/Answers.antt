use Rattle.std.proofs.Common.{◌≡◌, ◌<◌, ℕ, List, ◌∷◌, [], filter, not, refl, ap, sym, subst, arith, ◌∙◌}
use Rattle.std.specs.Map.{remove_entry}
use Rattle.std.specs.Option.{option_map, option_to_list}
use Rattle.nob_model_acting.specs.Candidates.{target_of}
use Rattle.nob_model_work.specs.Work.{is_run}
use Rattle.nob_queues.specs.Queues.{rows_at}
use Rattle.nob_slots.specs.Slots.{is_number, item_at}
use Rattle.nob_space_messages.specs.Rows.{newest_first}
use Rattle.nob_space_messages.proofs.Counted.{runs_some}
use Rattle.nob_space_messages.proofs.Jobs.{counted_fewer, ready_ended}
use Rattle.nob_space_messages.proofs.Newest.{all_left, alone, as_run, taken}
use Rattle.nob_space_messages.proofs.Unmoved.{carried_kept, ready_kept, waiting_kept}
use Rattle.nob_space_messages.proofs.messages.Messages.end.Goals as goal

pub end-requires-clause-runs : goal.end-requires-clause-runs
end-requires-clause-runs c =
    let rows = rows_at c.self.inside.queues 2 in
    let one = alone c.args.job rows c.len-count.ensures.rising ∙ ap (λ o. option_to_list (option_map (as_run c.args.job) o)) (ap (item_at rows) (sym c.get.ensures) ∙ sym c.take.ensures.item ∙ c.in-Some.is) in
    let some = runs_some (is_run c.args.job) (newest_first rows) (as_run c.args.job c.in-Some.entry) one in
    rw (c.target_of.ensures, c.self.invariant.5 (target_of c.in-Some.entry.message.item)) some

pub returns-clause-running : goal.returns-clause-running
returns-clause-running c =
    let rows = rows_at c.self.inside.queues 2 in
    rw (← c.self.view_is) (ap newest_first (c.take.ensures.rows ∙ ap (λ (k : ℕ). remove_entry (is_number k) rows) c.get.ensures) ∙ taken c.args.job rows c.len-count.ensures.rising)

pub returns-in_default-clause-running : goal.returns-in_default-clause-running
returns-in_default-clause-running c =
    let rows = rows_at c.self.inside.queues 2 in
    rw (← c.self.view_is) (ap newest_first (c.take.ensures.rows ∙ ap (λ (k : ℕ). remove_entry (is_number k) rows) c.get.ensures) ∙ taken c.args.job rows c.len-count.ensures.rising)

pub invariant_of-self : goal.invariant_of-self
invariant_of-self c =
    let queues = c.self.inside.queues in
    let new = c.take.new.self in
    let rows = rows_at queues 2 in
    let none = alone c.args.job rows c.len-count.ensures.rising ∙ ap (λ o. option_to_list (option_map (as_run c.args.job) o)) (ap (item_at rows) (sym c.get.ensures) ∙ sym c.take.ensures.item ∙ c.in_default.is) in
    let same = ap newest_first (c.take.ensures.rows ∙ ap (λ (k : ℕ). remove_entry (is_number k) rows) c.get.ensures) ∙ taken c.args.job rows c.len-count.ensures.rising ∙ all_left c.args.job (newest_first rows) none in (
      waiting_kept queues new c.self.inside.waits.froms c.self.inside.waits.lines c.self.inside.waits.next c.self.inside.waits.room (c.take.ensures.kept.others 0 refl) c.self.invariant.0,
      carried_kept queues new c.self.inside.waits.copies (c.take.ensures.kept.others 0 refl) c.self.invariant.1,
      c.self.invariant.2,
      (λ some. let had = c.self.invariant.3 some in omega (arith, had, c.take.ensures.kept.room)),
      ready_kept queues new c.self.inside.ready.lines.links c.self.inside.ready.lines.lanes c.self.inside.ready.froms c.self.inside.ready.next c.self.inside.ready.room (c.take.ensures.kept.others 1 refl) c.self.invariant.4,
      rw same c.self.invariant.5,
    )

pub invariant_of-self-2 : goal.invariant_of-self-2
invariant_of-self-2 c =
    let queues = c.self.inside.queues in
    let new = c.take.new.self in
    let rows = rows_at queues 2 in
    let one = alone c.args.job rows c.len-count.ensures.rising ∙ ap (λ o. option_to_list (option_map (as_run c.args.job) o)) (ap (item_at rows) (sym c.get.ensures) ∙ sym c.take.ensures.item ∙ c.in-Some.is) in
    let left = ap newest_first (c.take.ensures.rows ∙ ap (λ (k : ℕ). remove_entry (is_number k) rows) c.get.ensures) ∙ taken c.args.job rows c.len-count.ensures.rising in (
      waiting_kept queues new c.self.inside.waits.froms c.self.inside.waits.lines c.self.inside.waits.next c.self.inside.waits.room (c.take.ensures.kept.others 0 refl) c.self.invariant.0,
      carried_kept queues new c.self.inside.waits.copies (c.take.ensures.kept.others 0 refl) c.self.invariant.1,
      c.self.invariant.2,
      (λ some. let had = c.self.invariant.3 some in omega (arith, had, c.take.ensures.kept.room)),
      ready_kept queues new c.end.new.self.links c.end.new.self.lanes c.self.inside.ready.froms c.self.inside.ready.next c.self.inside.ready.room (c.take.ensures.kept.others 1 refl) (ready_ended c.self.invariant.4 c.end.new.self.links c.end.new.self.lanes c.end.ensures.links c.end.ensures.lines c.end.ensures.links_room c.end.ensures.lanes_room),
      counted_fewer c.self.inside.ready.lines.lanes c.end.new.self.lanes rows c.self.invariant.5 c.args.job (as_run c.args.job c.in-Some.entry) c.target_of.result (rows_at new 2) left one c.target_of.ensures c.end.ensures.runs,
    )
