use Rattle.std.proofs.Common.{◌≡◌, ◌<◌, ◌==◌, ℕ, List, Some, length, ap, sym, subst, refl, arith, ◌∙◌}
use Rattle.std.proofs.lemmas.Option.{same_Some}
use Rattle.std.specs.Map.{set_value}
use Rattle.nob_queues.specs.Queues.{marked_at, rows_at}
use Rattle.nob_queues.proofs.Writes.{kept_twice, written_kept, written_marked, written_rows}
use Rattle.nob_slots.specs.Slots.{is_number, item_at, PutsMark}
use Rattle.nob_space_messages.specs.declared.entry.Entry.{Entry}
use Rattle.nob_space_messages.specs.Lines.{with_waits}
use Rattle.nob_space_messages.proofs.Rows.{some_set}
use Rattle.nob_space_messages.proofs.entry.write_waits.Goals as goal

pub mark-requires-clause-there : goal.mark-requires-clause-there
mark-requires-clause-there c =
    let within : 0 < length c.args.queues.now.queues = omega (arith, c.get_mut-entry.ensures.count) in
    some_set c.args.stamp (rows_at c.args.queues.now 0) _ _ c.requires (written_rows c.args.queues.now 0 c.args.stamp _ within)

pub returns-clause-rows : goal.returns-clause-rows
returns-clause-rows c entry found =
    let within : 0 < length c.args.queues.now.queues = omega (arith, c.get_mut-entry.ensures.count) in
    let same : c.get_mut-entry.result.now ≡ entry = same_Some c.get_mut-entry.result.now entry (sym c.get_mut-entry.ensures.value ∙ found) in
    c.mark.ensures.rows ∙ written_rows c.args.queues.now 0 c.args.stamp _ within
    ∙ ap (λ (e : Entry). set_value (is_number c.args.stamp) (rows_at c.args.queues.now 0) (with_waits c.args.waits e)) same

pub returns-clause-marked : goal.returns-clause-marked
returns-clause-marked c =
    let within : 0 < length c.args.queues.now.queues = omega (arith, c.get_mut-entry.ensures.count) in
    subst (λ (ms : List ℕ). PutsMark ms (marked_at c.mark.new.self 0) c.args.stamp (c.args.waits == 0)) (written_marked c.args.queues.now 0 c.args.stamp _ within) c.mark.ensures.marked

pub returns-clause-kept : goal.returns-clause-kept
returns-clause-kept c =
    let within : 0 < length c.args.queues.now.queues = omega (arith, c.get_mut-entry.ensures.count) in
    kept_twice c.args.queues.now _ _ 0 (written_kept c.args.queues.now 0 c.args.stamp _ within) c.mark.ensures.kept
