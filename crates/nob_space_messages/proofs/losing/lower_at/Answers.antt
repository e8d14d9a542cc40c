use Rattle.std.proofs.Common.{◌≡◌, Some, IsSome, ap, sym, refl, subst, ◌∙◌}
use Rattle.std.specs.Map.{set_value}
use Rattle.std.specs.Option.{option_copied}
use Rattle.nob_queues.specs.Queues.{marked_at, rows_at}
use Rattle.nob_queues.proofs.Writes.{kept_same}
use Rattle.nob_slots.specs.Slots.{is_number, item_at}
use Rattle.nob_space_messages.specs.declared.entry.Entry.{Entry}
use Rattle.nob_space_messages.specs.Lines.{lowered_entry, with_waits}
use Rattle.nob_space_messages.proofs.Rows.{changed_absent, lowered_once, marked_set, set_changed}
use Rattle.nob_space_messages.proofs.losing.lower_at.Goals as goal

pub returns-in_default-clause-rows : goal.returns-in_default-clause-rows
returns-in_default-clause-rows c =
    changed_absent c.args.stamp (lowered_entry 1) (rows_at c.args.queues.now 0) (sym c.get.ensures ∙ ap option_copied c.in_default.is) ∙ lowered_once c.args.stamp (rows_at c.args.queues.now 0)

pub returns-in_default-clause-kept : goal.returns-in_default-clause-kept
returns-in_default-clause-kept c = kept_same c.args.queues.now 0

-- the entry that was
found : (c : goal.After-write_waits) → item_at (rows_at c.args.queues.now 0) c.args.stamp ≡ Some c.in-Some.entry.now
found c = sym c.get.ensures ∙ ap option_copied c.in-Some.is

there : (c : goal.After-write_waits) → IsSome (item_at (rows_at c.args.queues.now 0) c.args.stamp)
there c = rw (found c) refl

pub write_waits-requires : goal.write_waits-requires
write_waits-requires c = rw (sym c.get.ensures ∙ ap option_copied c.in-Some.is) refl

pub returns-clause-rows : goal.returns-clause-rows
returns-clause-rows c =
    let rows = rows_at c.args.queues.now 0 in
    let same : with_waits c.saturating_sub-waits.result c.in-Some.entry.now ≡ lowered_entry 1 c.in-Some.entry.now = ap (λ n. with_waits n c.in-Some.entry.now) c.saturating_sub-waits.ensures in
    c.write_waits.ensures.rows c.in-Some.entry.now (found c) ∙ ap (set_value (is_number c.args.stamp) rows) same
    ∙ set_changed c.args.stamp (lowered_entry 1) rows c.in-Some.entry.now c.requires.rising (found c) ∙ lowered_once c.args.stamp rows

pub returns-clause-marked : goal.returns-clause-marked
returns-clause-marked c =
    marked_set c.args.stamp (rows_at c.args.queues.now 0) (rows_at c.write_waits.new.queues 0) (marked_at c.args.queues.now 0) (marked_at c.write_waits.new.queues 0) (with_waits c.saturating_sub-waits.result c.in-Some.entry.now) (there c)
    (c.write_waits.ensures.rows c.in-Some.entry.now (found c)) c.write_waits.ensures.marked c.requires.marked
