use Rattle.std.proofs.Common.{◌≡◌, ◌-◌, ◌<◌, ◌==◌, ℕ, List, Some, IsSome, length, ap, sym, subst, refl, ◌∙◌, arith}
use Rattle.std.proofs.lemmas.Cmp.{nat_eq_equiv}
use Rattle.std.proofs.lemmas.Option.{same_Some}
use Rattle.std.specs.Map.{set_value}
use Rattle.std.specs.Option.{option_copied}
use Rattle.nob_queues.specs.Queues.{marked_at, rows_at, writes_item}
use Rattle.nob_queues.proofs.Writes.{kept_same, kept_twice, written_kept, written_marked, written_rows}
use Rattle.nob_slots.specs.Slots.{is_number, item_at, PutsMark}
use Rattle.nob_space_messages.specs.declared.entry.Entry.{Entry}
use Rattle.nob_space_messages.specs.Waiting.{due_to, due_to_all, granted_message}
use Rattle.nob_space_messages.specs.Lines.{AreMarked, items_of, lent_entry, with_waits}
use Rattle.nob_space_messages.proofs.Granted.{none_due}
use Rattle.nob_space_messages.proofs.Lent.{due_set}
use Rattle.nob_space_messages.proofs.Rows.{at_set, changed_absent, marked_set, set_changed, set_twice, some_set}
use Rattle.nob_space_messages.proofs.lending.lend_at.Goals as goal

pub returns-in_default-clause-rows : goal.returns-in_default-clause-rows
returns-in_default-clause-rows c =
    changed_absent c.args.stamp (lent_entry c.args.rep.now) (rows_at c.args.queues.now 0) (sym c.get.ensures ∙ ap option_copied c.in_default.is)

pub returns-in_default-clause-kept : goal.returns-in_default-clause-kept
returns-in_default-clause-kept c = kept_same c.args.queues.now 0

pub get_mut-entry-requires-clause-there : goal.get_mut-entry-requires-clause-there
get_mut-entry-requires-clause-there c = subst IsSome (c.get.ensures) (rw c.in-Some.is refl)

pub write_waits-requires : goal.write_waits-requires
write_waits-requires c =
    let queues = c.args.queues.now in
    let rows = rows_at queues 0 in
    let within : 0 < length queues.queues = omega (arith, c.get_mut-entry.ensures.count) in
    let entry = c.in-Some.entry.now in
    let found : item_at rows c.args.stamp ≡ Some entry = sym c.get.ensures ∙ ap option_copied c.in-Some.is in
    let same : c.get_mut-entry.result.now ≡ entry = same_Some c.get_mut-entry.result.now entry (sym c.get_mut-entry.ensures.value ∙ found) in
    let lent : Entry = record { message = c.lend_to-lent.new.message; waits = c.get_mut-entry.result.now.waits } in
    let written = written_rows queues 0 c.args.stamp lent within in
    some_set c.args.stamp rows _ lent (rw found refl) written

pub returns-clause-rows : goal.returns-clause-rows
returns-clause-rows c =
    let queues = c.args.queues.now in
    let rows = rows_at queues 0 in
    let within : 0 < length queues.queues = omega (arith, c.get_mut-entry.ensures.count) in
    let entry = c.in-Some.entry.now in
    let found : item_at rows c.args.stamp ≡ Some entry = sym c.get.ensures ∙ ap option_copied c.in-Some.is in
    let same : c.get_mut-entry.result.now ≡ entry = same_Some c.get_mut-entry.result.now entry (sym c.get_mut-entry.ensures.value ∙ found) in
    let lent : Entry = record { message = c.lend_to-lent.new.message; waits = c.get_mut-entry.result.now.waits } in
    let written = written_rows queues 0 c.args.stamp lent within in
    let some : IsSome (item_at rows c.args.stamp) = rw found refl in
    let at : item_at (rows_at (writes_item queues 0 c.args.stamp lent) 0) c.args.stamp ≡ Some lent =
    ap (λ (rs : List (ℕ × Entry)). item_at rs c.args.stamp) written ∙ at_set c.args.stamp rows lent c.args.stamp some ∙ rw (nat_eq_equiv.refl c.args.stamp) refl in
    let left : c.saturating_sub.result ≡ (lent_entry c.args.rep.now entry).waits =
    c.saturating_sub.ensures ∙ ap (λ (n : ℕ). entry.waits - n) (c.lend_to-lent.ensures.count ∙ ap (λ (x : Entry). due_to c.args.rep.now x.message) same) in
    let message = c.lend_to-lent.ensures.message ∙ ap (λ (x : Entry). granted_message c.args.rep.now x.message) same in
    let made : with_waits c.saturating_sub.result lent ≡ lent_entry c.args.rep.now entry = λ i. record { message = message i; waits = left i } in
    let back : rows_at c.write_waits.new.queues 0 ≡ set_value (is_number c.args.stamp) rows (lent_entry c.args.rep.now entry) =
    c.write_waits.ensures.rows lent at ∙ ap (λ (rs : List (ℕ × Entry)). set_value (is_number c.args.stamp) rs (with_waits c.saturating_sub.result lent)) written
    ∙ set_twice c.args.stamp rows lent (with_waits c.saturating_sub.result lent) ∙ ap (set_value (is_number c.args.stamp) rows) made in
    back ∙ set_changed c.args.stamp (lent_entry c.args.rep.now) rows entry c.requires.rising found

pub returns-clause-count : goal.returns-clause-count
returns-clause-count c =
    let queues = c.args.queues.now in
    let rows = rows_at queues 0 in
    let within : 0 < length queues.queues = omega (arith, c.get_mut-entry.ensures.count) in
    let entry = c.in-Some.entry.now in
    let found : item_at rows c.args.stamp ≡ Some entry = sym c.get.ensures ∙ ap option_copied c.in-Some.is in
    let same : c.get_mut-entry.result.now ≡ entry = same_Some c.get_mut-entry.result.now entry (sym c.get_mut-entry.ensures.value ∙ found) in
    let lent : Entry = record { message = c.lend_to-lent.new.message; waits = c.get_mut-entry.result.now.waits } in
    let written = written_rows queues 0 c.args.stamp lent within in
    let some : IsSome (item_at rows c.args.stamp) = rw found refl in
    let at : item_at (rows_at (writes_item queues 0 c.args.stamp lent) 0) c.args.stamp ≡ Some lent =
    ap (λ (rs : List (ℕ × Entry)). item_at rs c.args.stamp) written ∙ at_set c.args.stamp rows lent c.args.stamp some ∙ rw (nat_eq_equiv.refl c.args.stamp) refl in
    let left : c.saturating_sub.result ≡ (lent_entry c.args.rep.now entry).waits =
    c.saturating_sub.ensures ∙ ap (λ (n : ℕ). entry.waits - n) (c.lend_to-lent.ensures.count ∙ ap (λ (x : Entry). due_to c.args.rep.now x.message) same) in
    let message = c.lend_to-lent.ensures.message ∙ ap (λ (x : Entry). granted_message c.args.rep.now x.message) same in
    let made : with_waits c.saturating_sub.result lent ≡ lent_entry c.args.rep.now entry = λ i. record { message = message i; waits = left i } in
    let back : rows_at c.write_waits.new.queues 0 ≡ set_value (is_number c.args.stamp) rows (lent_entry c.args.rep.now entry) =
    c.write_waits.ensures.rows lent at ∙ ap (λ (rs : List (ℕ × Entry)). set_value (is_number c.args.stamp) rs (with_waits c.saturating_sub.result lent)) written
    ∙ set_twice c.args.stamp rows lent (with_waits c.saturating_sub.result lent) ∙ ap (set_value (is_number c.args.stamp) rows) made in
    let due = ap (λ rows. due_to_all c.args.rep.now (items_of rows)) back in
    let set = due_set c.args.rep.now c.args.stamp rows entry (lent_entry c.args.rep.now entry) found in
    let none = none_due c.args.rep.now entry.message in
    let count : c.lend_to-lent.result ≡ due_to c.args.rep.now entry.message = c.lend_to-lent.ensures.count ∙ ap (λ (x : Entry). due_to c.args.rep.now x.message) same in
    omega (arith, due, set, none, count)

pub returns-clause-marked : goal.returns-clause-marked
returns-clause-marked c =
    let queues = c.args.queues.now in
    let rows = rows_at queues 0 in
    let within : 0 < length queues.queues = omega (arith, c.get_mut-entry.ensures.count) in
    let entry = c.in-Some.entry.now in
    let found : item_at rows c.args.stamp ≡ Some entry = sym c.get.ensures ∙ ap option_copied c.in-Some.is in
    let same : c.get_mut-entry.result.now ≡ entry = same_Some c.get_mut-entry.result.now entry (sym c.get_mut-entry.ensures.value ∙ found) in
    let lent : Entry = record { message = c.lend_to-lent.new.message; waits = c.get_mut-entry.result.now.waits } in
    let written = written_rows queues 0 c.args.stamp lent within in
    let some : IsSome (item_at rows c.args.stamp) = rw found refl in
    let at : item_at (rows_at (writes_item queues 0 c.args.stamp lent) 0) c.args.stamp ≡ Some lent =
    ap (λ (rs : List (ℕ × Entry)). item_at rs c.args.stamp) written ∙ at_set c.args.stamp rows lent c.args.stamp some ∙ rw (nat_eq_equiv.refl c.args.stamp) refl in
    let left : c.saturating_sub.result ≡ (lent_entry c.args.rep.now entry).waits =
    c.saturating_sub.ensures ∙ ap (λ (n : ℕ). entry.waits - n) (c.lend_to-lent.ensures.count ∙ ap (λ (x : Entry). due_to c.args.rep.now x.message) same) in
    let message = c.lend_to-lent.ensures.message ∙ ap (λ (x : Entry). granted_message c.args.rep.now x.message) same in
    let made : with_waits c.saturating_sub.result lent ≡ lent_entry c.args.rep.now entry = λ i. record { message = message i; waits = left i } in
    let back : rows_at c.write_waits.new.queues 0 ≡ set_value (is_number c.args.stamp) rows (lent_entry c.args.rep.now entry) =
    c.write_waits.ensures.rows lent at ∙ ap (λ (rs : List (ℕ × Entry)). set_value (is_number c.args.stamp) rs (with_waits c.saturating_sub.result lent)) written
    ∙ set_twice c.args.stamp rows lent (with_waits c.saturating_sub.result lent) ∙ ap (set_value (is_number c.args.stamp) rows) made in
    marked_set c.args.stamp rows (rows_at c.write_waits.new.queues 0) (marked_at queues 0) (marked_at c.write_waits.new.queues 0) (lent_entry c.args.rep.now entry) some back
    (subst (λ (n : ℕ). PutsMark (marked_at queues 0) (marked_at c.write_waits.new.queues 0) c.args.stamp (n == 0)) left
    (subst (λ (ms : List ℕ). PutsMark ms (marked_at c.write_waits.new.queues 0) c.args.stamp (c.saturating_sub.result == 0)) (written_marked queues 0 c.args.stamp lent within) c.write_waits.ensures.marked)) c.requires.marked

pub returns-clause-kept : goal.returns-clause-kept
returns-clause-kept c =
    let queues = c.args.queues.now in
    let rows = rows_at queues 0 in
    let within : 0 < length queues.queues = omega (arith, c.get_mut-entry.ensures.count) in
    let entry = c.in-Some.entry.now in
    let found : item_at rows c.args.stamp ≡ Some entry = sym c.get.ensures ∙ ap option_copied c.in-Some.is in
    let same : c.get_mut-entry.result.now ≡ entry = same_Some c.get_mut-entry.result.now entry (sym c.get_mut-entry.ensures.value ∙ found) in
    let lent : Entry = record { message = c.lend_to-lent.new.message; waits = c.get_mut-entry.result.now.waits } in
    kept_twice queues (writes_item queues 0 c.args.stamp lent) c.write_waits.new.queues 0 (written_kept queues 0 c.args.stamp lent within) c.write_waits.ensures.kept
