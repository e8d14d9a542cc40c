use Rattle.std.proofs.Common.{rules, ◌≡◌, sym, ◌∙◌, arith}
use Rattle.nob_item.proofs.Choices.{no_error, ok_is, same_ok}
use Rattle.nob_item.proofs.Notes.{note_spelt, note_only}
use Rattle.nob_item.proofs.reading.item_of.Goals as goal

pub returns-in_err-note_of-in_default-clause-only : goal.returns-in_err-note_of-in_default-clause-only
returns-in_err-note_of-in_default-clause-only c = λ item s.
    let no_call : c.args.first ≡ 1 → ⊥ = search rules in
    let no_reply : c.args.first ≡ 2 → ⊥ = search rules in
    absurd (no_error _ item _ (note_only c.args.first c.args.bytes.now item no_call no_reply s) c.in_err-note_of-in_default.ensures)

pub returns-in_ok-note_of-in_default-clause-found : goal.returns-in_ok-note_of-in_default-clause-found
returns-in_ok-note_of-in_default-clause-found c =
    note_spelt c.args.first c.args.bytes.now c.in_ok-note_of-in_default.field-0 (λ i. omega (arith, c.type_inv.bytes i)) c.in_ok-note_of-in_default.ensures

pub returns-in_ok-note_of-in_default-clause-only : goal.returns-in_ok-note_of-in_default-clause-only
returns-in_ok-note_of-in_default-clause-only c = λ item s.
    let no_call : c.args.first ≡ 1 → ⊥ = search rules in
    let no_reply : c.args.first ≡ 2 → ⊥ = search rules in
    let x = c.in_ok-note_of-in_default.field-0 in
    let read = note_only c.args.first c.args.bytes.now item no_call no_reply s in
    same_ok item x (ok_is item x (sym read ∙ c.in_ok-note_of-in_default.ensures))
