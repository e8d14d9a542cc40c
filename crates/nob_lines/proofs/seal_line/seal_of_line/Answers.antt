use Rattle.std.proofs.Common.{ℕ, refl, subst, ap, ◌∙◌}
use Rattle.nob_ids.specs.Names.{IsSpace}
use Rattle.nob_lines.specs.Sealed.{small_text}
use Rattle.nob_lines.proofs.Small.{seal_read, none_read}
use Rattle.nob_lines.proofs.seal_line.seal_of_line.Goals as goal

pub returns-in-Ok : goal.returns-in-Ok
returns-in-Ok c =
    let limits = c.default-limits.result in
    let line = c.args.line.now in
    let space = c.get-space.ensures in
    let last = c.get-last.ensures in
    let made = c.as_slice.ensures.value ∙ c.in_ok-text.ensures ∙ ap (λ (s : ℕ). small_text limits s c.get-last.result line) space.value ∙ ap (λ (k : ℕ). small_text limits c.args.own k line) last.value in
    seal_read limits c.args.own c.args.n line c.as_slice.result.now c.in-Ok.chain c.only_seal.result (subst IsSpace space.value space.in_range) (subst IsSpace last.value last.in_range) made c.in-Ok.ensures.found c.only_seal.ensures

pub returns-in-Err-Fault : goal.returns-in-Err-Fault
returns-in-Err-Fault c =
    let limits = c.default-limits.result in
    let line = c.args.line.now in
    let space = c.get-space.ensures in
    let last = c.get-last.ensures in
    let made = c.as_slice.ensures.value ∙ c.in_ok-text.ensures ∙ ap (λ (s : ℕ). small_text limits s c.get-last.result line) space.value ∙ ap (λ (k : ℕ). small_text limits c.args.own k line) last.value in
    let none = none_read limits c.args.own c.args.n line c.as_slice.result.now c.in-Err-Fault.field-0 c.in-Err-Fault.field-0-0 (subst IsSpace space.value space.in_range) (subst IsSpace last.value last.in_range) made c.in-Err-Fault.field-0-is c.in-Err-Fault.ensures.only in
    (refl, none)
