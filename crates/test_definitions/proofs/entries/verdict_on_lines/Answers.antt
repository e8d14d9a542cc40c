use Rattle.std.proofs.Common.{List, ℕ, subst, arith, ap, [], ◌∷◌, ◌≡◌, ◌∙◌, reverse}
use Rattle.std.proofs.lemmas.List.{reverse-append}
use Rattle.nob_model_text.specs.Lines.{lines_of}
use Rattle.test_definitions.proofs.Entering.{Reads, reads_on, no_entry, bad_so}
use Rattle.test_definitions.proofs.Playing.{found_so}
use Rattle.test_definitions.proofs.entries.verdict_on_lines.Goals as goal

pub loop-line-preserved : goal.loop-line-preserved
loop-line-preserved c =
    let all = lines_of c.args.lines.now in
    let so_far = subst (λ (ls : List (List ℕ)). Reads c.loop-line.number (reverse c.loop-line.journal.items) ls all) c.in-Some.ensures.lines c.loop-line.invariant.1 in
    let found = found_so _ c.in_ok-entry.field-0 c.in-Some-2.entry c.in-Some-2.is c.in_ok-entry.ensures.found in
    let grown : reverse c.push.new.self.items ≡ c.in-Some-2.entry ∷ reverse c.loop-line.journal.items = ap reverse c.in_ok-push.ensures.items ∙ reverse-append c.loop-line.journal.items (c.in-Some-2.entry ∷ []) in
    (omega (arith, c.loop-line.invariant.0, c.in-Some.ensures.shorter), reads_on c.loop-line.number (reverse c.loop-line.journal.items) (reverse c.push.new.self.items) c.in-Some.line.now (lines_of c.in-Some.rest.now) all c.in-Some-2.entry so_far found grown)

pub returns-in_default-2 : goal.returns-in_default-2
returns-in_default-2 c =
    let all = lines_of c.args.lines.now in
    let so_far = subst (λ (ls : List (List ℕ)). Reads c.loop-line.number (reverse c.loop-line.journal.items) ls all) c.in-Some.ensures.lines c.loop-line.invariant.1 in
    bad_so _ c.bad_entry.result c.loop-line.number (reverse c.loop-line.journal.items) c.in-Some.line.now (lines_of c.in-Some.rest.now) all so_far
    (no_entry c.in-Some.line.now c.in_ok-entry.field-0 c.in_default-2.is c.in_ok-entry.ensures.only) c.bad_entry.ensures
