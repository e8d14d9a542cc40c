use Rattle.nob_model_text.specs.Lines.{lines_of}
use Rattle.test_definitions.proofs.Entering.{journal_so}
use Rattle.test_definitions.proofs.Playing.{found_so}
use Rattle.test_definitions.proofs.entries.verdict_of.Goals as goal

pub returns : goal.returns
returns c =
    let found = found_so _ c.in_ok-opening_of.field-0 c.in-Some-2.field-0 c.in-Some-2.is c.in_ok-opening_of.ensures.found in
    journal_so (λ text. text.items) c.verdict_on_lines.result (lines_of c.args.input.now) (lines_of c.in-Some.lines.now) c.in-Some.line.now c.in-Some-2.field-0 c.in-Some.ensures.lines found c.verdict_on_lines.ensures
