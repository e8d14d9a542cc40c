use Rattle.std.proofs.Common.{ap}
use Rattle.std.specs.Prelude.{None}
use Rattle.nob_lines.specs.declared.reached.Reached.{Reached}
use Rattle.nob_lines.specs.declared.taking.LinesRead.{LinesRead}
use Rattle.nob_lines.proofs.text_lines.TextLines.begin.Goals as goal

pub returns-clause-found : goal.returns-clause-found
returns-clause-found c =
    let made : Reached → LinesRead = λ r. record { first = c.in-Some.first; reached = r; held = None } in
    (c.in-Some.first, c.in-Some.ensures.found.0, c.in-Some.ensures.found.1, ap made c.start_of.ensures)
