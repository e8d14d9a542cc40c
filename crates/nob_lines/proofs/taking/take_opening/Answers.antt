use Rattle.nob_lines.proofs.Taken.{opened, unopened}
use Rattle.nob_lines.proofs.taking.take_opening.Goals as goal

pub returns-in-Ok-clause-answer : goal.returns-in-Ok-clause-answer
returns-in-Ok-clause-answer c =
    let found = c.in-Ok.ensures.found in
    opened c.args.read.now c.in-Between.behind c.in-Between.last c.in-Ok.count c.args.line.now c.requires.kept c.requires.due c.in-Between.is found.0 found.1 found.2

pub returns-in-Err-clause-answer : goal.returns-in-Err-clause-answer
returns-in-Err-clause-answer c =
    unopened c.args.read.now c.in-Between.behind c.in-Between.last c.args.line.now c.in-Err.fault c.requires.due c.in-Between.is c.in-Err.ensures.fault
