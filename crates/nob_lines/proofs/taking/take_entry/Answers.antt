use Rattle.nob_lines.proofs.Taken.{entered_by, unentered_by}
use Rattle.nob_lines.proofs.taking.take_entry.Goals as goal

pub returns-in-Err-clause-answer : goal.returns-in-Err-clause-answer
returns-in-Err-clause-answer c =
    unentered_by c.args.read.now c.in-Within.number c.in-Within.last c.in-Within.missing c.version.result c.args.line.now c.in-Err.error c.requires.due c.in-Within.is c.version.ensures c.in-Err.ensures

pub returns-clause-answer : goal.returns-clause-answer
returns-clause-answer c =
    entered_by c.args.read.now c.in-Within.number c.in-Within.last c.in-Within.missing c.space.result c.version.result c.in-Ok.entry c.dated_of.result c.take-before.result c.args.line.now c.requires.due c.in-Within.is c.version.ensures c.space.ensures c.dated_of.ensures c.take-before.ensures.value c.in-Ok.ensures
