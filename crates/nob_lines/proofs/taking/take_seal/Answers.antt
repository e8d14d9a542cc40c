use Rattle.nob_lines.proofs.Taken.{closed_by, unclosed_by}
use Rattle.nob_lines.proofs.taking.take_seal.Goals as goal

pub returns-in-Err-clause-answer : goal.returns-in-Err-clause-answer
returns-in-Err-clause-answer c =
    unclosed_by c.args.read.now c.space.result c.n.result c.args.line.now c.in-Err.error c.requires.due c.space.ensures c.n.ensures c.in-Err.ensures

pub returns-clause-answer : goal.returns-clause-answer
returns-clause-answer c =
    closed_by c.args.read.now c.in-Within.number c.in-Within.last c.in-Within.field-2 c.space.result c.n.result c.in-Ok.seal c.take.result c.take.new.self c.sealed_by.result c.args.line.now c.requires.due c.in-Within.is c.space.ensures c.n.ensures c.take.ensures.value c.take.ensures.after c.sealed_by.ensures c.in-Ok.ensures
