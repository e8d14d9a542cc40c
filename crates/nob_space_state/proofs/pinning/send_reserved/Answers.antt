use Rattle.nob_space_state.proofs.pinning.send_reserved.Goals as goal

pub returns-clause-answer : goal.returns-clause-answer
returns-clause-answer c me peer limits L stands = ((c.in-Ok.ensures {u = tt}).answer me peer limits L stands).1
