use Rattle.nob_trace.proofs.Cases.{no_frames}
use Rattle.nob_trace.proofs.entry_reading.answer_result.Goals as goal

pub returns-in-Ok-clause-found : goal.returns-in-Ok-clause-found
returns-in-Ok-clause-found c = no_frames c.args.version c.args.text.now c.in-Ok.answer c.in-Ok.ensures.found
