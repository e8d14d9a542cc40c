use Rattle.test_definitions.proofs.Choosing.{no_error}
use Rattle.test_definitions.proofs.trace.put_trace.Goals as goal

pub unreachable-requires : goal.unreachable-requires
unreachable-requires c = no_error c.args.trace.now c.in-Err-Fault.field-0-0 c.in-Err-Fault.field-0 c.requires c.in-Err-Fault.field-0-is c.in-Err-Fault.ensures.text
