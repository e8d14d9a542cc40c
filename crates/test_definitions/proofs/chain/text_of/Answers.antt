use Rattle.test_definitions.proofs.Choosing.{no_refusal}
use Rattle.test_definitions.proofs.chain.text_of.Goals as goal

pub unreachable-requires : goal.unreachable-requires
unreachable-requires c = no_refusal c.args.chain.now c.in-Err-Fault.field-0-0 c.in-Err-Fault.field-0 c.requires c.in-Err-Fault.field-0-is c.in-Err-Fault.ensures
