use Rattle.std.proofs.Common.{ap, ◌∙◌}
use Rattle.nob_chain.specs.declared.fault.ChainFault.{ChainFault}
use Rattle.nob_chain.specs.declared.fault.ChainError.TheVariants as chain_errors
use Rattle.nob_chain.specs.Faults.{refusal_line}
use Rattle.nob_demo.proofs.WrittenDrawings.{unread_written}
use Rattle.nob_demo.proofs.drawing.bytes_of.Goals as goal

pub returns-in_ok-to_vec-in-Err-Fault : goal.returns-in_ok-to_vec-in-Err-Fault
returns-in_ok-to_vec-in-Err-Fault c = unread_written c.args.input.now c.args.part c.in-Err-Fault.fault _ c.in-Err-Fault.field-0 c.in-Err-Fault.field-0-is c.in-Err-Fault.ensures.found
    (c.in_ok-to_vec-in-Err-Fault.ensures.items_if_clones_equal (λ x y same. same) ∙ c.refusal_line.ensures ∙ ap (λ (fault : ChainFault). refusal_line (chain_errors.Fault fault)) c.in-Err-Fault.fault-is)
