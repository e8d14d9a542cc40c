use Rattle.std.proofs.Common.{◌∙◌}
use Rattle.nob_demo.proofs.WrittenChecks.{unread_written}
use Rattle.nob_demo.proofs.checking.line_of.Goals as goal

pub returns-in_ok-to_vec-in-Err-Fault : goal.returns-in_ok-to_vec-in-Err-Fault
returns-in_ok-to_vec-in-Err-Fault c = unread_written c.args.input.now c.in-Err-Fault.fault _ c.in-Err-Fault.field-0 c.in-Err-Fault.field-0-is c.in-Err-Fault.ensures.found
    (c.in_ok-to_vec-in-Err-Fault.ensures.items_if_clones_equal (λ x y same. same) ∙ c.refusal_line.ensures)
