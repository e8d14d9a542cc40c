use Rattle.std.proofs.Common.{ℕ, ap, ◌∙◌}
use Rattle.std.specs.Global.{Vec}
use Rattle.nob_demo.specs.Checks.{merged_line}
use Rattle.nob_demo.proofs.WrittenChecks.{accepted_written, refused_written}
use Rattle.nob_demo.proofs.checking.line_of_chains.Goals as goal

pub returns-in_ok-merged_line-in-Ok : goal.returns-in_ok-merged_line-in-Ok
returns-in_ok-merged_line-in-Ok c = λ input spells.
    accepted_written input c.args.chains.items c.in-Ok.merged _ spells c.in-Ok.ensures.checked c.in-Ok.ensures.safe
    (ap (λ (bytes : Vec ℕ). bytes.items) c.into_bytes.ensures.value ∙ c.in_ok-merged_line-in-Ok.ensures ∙ ap merged_line c.len.ensures)

pub returns-in_ok-fault_line-in-Err-Fault : goal.returns-in_ok-fault_line-in-Err-Fault
returns-in_ok-fault_line-in-Err-Fault c = λ input spells.
    refused_written input c.args.chains.items c.in-Err-Fault.fault _ spells c.in-Err-Fault.field-0 c.in-Err-Fault.field-0-is c.in-Err-Fault.ensures.checked
    (ap (λ (bytes : Vec ℕ). bytes.items) c.into_bytes-in-Err-Fault.ensures.value ∙ c.in_ok-fault_line-in-Err-Fault.ensures)
