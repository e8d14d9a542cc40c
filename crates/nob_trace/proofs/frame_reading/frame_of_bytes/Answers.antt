use Rattle.std.proofs.Common.{arith}
use Rattle.nob_trace.proofs.FrameBytes.{payload_bytes}
use Rattle.nob_trace.proofs.frame_reading.frame_of_bytes.Goals as goal

pub returns-in-Ok-clause-found : goal.returns-in-Ok-clause-found
returns-in-Ok-clause-found c =
    (c.in-Ok.ensures.found, payload_bytes c.args.version c.args.bytes.now c.in-Ok.frame (λ i. omega (arith, c.type_inv.bytes i)) c.in-Ok.ensures.found.1)
