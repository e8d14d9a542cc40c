use Rattle.std.proofs.Common.{arith}
use Rattle.nob_frame.proofs.Splitting.{reads_push, scan_cut, scan_broken}
use Rattle.nob_frame.proofs.feed.scan.Goals as goal

pub loop-header-preserved : goal.loop-header-preserved
loop-header-preserved c =
    rw c.in_ok-push-in-Ok.ensures.items (reads_push c.args.bytes.now c.loop-header.frames.items c.loop-header.rest.now c.in-Ok.header c.in_ok-frame_of-in-Ok.field-0
    c.split_at-in-Ok.result.0.now c.split_at-in-Ok.result.1.now c.split_at.result.1.now (λ i. omega (arith, c.type_inv.bytes i)) c.loop-header.invariant c.in-Ok.ensures.exact
    (rw c.header_len.ensures at c.split_at.ensures.back) c.split_at-in-Ok.ensures.front c.split_at-in-Ok.ensures.back c.in_ok-frame_of-in-Ok.ensures.frame)

pub returns-in-Short-clause-found : goal.returns-in-Short-clause-found
returns-in-Short-clause-found c = scan_cut c.args.bytes.now c.loop-header.frames.items c.loop-header.rest.now c.loop-header.invariant (rw c.in-Short.is at c.in-Err.ensures.exact)

pub returns-in_default : goal.returns-in_default
returns-in_default c =
    let broken = scan_broken c.args.bytes.now c.loop-header.frames.items c.loop-header.rest.now c.in-Err.fault c.loop-header.invariant c.in-Err.ensures.exact c.in_default.not-Short in
    record { within = tt; found = (c.loop-header.frames.items, c.loop-header.rest.now, broken.0, broken.1) }
