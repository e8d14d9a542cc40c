use Rattle.std.proofs.Common.{arith}
use Rattle.nob_trace.proofs.Written.{all_next}
use Rattle.nob_chain.specs.Writing.{IsSpeakable}
use Rattle.nob_chain.proofs.Written.{segment_next}
use Rattle.nob_chain.proofs.writing.put_segments.Goals as goal

pub loop-segment-preserved : goal.loop-segment-preserved
loop-segment-preserved c =
    let so_far = c.loop-segment.invariant in
    let number = so_far.0 in
    let s = c.segment-item.result in (
      omega (arith, number),
      segment_next c.args.all.now c.loop-segment.segment-index c.loop-segment.number s _ _ _ c.loop-segment-test.true c.segment-item.is c.in_ok-put_segment.ensures.1 so_far.1,
      all_next IsSpeakable c.args.all.now c.loop-segment.segment-index s c.loop-segment-test.true c.segment-item.is c.in_ok-put_segment.ensures.0 so_far.2,
    )
