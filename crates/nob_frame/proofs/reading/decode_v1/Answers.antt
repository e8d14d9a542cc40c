use Rattle.std.proofs.Common.{Result, subst, arith}
use Rattle.nob_frame.specs.declared.fault.FrameFault.{FrameFault}
use Rattle.nob_frame.specs.declared.frame.Frame.{Frame}
use Rattle.nob_frame.specs.declared.version.Version.TheVariants.{One}
use Rattle.nob_frame.specs.Reading.{Gives}
use Rattle.nob_frame.proofs.Codec.{found_spelt, spelt_read}
use Rattle.nob_frame.proofs.reading.decode_v1.Goals as goal

pub returns-clause-found : goal.returns-clause-found
returns-clause-found c = found_spelt One c.args.bytes.now c.frame_from.result (λ i. omega (arith, c.type_inv.bytes i)) c.frame_from.ensures.exact

pub returns-clause-only : goal.returns-clause-only
returns-clause-only c = λ frame spelt. subst (λ (r : Result Frame FrameFault). Gives (λ (read : Frame). read) c.frame_from.result r) (spelt_read One c.args.bytes.now frame spelt) c.frame_from.ensures.exact
