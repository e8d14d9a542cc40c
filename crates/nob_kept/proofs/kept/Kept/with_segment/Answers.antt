use Rattle.std.proofs.Common.{inl, refl}
use Rattle.nob_kept.proofs.kept.Kept.with_segment.Goals as goal

pub returns-then-not-is_size-clause-fault : goal.returns-then-not-is_size-clause-fault
returns-then-not-is_size-clause-fault c = inl (refl, c.is_size.ensures.no c.if-not-is_size.true)
