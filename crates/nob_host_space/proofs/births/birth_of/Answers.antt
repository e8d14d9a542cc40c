use Rattle.std.proofs.Common.{refl}
use Rattle.nob_host_space.proofs.Copied.{none_copied, one_copied, copied_birth}
use Rattle.nob_host_space.proofs.births.birth_of.Goals as goal

pub loop-place-init : goal.loop-place-init
loop-place-init c = record { copied = none_copied c.args.sessions.now _ refl }

pub loop-place-preserved : goal.loop-place-preserved
loop-place-preserved c = record { copied = one_copied c.args.sessions.now c.loop-place.all c.loop-place.place _ c.requires c.loop-place-test.true refl c.loop-place.invariant.copied }

pub returns : goal.returns
returns c = copied_birth c.args.indexes c.args.calls c.args.jobs c.args.sessions.now c.loop-place.all c.loop-place.place c.loop-place-test.false c.loop-place.invariant.copied
