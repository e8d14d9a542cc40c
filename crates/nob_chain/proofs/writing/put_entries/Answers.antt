use Rattle.nob_frame.specs.declared.version.Version.TheVariants.{Two}
use Rattle.nob_trace.specs.Entries.{HasSpelling}
use Rattle.nob_trace.proofs.Written.{this_one}
use Rattle.nob_chain.proofs.Written.{passed}
use Rattle.nob_chain.proofs.writing.put_entries.Goals as goal

pub returns-in_err-line : goal.returns-in_err-line
returns-in_err-line c =
    passed _ _ _ c.from_residual.result c.in_err-line.field-0.0 c.from_residual.ensures.1 c.in_err-line.ensures (this_one (HasSpelling Two) c.args.all.now c.loop-entry.entry-index c.entry-item.result c.loop-entry-test.true c.entry-item.is c.loop-entry.invariant.1)
