use Rattle.std.proofs.Common.{sym, subst}
use Rattle.nob_kept.specs.declared.keep.Keep.{Keep}
use Rattle.nob_kept.specs.Receipts as receipts
use Rattle.nob_kept.specs.Staying as staying
use Rattle.nob_kept.proofs.Spots.{staying_more}
use Rattle.nob_kept.proofs.kept.Kept.append.Goals as goal

pub invariant_of-self-2 : goal.invariant_of-self-2
invariant_of-self-2 c =
    let inside = c.self.inside in
    let told = c.in-Ok.ensures {u = tt} in (
      told.trail,
      subst (λ (keep : Keep). staying.AreStaying keep c.enter.new.trail.entries.items inside.noted.items) (sym told.more.0.1.0)
          (staying_more inside.trail.keep inside.trail.entries.items c.enter.new.trail.entries.items (receipts.entry_of c.in-Ok.receipt) inside.noted.items told.more.1 c.self.invariant.1),
    )
