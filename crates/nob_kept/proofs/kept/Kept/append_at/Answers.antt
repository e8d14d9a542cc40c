use Rattle.std.proofs.Common.{sym, subst, List}
use Rattle.nob_kept.specs.declared.keep.Keep.{Keep}
use Rattle.nob_kept.specs.declared.noted.Noted.{Noted}
use Rattle.nob_kept.specs.Receipts as receipts
use Rattle.nob_kept.specs.Staying as staying
use Rattle.nob_kept.proofs.Spots.{staying_more, staying_put}
use Rattle.nob_kept.proofs.kept.Kept.append_at.Goals as goal

pub invariant_of-self-in-Some : goal.invariant_of-self-in-Some
invariant_of-self-in-Some c =
    let inside = c.self.inside in
    let told = c.in_ok-receipt.ensures {u = tt} in
    let receipt = c.in_ok-receipt.receipt in (
      told.trail,
      subst (λ (keep : Keep). staying.AreStaying keep c.enter.new.trail.entries.items c.put.new.noted.items) (sym told.more.0.1.0)
          (staying_put inside.trail.keep inside.trail.entries.items c.enter.new.trail.entries.items (receipts.entry_of receipt) c.in-Some.entry c.in_ok-receipt.entry receipt.place inside.noted.items c.make_room.new.noted.items c.put.new.noted.items
          told.more.1 told.all told.passed c.in-Some.is told.next.place c.make_room.ensures.items c.self.invariant.1 c.put.ensures.noted),
    )

pub invariant_of-self-in_default : goal.invariant_of-self-in_default
invariant_of-self-in_default c =
    let inside = c.self.inside in
    let told = c.in_ok-receipt.ensures {u = tt} in (
      told.trail,
      subst (λ (keep : Keep). staying.AreStaying keep c.enter.new.trail.entries.items c.make_room.new.noted.items) (sym told.more.0.1.0)
          (staying_more inside.trail.keep inside.trail.entries.items c.enter.new.trail.entries.items (receipts.entry_of c.in_ok-receipt.receipt) c.make_room.new.noted.items told.more.1
          (subst (λ (noted : List Noted). staying.AreStaying inside.trail.keep inside.trail.entries.items noted) (sym c.make_room.ensures.items) c.self.invariant.1)),
    )
