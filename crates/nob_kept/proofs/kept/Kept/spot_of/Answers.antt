use Rattle.std.proofs.Common.{◌≡◌, List, OnErr, IfErr, sym, subst}
use Rattle.nob_kept.specs.declared.error.KeeperError.TheVariants as errors
use Rattle.nob_kept.specs.declared.noted.Noted.{Noted}
use Rattle.nob_kept.specs.Accounts.{Account, account_of}
use Rattle.nob_kept.specs.Receipts.{Told}
use Rattle.nob_kept.specs.Seats as seats
use Rattle.nob_kept.specs.Staying as staying
use Rattle.nob_kept.proofs.Spots.{noted_there, refused}
use Rattle.nob_kept.proofs.kept.Kept.spot_of.Goals as goal

pub returns-in-Nothing-clause-err : goal.returns-in-Nothing-clause-err
returns-in-Nothing-clause-err c =
    let inside = c.self.inside in
    let receipt = c.in-Some.receipt.now in
    let account : Account = account_of inside.space inside.trail.keep inside.trail.size inside.trail.entries.items (staying.places inside.noted.items) in
    let there : staying.AreNoted inside.trail.entries.items inside.noted.items = noted_there inside.trail.keep inside.trail.entries.items inside.noted.items c.self.invariant.1 c.in-Nothing.is in
    let not = c.find.ensures.seats inside.trail.entries.items (subst (staying.AreNoted inside.trail.entries.items) (sym c.as_slice.ensures.value) there) in
    subst (λ (a : Account). IfErr c.find.result (λ error. (error ≡ errors.Seats) × (seats.Has a.entries c.args.seat.now → seats.IsThere a c.args.seat.now → ⊥)))
    c.self.view_is
    (refused account c.args.seat.now receipt c.find.result c.in-Nothing.is c.in-Some.ensures c.find.ensures.err
    (subst (λ (noted : List Noted). OnErr c.find.result (Told receipt inside.trail.entries.items → staying.IsAmong (staying.places noted) receipt.place → ⊥)) c.as_slice.ensures.value not))
