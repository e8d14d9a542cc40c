use Rattle.std.proofs.Common.{◌≡◌, ℕ, ◌∷◌, List, reverse, refl, sym, ap, subst, ◌∙◌}
use Rattle.nob_kept.specs.declared.receipt.Receipt.{Receipt}
use Rattle.nob_kept.specs.Accounts.{Account, with_next, with_noted}
use Rattle.nob_kept.specs.Kinds as kinds
use Rattle.nob_kept.specs.Receipts.{entry_of}
use Rattle.nob_kept.specs.Seats as seats
use Rattle.nob_kept.proofs.Fitting.{next_kind}
use Rattle.nob_kept.proofs.Seats.{receipts_next, above_next, stamp_above}
use Rattle.nob_kept.proofs.Spots.{stays_newest}
use Rattle.nob_kept.proofs.seat.Seat.ask.Goals as goal

-- the receipts are those before, behind the new one
added : (c : goal.After-add) → reverse c.add.new.receipts.items ≡ c.in-Ok.receipt ∷ c.args.self.now
added c =
    receipts_next c.self.inside.receipts.items c.add.new.receipts.items c.in-Ok.receipt
    c.add.ensures.items
    ∙ ap (λ (receipts : List Receipt). c.in-Ok.receipt ∷ receipts) c.self.view_is

-- the places before rise
rising : (c : goal.After-add) → seats.PlacesRise c.args.self.now
rising c = subst seats.PlacesRise c.self.view_is c.self.invariant.0

-- the new receipt's place is above those before
above : (c : goal.After-add) → seats.Above c.in-Ok.receipt.place c.args.self.now
above c = above_next c.args.kept.now.entries c.args.self.now c.in-Ok.receipt.place ((c.in_ok-spot.ensures {u = tt}).ok) (rising c) ((c.in-Ok.ensures {u = tt}).next.place)

pub invariant_of-self : goal.invariant_of-self
invariant_of-self c =
    let kind = next_kind c.args.kept.now c.args.event.now c.args.seen c.in-Ok.receipt ((c.in-Ok.ensures {u = tt}).next) in (
      subst seats.PlacesRise (sym (added c)) (above c, rising c),
      c.add.ensures.newest c.self.invariant.1,
      subst kinds.AreOfTheirEvents (sym (added c)) (kind, subst kinds.AreOfTheirEvents c.self.view_is c.self.invariant.2),
    )

pub returns-clause-adds : goal.returns-clause-adds
returns-clause-adds c =
    let next = (c.in-Ok.ensures {u = tt}).next in
    (c.in-Ok.receipt, added c, next.event_is, stamp_above _ c.args.seen c.in-Ok.receipt.stamp next.stamp, above c)

-- it is that of the next entry
next : (c : goal.After-add) → seats.AddsNextOf c.args.kept.now c.in-Ok.receipt c.args.self.now (reverse c.add.new.receipts.items) c.args.event.now c.args.seen
next c = record { added = added c; is_account = (c.in_ok-spot.ensures {u = tt}).account; has = (c.in_ok-spot.ensures {u = tt}).ok; next = (c.in-Ok.ensures {u = tt}).next }

pub returns-clause-next : goal.returns-clause-next
returns-clause-next c = (c.args.kept.now, c.in-Ok.receipt, refl, next c)

pub returns-clause-entry : goal.returns-clause-entry
returns-clause-entry c =
    let receipt = c.in-Ok.receipt in
    let after = (c.in-Ok.ensures {u = tt}).entry in
    (receipt, next c, after ∙ ap (λ (noted : List ℕ). with_noted noted (with_next c.args.kept.now (entry_of receipt))) (sym (ap (λ (account : Account). account.noted) after)))

pub returns-clause-stays : goal.returns-clause-stays
returns-clause-stays c =
    let receipt = c.in-Ok.receipt in
    subst (λ (receipts : List Receipt). seats.StaysNewest c.args.kept.now c.append_at.new.self c.args.self.now receipts) (sym (added c))
    (stays_newest c.args.kept.now c.append_at.new.self c.args.self.now receipt c.in_ok-spot.spot ((c.in_ok-spot.ensures {u = tt}).spot) ((c.in-Ok.ensures {u = tt}).next.place) ((c.in-Ok.ensures {u = tt}).entry))
