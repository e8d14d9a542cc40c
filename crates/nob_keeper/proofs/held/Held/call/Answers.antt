use Rattle.std.proofs.Common.{◌≡◌, refl, sym, subst}
use Rattle.nob_kept.specs.declared.identity.Identity.{Identity}
use Rattle.nob_kept.specs.declared.receipt.Receipt.{Receipt}
use Rattle.nob_kept.specs.Accounts.{Account, with_next}
use Rattle.nob_kept.specs.Receipts.{entry_of}
use Rattle.nob_kept.specs.Seats as seats
use Rattle.nob_keeper.specs.Waking.{AreProspectsBehind}
use Rattle.nob_keeper.proofs.Desks.{prospects_noted}
use Rattle.nob_kept.proofs.Seats.{newest_is}
use Rattle.nob_keeper.proofs.held.Held.call.Goals as goal

pub returns-clause-next : goal.returns-clause-next
returns-clause-next c =
    subst (λ (identity : Identity). seats.AddsNext identity c.args.seat.now c.ask.new.self c.args.event.now c.args.seen) ((c.if-not-is_of.ensures {u = tt}).0 refl) ((c.in_ok-ask.ensures {u = tt}).next)

pub returns-clause-opens : goal.returns-clause-opens
returns-clause-opens c =
    let kept = c.args.self.now.kept in
    let adds = (c.in_ok-ask.ensures {u = tt}).entry in
    let receipt = adds.0 in
    let same : receipt ≡ c.in-Some.receipt.now = newest_is c.ask.new.self c.args.seat.now receipt c.in-Some.receipt.now adds.1.added c.in-Some.ensures in
    let behind : AreProspectsBehind c.ask.new.kept receipt c.notice_of-notice.result.prospects = subst (λ (r : Receipt). AreProspectsBehind c.ask.new.kept r c.notice_of-notice.result.prospects) (sym same) c.notice_of-notice.ensures.prospects in (
      kept,
      receipt,
      (c.if-not-is_of.ensures {u = tt}).0 refl,
      adds.1,
      prospects_noted c.ask.new.kept.noted (with_next kept (entry_of receipt)) receipt c.notice_of-notice.result.prospects
          (subst (λ (account : Account). AreProspectsBehind account receipt c.notice_of-notice.result.prospects) adds.2 behind),
    )
