use Rattle.std.proofs.Common.{List, subst}
use Rattle.nob_kept.specs.Seats as seats
use Rattle.nob_keeper.specs.Waking as waking
use Rattle.nob_kept.specs.declared.receipt.Receipt.{Receipt}
use Rattle.nob_keeper.proofs.keeper.Keeper.call_and_look.Goals as goal

pub returns-clause-next : goal.returns-clause-next
returns-clause-next g c =
    subst (λ (receipts : List Receipt). seats.AddsNext c.args.self.now.identity receipts c.call.new.seat c.args.event.now c.args.seen) c.make_room-room.ensures ((c.in_ok-notice.ensures {u = tt}).next)

pub returns-clause-opens : goal.returns-clause-opens
returns-clause-opens g c =
    subst (λ (receipts : List Receipt). waking.AddsAndOpens c.args.self.now.identity receipts c.call.new.seat c.args.event.now c.args.seen c.in_ok-notice.notice.prospects) c.make_room-room.ensures ((c.in_ok-notice.ensures {u = tt}).opens)
