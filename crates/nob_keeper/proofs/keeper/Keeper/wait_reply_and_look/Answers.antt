use Rattle.std.proofs.Common.{List, subst}
use Rattle.nob_model_types.specs.declared.event.Event.TheVariants as events
use Rattle.nob_kept.specs.Seats as seats
use Rattle.nob_keeper.specs.Waking as waking
use Rattle.nob_kept.specs.declared.receipt.Receipt.{Receipt}
use Rattle.nob_keeper.proofs.keeper.Keeper.wait_reply_and_look.Goals as goal

pub returns-clause-next : goal.returns-clause-next
returns-clause-next g c =
    subst (λ (receipts : List Receipt). seats.AddsNext c.args.self.now.identity receipts c.call.new.seat (events.TakeReply c.args.call) 0) c.make_room-room.ensures ((c.in_ok-notice.ensures {u = tt}).next)

pub returns-clause-opens : goal.returns-clause-opens
returns-clause-opens g c =
    subst (λ (receipts : List Receipt). waking.AddsAndOpens c.args.self.now.identity receipts c.call.new.seat (events.TakeReply c.args.call) 0 c.in_ok-notice.notice.prospects) c.make_room-room.ensures ((c.in_ok-notice.ensures {u = tt}).opens)
