use Rattle.std.proofs.Common.{refl}
use Rattle.nob_check.specs.Checks.{items_to}
use Rattle.nob_check.proofs.Fronting.{sent_parts, more_passed, all_passed}
use Rattle.nob_check.proofs.fronts.items_to.Goals as goal

pub loop-sent_item-preserved : goal.loop-sent_item-preserved
loop-sent_item-preserved c =
    more_passed (items_to c.args.receiver c.args.session) (sent_parts c.args.receiver c.args.session) c.args.sent_items.now c.loop-sent_item.sent_item-index c.sent_item-item.result _ _ _ c.loop-sent_item-test.true c.sent_item-item.is c.in_ok-items.ensures c.loop-sent_item.invariant

pub returns : goal.returns
returns c = all_passed (items_to c.args.receiver c.args.session) c.args.sent_items.now c.loop-sent_item.sent_item-index _ _ c.loop-sent_item-test.false refl c.loop-sent_item.invariant
