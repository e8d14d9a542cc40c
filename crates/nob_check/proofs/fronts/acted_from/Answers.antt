use Rattle.std.proofs.Common.{refl}
use Rattle.nob_check.specs.Checks.{acted_from_by}
use Rattle.nob_check.proofs.Fronting.{acted_parts, more_passed, all_passed}
use Rattle.nob_check.proofs.fronts.acted_from.Goals as goal

pub loop-acted_item-preserved : goal.loop-acted_item-preserved
loop-acted_item-preserved c =
    more_passed (acted_from_by c.args.sender c.args.session) (acted_parts c.args.sender c.args.session) c.args.acted_items.now c.loop-acted_item.acted_item-index c.acted_item-item.result _ _ _ c.loop-acted_item-test.true c.acted_item-item.is c.in_ok-items.ensures c.loop-acted_item.invariant

pub returns : goal.returns
returns c = all_passed (acted_from_by c.args.sender c.args.session) c.args.acted_items.now c.loop-acted_item.acted_item-index _ _ c.loop-acted_item-test.false refl c.loop-acted_item.invariant
