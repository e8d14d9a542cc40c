use Rattle.std.proofs.Common.{rules, ◌≡◌, sym, subst}
use Rattle.std.specs.List.{AllByRecursion}
use Rattle.crossbeam_channel.specs.Ends.{receives_on}
use Rattle.nob_dispatch_lanes.proofs.Whole.{all_one_lane}
use Rattle.nob_dispatch_lanes.proofs.making.lane.Goals as goal

pub returns-clause-ends : goal.returns-clause-ends
returns-clause-ends g c =
    let giving = c.in_ok-giving.giving.items in let getting = c.in_ok-getting.getting.items in
    let gets = subst (λ (channel : _). AllByRecursion (λ end. channel ≡ receives_on end.receiver) getting) (sym c.in_ok-getting.ensures.first.0) c.in_ok-getting.ensures.lane in
    record {
      one = all_one_lane c.getters.new.first giving getting c.in_ok-giving.ensures.lane gets;
      all = search rules;
    }
