use Rattle.std.proofs.Common.{arith, refl, ap}
use Rattle.nob_dispatch_lanes.specs.declared.rule.Knowledge.{Knowledge}
use Rattle.nob_dispatch_lanes.specs.Balance.{count}
use Rattle.nob_dispatch_lanes.proofs.Steps.{learns, count_is_length}
use Rattle.nob_dispatch_lanes.proofs.Whole.{parted, givers_at, getters_at, takes_at, of_parted}
use Rattle.nob_dispatch_lanes.proofs.gathering.gather.Goals as goal

pub join_givers-pass-requires-clause-lanes : goal.join_givers-pass-requires-clause-lanes
join_givers-pass-requires-clause-lanes g c =
    let put = parted c.args.puts.items c.remove-sender.new.self.items c.remove-sender.result c.requires.puts c.remove-sender.ensures.value c.remove-sender.ensures.items in
    givers_at c.remove-sender.result c.remove-sender.new.self.items c.args.takes.items c.requires.takes (of_parted _ _ _ _ put refl c.requires.ends)

pub join_getters-pass-requires-clause-lanes : goal.join_getters-pass-requires-clause-lanes
join_getters-pass-requires-clause-lanes g c =
    let put = parted c.args.puts.items c.remove-sender.new.self.items c.remove-sender.result c.requires.puts c.remove-sender.ensures.value c.remove-sender.ensures.items in
    let take = parted c.args.takes.items c.remove-receiver.new.self.items c.remove-receiver.result c.requires.takes c.remove-receiver.ensures.value c.remove-receiver.ensures.items in
    getters_at c.remove-sender.result c.remove-receiver.new.self.items (of_parted _ _ _ _ put take c.requires.ends).one.0.1

pub learn_as-requires-clause-rule : goal.learn_as-requires-clause-rule
learn_as-requires-clause-rule g c =
    let put = parted c.args.puts.items c.remove-sender.new.self.items c.remove-sender.result c.requires.puts c.remove-sender.ensures.value c.remove-sender.ensures.items in
    let take = parted c.args.takes.items c.remove-receiver.new.self.items c.remove-receiver.result c.requires.takes c.remove-receiver.ensures.value c.remove-receiver.ensures.items in
    learns _ _ (omega (arith, c.join_getters-pass.ensures.parts, c.join-pass.ensures.parts, c.join_givers-pass.ensures.parts, (of_parted _ _ _ _ put take c.requires.ends).all))

pub take_rest-requires-clause-room : goal.take_rest-requires-clause-room
take_rest-requires-clause-room g c =
    let left = c.learn_as.ensures.rule in let same = c.learn_as.ensures.channel.2 in let rest = left.0 in
    (c.in-Ok.ensures.items, omega (arith, ap (λ (v : Knowledge _). count v.given) same, ap (λ (v : Knowledge _). count v.got) same, left.1.0 (λ n. 1), left.1.1, count_is_length rest, c.in-Ok.ensures.capacity))

pub join-pass-requires-clause-lane : goal.join-pass-requires-clause-lane
join-pass-requires-clause-lane g c =
    let put = parted c.args.puts.items c.remove-sender.new.self.items c.remove-sender.result c.requires.puts c.remove-sender.ensures.value c.remove-sender.ensures.items in
    let take = parted c.args.takes.items c.remove-receiver.new.self.items c.remove-receiver.result c.requires.takes c.remove-receiver.ensures.value c.remove-receiver.ensures.items in
    (c.join_givers-pass.ensures.lane, takes_at c.remove-sender.result c.remove-receiver.result (of_parted _ _ _ _ put take c.requires.ends).one.0.0)
