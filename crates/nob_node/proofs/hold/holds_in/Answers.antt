use Rattle.std.proofs.Common.{rules, None}
use Rattle.nob_node.specs.Holds.{counted_in}
use Rattle.nob_node.proofs.Holdings.{held_more, held_all}
use Rattle.nob_node.proofs.hold.holds_in.Goals as goal

pub loop-rep-preserved : goal.loop-rep-preserved
loop-rep-preserved c = held_more c.loop-rep.holds.items c.push.new.self.items (record { rep = c.in-Some.rep; placed = None }) (counted_in c.args.value.now) c.loop-rep.invariant (search rules) c.in_default-push.ensures.items

pub returns : goal.returns
returns c = held_all c.loop-rep.holds.items (counted_in c.args.value.now) c.loop-rep.invariant (search rules)
