use Rattle.std.proofs.Common.{ap, ◌∙◌}
use Rattle.nob_space_messages.specs.InLine.{target_at}
use Rattle.nob_space_messages.proofs.Joined.{first_there, links_joined, target_pushed, tied_above}
use Rattle.nob_space_messages.proofs.in_line.InLine.push.Goals as goal

pub push-requires-clause-above : goal.push-requires-clause-above
push-requires-clause-above c = tied_above c.args.self.now.links.rows c.set_behind.new.links.rows c.set_behind.new.links.rows c.args.stamp c.args.target c.lane_of-lane.result c.last_of-before.result c.last_of-before.ensures c.requires.above c.set_behind.ensures.targets c.set_behind.ensures.before c.set_behind.ensures.behind

pub mark_first-requires : goal.mark_first-requires
mark_first-requires c = first_there c.args.self.now.links.rows c.set_behind.new.links.rows c.push.new.self.rows c.args.stamp c.args.target c.lane_of-lane.result c.last_of-before.result c.last_of-before.ensures c.requires.above c.set_behind.ensures.targets c.set_behind.ensures.before c.set_behind.ensures.behind
    c.push.ensures.rows c.requires.lines c.lane_of-lane.ensures c.first_or.result c.first_or.ensures

pub returns-clause-targets : goal.returns-clause-targets
returns-clause-targets c other =
    ap (λ rows. target_at rows other) c.mark_first.ensures.rows
    ∙ target_pushed c.args.self.now.links.rows c.set_behind.new.links.rows c.push.new.self.rows c.args.stamp c.args.target c.lane_of-lane.result c.last_of-before.result c.last_of-before.ensures c.requires.above c.set_behind.ensures.targets c.set_behind.ensures.before c.set_behind.ensures.behind
    c.push.ensures.rows other

pub returns-clause-lines : goal.returns-clause-lines
returns-clause-lines c =
    rw c.mark_first.ensures.rows
    (links_joined c.args.self.now.links.rows c.set_behind.new.links.rows c.push.new.self.rows c.args.stamp c.args.target c.lane_of-lane.result c.last_of-before.result c.last_of-before.ensures c.requires.above c.set_behind.ensures.targets c.set_behind.ensures.before c.set_behind.ensures.behind
    c.push.ensures.rows c.requires.lines c.lane_of-lane.ensures c.first_or.result c.first_or.ensures c.put.new.self.rows c.push.new.self.marked c.mark_first.new.links.marked (c.push.ensures.marked ∙ c.set_behind.ensures.marked) c.put.ensures.puts c.mark_first.ensures.marks)
