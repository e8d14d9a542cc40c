use Rattle.std.proofs.Common.{ap, sym, ◌∙◌}
use Rattle.nob_space_messages.specs.InLine.{target_at}
use Rattle.nob_space_messages.proofs.Left.{before_there, behind_there, first_there, links_left, links_same, some_link, target_left, target_same}
use Rattle.nob_space_messages.proofs.in_line.InLine.take.Goals as goal

pub returns-in_default-clause-targets : goal.returns-in_default-clause-targets
returns-in_default-clause-targets c = target_same c.args.self.now.links.rows c.take.new.self.rows c.args.stamp (sym c.take.ensures.item ∙ c.in_default.is) c.take.ensures.rows

pub returns-in_default-clause-lines : goal.returns-in_default-clause-lines
returns-in_default-clause-lines c = links_same c.args.self.now.links.rows c.take.new.self.rows c.args.stamp (sym c.take.ensures.item ∙ c.in_default.is) c.take.ensures.rows c.requires.lines c.take.new.self.marked c.take.ensures.marked

pub set_behind-requires : goal.set_behind-requires
set_behind-requires c = before_there c.args.self.now.links.rows c.take.new.self.rows c.take.new.self.rows c.take.new.self.rows c.args.stamp c.in-Some.link (sym c.take.ensures.item ∙ c.in-Some.is) c.len-count.ensures.rising c.take.ensures.rows c.requires.lines

pub set_before-requires : goal.set_before-requires
set_before-requires c s e =
    some_link c.take.new.self.rows c.set_behind.new.links.rows c.set_behind.ensures.targets s
    (behind_there c.args.self.now.links.rows c.take.new.self.rows c.take.new.self.rows c.take.new.self.rows c.args.stamp c.in-Some.link (sym c.take.ensures.item ∙ c.in-Some.is) c.len-count.ensures.rising c.take.ensures.rows c.requires.lines s e)

pub mark_first-requires : goal.mark_first-requires
mark_first-requires c =
    first_there c.args.self.now.links.rows c.take.new.self.rows c.set_behind.new.links.rows c.set_before.new.links.rows c.args.stamp c.in-Some.link (sym c.take.ensures.item ∙ c.in-Some.is) c.len-count.ensures.rising c.take.ensures.rows c.requires.lines
    c.set_behind.ensures.targets c.set_behind.ensures.before c.set_behind.ensures.behind c.set_before.ensures.targets c.set_before.ensures.before c.set_before.ensures.behind
    c.in-Some-get.lane (sym c.get.ensures ∙ c.in-Some-get.is) c.lane_taken-lane.result c.lane_taken-lane.ensures

pub returns-clause-targets : goal.returns-clause-targets
returns-clause-targets c other =
    ap (λ rows. target_at rows other) c.mark_first.ensures.rows
    ∙ target_left c.args.self.now.links.rows c.take.new.self.rows c.set_behind.new.links.rows c.set_before.new.links.rows c.args.stamp c.in-Some.link (sym c.take.ensures.item ∙ c.in-Some.is) c.len-count.ensures.rising c.take.ensures.rows c.requires.lines
    c.set_behind.ensures.targets c.set_behind.ensures.before c.set_behind.ensures.behind c.set_before.ensures.targets c.set_before.ensures.before c.set_before.ensures.behind other

pub returns-clause-lines : goal.returns-clause-lines
returns-clause-lines c =
    rw c.mark_first.ensures.rows
    (links_left c.args.self.now.links.rows c.take.new.self.rows c.set_behind.new.links.rows c.set_before.new.links.rows c.args.stamp c.in-Some.link (sym c.take.ensures.item ∙ c.in-Some.is) c.len-count.ensures.rising c.take.ensures.rows c.requires.lines
    c.set_behind.ensures.targets c.set_behind.ensures.before c.set_behind.ensures.behind c.set_before.ensures.targets c.set_before.ensures.before c.set_before.ensures.behind
    c.in-Some-get.lane (sym c.get.ensures ∙ c.in-Some-get.is) c.lane_taken-lane.result c.lane_taken-lane.ensures
    c.write.new.self.rows c.take.new.self.marked c.set_before.new.links.marked c.mark_first.new.links.marked c.take.ensures.marked (c.set_before.ensures.marked ∙ c.set_behind.ensures.marked) c.write.ensures.puts c.mark_first.ensures.marks)
