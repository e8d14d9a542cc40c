use Rattle.std.proofs.Common.{◌∙◌, sym}
use Rattle.nob_space_messages.proofs.Numbered.{cleared}
use Rattle.nob_space_messages.proofs.owner_lines.OwnerLines.clear.Goals as goal

pub invariant_of-self : goal.invariant_of-self
invariant_of-self c =
    cleared c.self.inside.lines.rows c.self.inside.links.entries c.self.inside.next c.self.invariant c.args.rep.now c.in-Some.line (sym c.get.ensures ∙ c.in-Some.is)
    c.take.new.self.rows c.take.ensures.puts c.remove_links.new.links.entries c.remove_links.ensures.links
