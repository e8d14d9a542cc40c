use Rattle.std.proofs.Common.{◌≡◌, ◌∙◌, Some, ap, sym, if◌then◌else◌}
use Rattle.nob_space_messages.specs.Lines.{is_place, place_of, stamp_of}
use Rattle.nob_space_messages.specs.declared.owner_lines.Place.{Place}
use Rattle.nob_space_messages.proofs.Numbered.{lengthened, mine, mine_count, stamped}
use Rattle.nob_space_messages.proofs.owner_lines.OwnerLines.push.Goals as goal

-- what is linked to each place
linked : (c : goal.After-self-1) (place : Place) → stamp_of c.insert.new.self.entries place
    ≡ (if is_place (place_of (mine c.self.inside.lines.rows c.self.inside.links.entries c.self.inside.next c.self.invariant c.args.rep.now) (mine c.self.inside.lines.rows c.self.inside.links.entries c.self.inside.next c.self.invariant c.args.rep.now).count) place then Some c.args.stamp else stamp_of c.self.inside.links.entries place)
linked c place =
    let rows = c.self.inside.lines.rows in let links = c.self.inside.links.entries in let next = c.self.inside.next in let rep = c.args.rep.now in
    let k = rw c.unwrap-none.ensures at c.insert.ensures.updates in
    k.0 place ∙ ap (λ (p : Place). if is_place p place then Some c.args.stamp else stamp_of links place)
    (c.lengthen-place.ensures.place ∙ ap (place_of (mine rows links next c.self.invariant rep)) (sym (mine_count rows links next c.self.invariant rep)))

pub invariant_of-self : goal.invariant_of-self
invariant_of-self c = lengthened c.self.inside.lines.rows c.self.inside.links.entries c.self.inside.next c.self.invariant c.args.rep.now c.lengthen-place.new.lines.rows c.lengthen-place.ensures.puts c.insert.new.self.entries c.args.stamp (linked c)

pub returns-clause-links : goal.returns-clause-links
returns-clause-links c other place =
    rw (← c.self.view_is) (stamped c.self.inside.lines.rows c.self.inside.links.entries c.self.inside.next c.self.invariant c.args.rep.now c.lengthen-place.new.lines.rows c.lengthen-place.ensures.puts c.insert.new.self.entries c.args.stamp (linked c) other place)
