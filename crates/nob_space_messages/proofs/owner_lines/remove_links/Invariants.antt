use Rattle.std.proofs.Common.{◌≡◌, ◌≤◌, ◌==◌, ◌&&◌, nat_lt, None, if◌then◌else◌}
use Rattle.indexmap.specs.IndexMap.{spare}
use Rattle.nob_space_messages.specs.Lines.{stamp_of}
use Rattle.nob_space_messages.specs.declared.owner_lines.Place.{Place}
use Rattle.nob_space_messages.proofs.owner_lines.remove_links.Given as goal

abbrev pub invariant-loop-place : goal.invariant-loop-place
invariant-loop-place l = ((other : Place) → stamp_of l.links.entries other ≡ (if l.line.number == other.line && nat_lt other.place l.place then None else stamp_of l.fn.links.entries other)) × (spare l.fn.links ≤ spare l.links)
