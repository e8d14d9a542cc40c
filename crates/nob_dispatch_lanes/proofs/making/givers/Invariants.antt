use Rattle.std.proofs.Common.{◌≡◌, ◌≤◌, ◌+◌, ◌-◌, [], length}
use Rattle.std.specs.List.{AllByRecursion}
use Rattle.crossbeam_channel.specs.Ends.{sends_on}
use Rattle.nob_dispatch_lanes.specs.Ends.{parts_of, given_by}
use Rattle.nob_dispatch_lanes.specs.Lanes.{all_given, giving_parts, HaveNotHeard}
use Rattle.nob_dispatch_lanes.proofs.making.givers.Given as goal

abbrev pub invariant-loop-first : goal.invariant-loop-first
invariant-loop-first g l =
    (sends_on l.first.sender ≡ sends_on l.fn.first.sender) × (given_by l.first.pass ≡ given_by l.fn.first.pass)
    × (giving_parts l.ends.items ≡ length l.ends.items) × (parts_of l.first.pass + length l.ends.items ≡ parts_of l.fn.first.pass)
    × (length l.ends.items + 1 ≤ l.fn.puts) × (all_given l.ends.items ≡ [])
    × AllByRecursion (λ end. sends_on end.sender ≡ sends_on l.fn.first.sender) l.ends.items
    × (l.first.has_heard_gone ≡ l.fn.first.has_heard_gone) × HaveNotHeard l.ends.items

abbrev pub decreases-loop-first : goal.decreases-loop-first
decreases-loop-first g l = l.fn.puts - length l.ends.items
