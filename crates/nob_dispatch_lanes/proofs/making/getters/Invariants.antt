use Rattle.std.proofs.Common.{◌≡◌, ◌≤◌, ◌+◌, ◌-◌, [], length}
use Rattle.std.specs.List.{AllByRecursion}
use Rattle.crossbeam_channel.specs.Ends.{sends_on, receives_on}
use Rattle.nob_dispatch_lanes.specs.Ends.{parts_of, given_by}
use Rattle.nob_dispatch_lanes.specs.Lanes.{all_got, getting_parts}
use Rattle.nob_dispatch_lanes.proofs.making.getters.Given as goal

abbrev pub invariant-loop-first : goal.invariant-loop-first
invariant-loop-first g l =
    (sends_on l.first.sender ≡ sends_on l.fn.first.sender) × (given_by l.first.pass ≡ given_by l.fn.first.pass)
    × (getting_parts l.ends.items ≡ length l.ends.items) × (parts_of l.first.pass + length l.ends.items ≡ parts_of l.fn.first.pass)
    × (length l.ends.items ≤ l.fn.takes) × (all_got l.ends.items ≡ [])
    × AllByRecursion (λ end. sends_on l.fn.first.sender ≡ receives_on end.receiver) l.ends.items
    × (l.first.has_heard_gone ≡ l.fn.first.has_heard_gone)

abbrev pub decreases-loop-first : goal.decreases-loop-first
decreases-loop-first g l = l.fn.takes - length l.ends.items
