use Rattle.std.proofs.Common.{◌≡◌, ◌≤◌, ◌+◌, ◌++◌, vec_capacity}
use Rattle.crossbeam_channel.specs.Claims.{IsSeatAt}
use Rattle.crossbeam_channel.specs.Ends.{receives_on}
use Rattle.nob_dispatch_lanes.specs.Balance.{all_parts, count}
use Rattle.nob_dispatch_lanes.specs.Ends.{parts_of, given_by, got_by}
use Rattle.nob_dispatch_lanes.proofs.gathering.take_rest.Given as goal

abbrev pub invariant-loop : goal.invariant-loop
invariant-loop g l =
    IsSeatAt (receives_on l.receiver) l.pass × (parts_of l.pass ≡ all_parts) × (given_by l.pass ≡ given_by l.fn.pass)
    × (got_by l.pass ≡ got_by l.fn.pass ++ l.rest.items) × (count (given_by l.fn.pass) ≤ count (got_by l.fn.pass) + vec_capacity l.rest)
