use Rattle.std.proofs.Common.{◌≡◌, ◌≤◌, ◌+◌, ◌++◌, true, length, vec_capacity}
use Rattle.crossbeam_channel.specs.Claims.{IsSeatAt}
use Rattle.crossbeam_channel.specs.Ends.{receives_on}
use Rattle.nob_link.specs.Ends.{known_by}
use Rattle.nob_link.proofs.finishing.take_rest.Given as goal

abbrev pub invariant-loop : goal.invariant-loop
invariant-loop g l =
    IsSeatAt (receives_on l.receiver) l.pass × ((known_by l.pass).puts ≡ true) × ((known_by l.pass).takes ≡ true)
    × ((known_by l.pass).put ≡ (known_by l.fn.pass).put) × ((known_by l.pass).taken ≡ (known_by l.fn.pass).taken ++ l.rest.items)
    × (length (known_by l.fn.pass).put ≤ length (known_by l.fn.pass).taken + vec_capacity l.rest)
