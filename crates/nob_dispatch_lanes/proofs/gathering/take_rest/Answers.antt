use Rattle.std.proofs.Common.{arith, ◌≡◌, ◌<◌, ◌+◌, ℕ, length, ap, ◌∙◌}
use Rattle.nob_dispatch_lanes.specs.Balance.{weigh, count}
use Rattle.nob_dispatch_lanes.specs.Ends.{given_by, got_by}
use Rattle.nob_dispatch_lanes.proofs.Steps.{gets_rest, learns, weigh_append, weigh_none, count_is_length}
use Rattle.nob_dispatch_lanes.proofs.gathering.take_rest.Goals as goal

pub try_recv_as-requires-clause-rule : goal.try_recv_as-requires-clause-rule
try_recv_as-requires-clause-rule g c =
    let kept = c.loop.invariant in (gets_rest _ _ kept.1, learns _ _ kept.1)

pub push_reserved-requires : goal.push_reserved-requires
push_reserved-requires g c =
    let kept = c.loop.invariant in let rest = c.loop.rest.items in
    let fewer : count (got_by c.loop.pass) < count (given_by c.loop.pass) = c.in-Ok.ensures.rule.1 in
    let got : count (got_by c.loop.pass) ≡ count (got_by c.args.pass) + length rest = ap count kept.3 ∙ weigh_append (λ n. 1) (got_by c.args.pass) rest ∙ ap (λ (n : ℕ). count (got_by c.args.pass) + n) (count_is_length rest) in
    omega (arith, fewer, got, kept.4, ap count kept.2, c.loop.rest.ok)

pub returns-in-Err : goal.returns-in-Err
returns-in-Err g c weight =
    let kept = c.loop.invariant in let rest = c.loop.rest.items in
    let left = c.in-Err.ensures.rule.1 in
    let none : weigh weight left.0 ≡ 0 = weigh_none weight left.0 left.1 in
    omega (arith, left.2.0 weight, none, ap (weigh weight) kept.2, ap (weigh weight) kept.3, weigh_append weight (got_by c.args.pass) rest)
