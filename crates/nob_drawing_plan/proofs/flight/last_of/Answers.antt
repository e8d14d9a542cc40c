use Rattle.std.proofs.Common.{◌≡◌, ℕ, ◌-◌, length, take, ap, sym, ◌∙◌, arith}
use Rattle.std.proofs.lemmas.List.{take_all}
use Rattle.nob_drawing_plan.specs.Flights as spec
use Rattle.nob_drawing_plan.proofs.Newest.{found_back, passed_back}
use Rattle.nob_drawing_plan.proofs.flight.last_of.Goals as goal

pub loop-back-init : goal.loop-back-init
loop-back-init c = ap (spec.last_of c.args.frame.now) (take_all (length c.args.departures.now - 0) c.args.departures.now (omega arith))

pub returns-then-is_of : goal.returns-then-is_of
returns-then-is_of c = found_back c.args.frame.now c.args.departures.now c.loop-back.back c.index-departures-departures.result c.loop-back-test.true c.index-departures-departures.is c.loop-back.invariant (sym c.is_of.ensures ∙ c.if-is_of.true)

pub loop-back-preserved : goal.loop-back-preserved
loop-back-preserved c = passed_back c.args.frame.now c.args.departures.now c.loop-back.back c.index-departures-departures.result c.loop-back-test.true c.index-departures-departures.is c.loop-back.invariant (sym c.is_of.ensures ∙ c.if-is_of.false)

pub returns : goal.returns
returns c =
    let none : 0 ≡ length c.args.departures.now - c.loop-back.back = omega (arith, c.loop-back-test.false) in
    ap (λ (k : ℕ). spec.last_of c.args.frame.now (take k c.args.departures.now)) none ∙ c.loop-back.invariant
