use Rattle.std.proofs.Common.{ℕ, ap, sym, subst}
use Rattle.std.specs.Global.{Vec}
use Rattle.test_definitions.specs.Verdicts.{IsVerdict}
use Rattle.test_definitions.proofs.trace.verdict_of.Goals as goal

pub returns : goal.returns
returns c =
    let trace = c.in_ok-trace.trace in
    (trace, c.in_ok-trace.ensures.found.0, c.in_ok-trace.ensures.found.1, subst (IsVerdict trace) (ap (λ (v : Vec ℕ). v.items) (sym c.into_bytes.ensures.value)) c.in_ok-verdict_on.ensures)
