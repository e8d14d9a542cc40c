use Rattle.std.proofs.Common.{subst}
use Rattle.nob_model_invariant.specs.Safe.{IsSafe}
use Rattle.nob_watch.specs.Reruns.{Following, journal_of}
use Rattle.nob_watch.proofs.Reruns.{safe_of}
use Rattle.nob_watch.proofs.rerun.Rerun.len.Goals as goal

pub returns-clause-safe : goal.returns-clause-safe
returns-clause-safe c =
    let its = c.self.inside in
    subst (λ (f : Following). IsSafe f.n (journal_of f.passed)) c.self.view_is
    (safe_of its.n its.limits.items (journal_of its.passed.items) c.self.invariant.each c.self.invariant.some c.self.invariant.run)
