use Rattle.std.proofs.Common.{sym, subst}
use Rattle.nob_dispatch.specs.Dispatching.{Dispatching, IsTied}
use Rattle.nob_dispatch.proofs.dispatcher.Dispatcher.step.Goals as goal

pub returns-in-None-clause-tied : goal.returns-in-None-clause-tied
returns-in-None-clause-tied g c = λ handed tied. c.claim.ensures.tied handed (subst (λ (d : Dispatching _). IsTied handed d) (sym c.in-None.ensures.tied) tied)
