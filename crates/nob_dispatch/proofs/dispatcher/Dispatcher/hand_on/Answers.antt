use Rattle.std.proofs.Common.{Bool, ap, sym, ◌∙◌}
use Rattle.nob_dispatch.specs.Dispatching.{Dispatching, due_in}
use Rattle.nob_dispatch.specs.Ends.{claimed, ended, with_job}
use Rattle.nob_dispatch.proofs.Ties.{kept_parts}
use Rattle.nob_dispatch.proofs.dispatcher.Dispatcher.hand_on.Goals as goal

pub returns-then-must_wait-clause-tied : goal.returns-then-must_wait-clause-tied
returns-then-must_wait-clause-tied g c =
    let seat = c.self.inside.seat in
    let due = ap (λ (d : Dispatching _). d.is_due) c.self.view_is ∙ c.requires in
    let is_due = sym c.in-Some.is ∙ c.in_ok-job.ensures ∙ sym (ap (λ (b : Bool). due_in b seat) due) in
    rw (← c.self.view_is) (λ handed tied. kept_parts (claimed seat) handed c.self.inside.waiting.items c.push.new.self.items (with_job c.self.inside.ending (ended seat)) (due_in c.self.inside.is_due seat) c.in-Some.job is_due c.in-Ok.ensures.items tied)
