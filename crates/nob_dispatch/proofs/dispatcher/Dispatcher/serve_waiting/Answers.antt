use Rattle.std.proofs.Common.{◌≡◌, ℕ, ◌∷◌, Option, inl, inr, ap, sym, subst, ◌∙◌}
use Rattle.nob_model_types.specs.declared.answer.Job.{Job}
use Rattle.nob_dispatch_lanes.specs.Balance.{weigh}
use Rattle.nob_dispatch.specs.Dispatching.{Dispatching, due_in, IsWithout}
use Rattle.nob_dispatch.specs.Ends.{claimed, ended, with_job}
use Rattle.nob_dispatch.proofs.Ties.{Parts, once_behind, handed_parts, ending_parts}
use Rattle.nob_dispatch.proofs.dispatcher.Dispatcher.serve_waiting.Goals as goal

pub returns-in_default-serve-clause-tied : goal.returns-in_default-serve-clause-tied
returns-in_default-serve-clause-tied g c =
    let seat = c.self.inside.seat in let due = due_in c.self.inside.is_due seat in
    let old = c.self.inside.waiting.items in let new = c.take_waiting.new.waiting.items in
    let none = ap (λ (d : Dispatching _). d.ending) c.self.view_is ∙ c.requires.ending in
    rw (← c.self.view_is) (λ handed tied.
    let once = once_behind due old new c.in-Some.job c.in-Some.ensures.once in
    let before = subst (λ (e : Option ℕ). Parts (claimed seat) handed (with_job due old) (with_job e (ended seat))) none tied in
    let now = ending_parts (claimed seat) handed (with_job due old) (with_job due new) (ended seat) c.in-Some.job once before in
    subst (λ (e : Option ℕ). Parts (claimed seat) handed (with_job due new) (with_job e (ended seat))) (sym c.in_default-serve.ensures.ending) now)

pub returns-clause-tied : goal.returns-clause-tied
returns-clause-tied g c =
    let seat = c.self.inside.seat in let due = due_in c.self.inside.is_due seat in
    let old = c.self.inside.waiting.items in let new = c.take_waiting.new.waiting.items in
    let job = c.in-Some-serve.errand.job in
    let taken = subst (λ (j : Job). (weight : Job → ℕ) → weigh weight old ≡ weigh weight (j ∷ new)) (sym c.in-Some-serve.ensures.served.0) c.in-Some.ensures.once in
    rw (← c.self.view_is) (λ handed tied.
    let now = handed_parts (claimed seat) handed (with_job due old) (with_job due new) (with_job c.self.inside.ending (ended seat)) job (once_behind due old new job taken) tied in
    subst (λ (e : Option ℕ). Parts (claimed seat) (job ∷ handed) (with_job due new) (with_job e (ended seat))) (sym c.in-Some-serve.ensures.ending) now)

pub returns-in_default-serve-clause-goes_on : goal.returns-in_default-serve-clause-goes_on
returns-in_default-serve-clause-goes_on g c =
    let none = ap (λ (d : Dispatching _). d.ending) c.self.view_is ∙ c.requires.ending in
    let due = ap (λ (d : Dispatching _). d.is_due) c.self.view_is ∙ c.requires.due in
    rw (← c.self.view_is) (λ claims. inr (inl (
      c.in-Some.job,
      c.take_waiting.new.waiting.items,
      inr (due, c.in-Some.ensures.without),
      c.in_default-serve.ensures.absent,
      none,
      λ i. record { receipts = c.self.inside.seat; shelf = c.in_default-serve.ensures.served i; is_due = due i; waiting = c.take_waiting.new.waiting.items; ending = c.in_default-serve.ensures.ending i },
    )))

pub returns-clause-goes_on : goal.returns-clause-goes_on
returns-clause-goes_on g c =
    let due = ap (λ (d : Dispatching _). d.is_due) c.self.view_is ∙ c.requires.due in
    let old = c.self.inside.waiting.items in let new = c.take_waiting.new.waiting.items in
    let served = c.in-Some-serve.ensures.served in
    rw (← c.self.view_is) (λ claims. (
      new,
      inr (due, subst (λ (j : Job). IsWithout j old new) (sym served.0) c.in-Some.ensures.without),
      served.1,
      λ i. record { receipts = c.self.inside.seat; shelf = served.2 i; is_due = due i; waiting = new; ending = c.in-Some-serve.ensures.ending i },
    ))
