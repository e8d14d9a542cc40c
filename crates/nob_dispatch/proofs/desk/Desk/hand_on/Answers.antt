use Rattle.std.proofs.Common.{rules, ◌≡◌, ◌+◌, Some, inl, inr, length, ap, subst, ◌∙◌}
use Rattle.nob_dispatch_lanes.specs.Ends.{stake_of}
use Rattle.nob_dispatch.specs.declared.dispatcher.Handing.TheVariants as handings
use Rattle.nob_dispatch.specs.declared.errand.Errand.{Errand}
use Rattle.nob_dispatch.specs.declared.shelf.Place.TheVariants.{Here, Away}
use Rattle.nob_dispatch.specs.Assigning.{Assigning}
use Rattle.nob_dispatch.specs.Serving.{given, taken}
use Rattle.nob_dispatch.specs.Shelves.{place_of, with_place}
use Rattle.nob_dispatch.proofs.Givings.{given_more, given_none, handed_over, same_handed, counted}
use Rattle.nob_dispatch.proofs.Placing.{put_back}
use Rattle.nob_dispatch.proofs.desk.Desk.hand_on.Goals as goal

pub invariant_of-self-in_default : goal.invariant_of-self-in_default
invariant_of-self-in_default g c =
    let none = ap (λ (a : Assigning _). a.unsent) c.self.view_is ∙ c.requires.unsent in (
      given_more c.step.new.dispatcher c.in_ok-errand.field-0 c.in-Errand.errand c.self.inside.unsent (given c.self.inside.errands) (given c.give_as.new.self) c.in-Errand.is none (c.in_ok-errand.ensures.tied _ c.self.invariant.0) (search rules),
      counted (given c.self.inside.errands) (given c.give_as.new.self) c.in-Errand.errand c.self.inside.away (length (taken c.self.inside.returns)) (search rules) c.self.invariant.1,
      search rules,
      inl none,
    )

pub invariant_of-self-in-Errand : goal.invariant_of-self-in-Errand
invariant_of-self-in-Errand g c =
    let kept = given_none c.step.new.dispatcher c.in_ok-errand.field-0 c.in-Errand.errand c.self.inside.unsent c.keep_unsent.new.unsent (given c.self.inside.errands) (given c.give_as.new.self) c.in-Errand.is (ap (λ (a : Assigning _). a.unsent) c.self.view_is ∙ c.requires.unsent) (c.keep_unsent.ensures.unsent ∙ ap (λ (e : Errand _). Some e.job) c.in-Err.ensures.answer) c.in-Err.ensures.err (c.in_ok-errand.ensures.tied _ c.self.invariant.0) in
    (c.keep_unsent.ensures.tied _ kept, search rules, c.self.invariant.2, inr c.in-Err.ensures.gone)

pub returns-in_default-clause-given : goal.returns-in_default-clause-given
returns-in_default-clause-given g c =
    let desk = c.self.inside in
    let over = handed_over c.in_ok-errand.field-0 c.in-Errand.errand desk.dispatcher.shelf c.step.new.dispatcher.shelf c.in-Errand.is c.in_ok-errand.ensures.object in
    let given_one = c.in_default.ensures in
    rw (← c.self.view_is) (
      c.in-Errand.errand,
      λ i. record { given = given_one.answer i; back = taken desk.returns; unsent = desk.unsent; is_alone = given_one.gone i; away = desk.away + 1; has_stopped = desk.has_stopped; dispatcher = c.step.new.dispatcher; stakes = record { errands = given_one.stake i; returns = stake_of desk.returns.pass } },
      over.0,
      over.1,
    )

pub returns-in-Err-clause-given : goal.returns-in-Err-clause-given
returns-in-Err-clause-given g c =
    let desk = c.self.inside in let errand = c.in-Errand.errand in
    let between = c.step.new.dispatcher.shelf in let after = c.keep_unsent.new.dispatcher.shelf in
    let over = handed_over c.in_ok-errand.field-0 errand desk.dispatcher.shelf between c.in-Errand.is c.in_ok-errand.ensures.object in
    let same = c.in-Err.ensures in
    let kept = subst (λ (e : Errand _). c.keep_unsent.new.unsent ≡ Some e.job) same.answer c.keep_unsent.ensures.unsent in
    let back = subst (λ (e : Errand _). place_of e.job.target between ≡ Some Away → after ≡ with_place e.job.target (Here e.object) between) same.answer c.keep_unsent.ensures.back in
    rw (← c.self.view_is) (inr (
      errand.job,
      λ i. record { given = same.err i; back = taken desk.returns; unsent = kept i; is_alone = same.gone i; away = desk.away; has_stopped = desk.has_stopped; dispatcher = c.keep_unsent.new.dispatcher; stakes = record { errands = same.stake i; returns = stake_of desk.returns.pass } },
      put_back errand.job.target errand.object desk.dispatcher.shelf between after over.0 over.1 back,
    ))

pub invariant_of-self : goal.invariant_of-self
invariant_of-self g c = (c.in_err-errand.ensures.tied _ c.self.invariant.0, c.self.invariant.1, c.self.invariant.2, c.self.invariant.3)

pub invariant_of-self-in-Did : goal.invariant_of-self-in-Did
invariant_of-self-in-Did g c = (same_handed c.step.new.dispatcher c.in_ok-errand.field-0 handings.Did _ c.in-Did.is (c.in_ok-errand.ensures.tied _ c.self.invariant.0), c.self.invariant.1, c.self.invariant.2, c.self.invariant.3)

pub invariant_of-self-in-Later : goal.invariant_of-self-in-Later
invariant_of-self-in-Later g c = (same_handed c.step.new.dispatcher c.in_ok-errand.field-0 handings.Later _ c.in-Later.is (c.in_ok-errand.ensures.tied _ c.self.invariant.0), c.self.invariant.1, c.self.invariant.2, c.self.invariant.3)

pub invariant_of-self-then-is_at_rest : goal.invariant_of-self-then-is_at_rest
invariant_of-self-then-is_at_rest g c = (same_handed c.step.new.dispatcher c.in_ok-errand.field-0 handings.Idle _ c.in-Idle.is (c.in_ok-errand.ensures.tied _ c.self.invariant.0), c.self.invariant.1, c.self.invariant.2, c.self.invariant.3)

pub invariant_of-self-in-Idle-2 : goal.invariant_of-self-in-Idle-2
invariant_of-self-in-Idle-2 g c = (same_handed c.step.new.dispatcher c.in_ok-errand.field-0 handings.Idle _ c.in-Idle-2.is (c.in_ok-errand.ensures.tied _ c.self.invariant.0), c.self.invariant.1, c.self.invariant.2, c.self.invariant.3)
