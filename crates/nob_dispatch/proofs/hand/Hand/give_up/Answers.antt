use Rattle.std.proofs.Common.{ℕ, Option, reverse, subst, sym}
use Rattle.nob_model_types.specs.declared.answer.Job.{Job}
use Rattle.nob_dispatch.specs.Serving.{Follows, GivesAtMost, given, taken, place_in, places, returned}
use Rattle.nob_dispatch.specs.Sides.{serving_of}
use Rattle.nob_dispatch.proofs.Follows.{frees_tied, same_place}
use Rattle.nob_dispatch.proofs.hand.Hand.give_up.Goals as goal

pub invariant_of-self : goal.invariant_of-self
invariant_of-self g c =
    let hand = c.self.inside in let back = c.in-Some.back in
    let from = c.in-Some.ensures.back in
    let had = subst (λ (at : Option (ℕ × ℕ)). Follows hand.returns.has_heard_gone at (places (reverse (taken hand.errands))) (returned (reverse (given hand.returns)))) (same_place hand.worker.running back.job back.index from.1 from.2) c.self.invariant.1 in
    frees_tied (serving_of hand) c.args.error c.give_up.new.self (given c.send_back.new.returns) c.send_back.new.returns.has_heard_gone c.give_up.ensures.freed c.requires (c.send_back.ensures.follows _ had) c.self.invariant

pub invariant_of-self-in_default : goal.invariant_of-self-in_default
invariant_of-self-in_default g c =
    let hand = c.self.inside in
    let had = subst (λ (r : Option Job). Follows hand.returns.has_heard_gone (place_in r) (places (reverse (taken hand.errands))) (returned (reverse (given hand.returns)))) c.in_default.ensures.back c.self.invariant.1 in
    frees_tied (serving_of hand) c.args.error c.give_up.new.self (given hand.returns) hand.returns.has_heard_gone c.give_up.ensures.freed c.requires had c.self.invariant

pub returns-in-Some-clause-given : goal.returns-in-Some-clause-given
returns-in-Some-clause-given g c =
    rw (← c.self.view_is) (subst (λ (object : Option _). GivesAtMost object (given c.self.inside.returns) (given c.send_back.new.returns)) (sym c.in-Some.ensures.back.3) c.send_back.ensures.given)
