use Rattle.std.proofs.Common.{◌≡◌, ℕ, List, ap, subst, ◌∙◌}
use Rattle.nob_frame.specs.declared.frame.Frame.{Frame}
use Rattle.nob_model_types.specs.declared.event.Event.TheVariants as events
use Rattle.nob_exchange.specs.Exchanges.{Has, asked, arrived, worked, most_turns, frames_for, frames_given}
use Rattle.nob_exchange.proofs.carrying.carry.Goals as goal

pub returns-clause-carried : goal.returns-clause-carried
returns-clause-carried c pair both =
    let to_is : c.id.result ≡ pair.other.space = c.id.ensures ∙ both.has_other.id in
    let given_has : Has c.give.new.space (asked (events.Transmit pair.other.space) pair.one) = subst (λ (p : ℕ). Has c.give.new.space (asked (events.Transmit p) pair.one)) to_is (c.in_ok-given.ensures.has pair.one both.has_one) in
    let frames : frames_given c.in_ok-given.given ≡ frames_for pair.other.space pair.one = c.in_ok-given.ensures.frames pair.one both.has_one ∙ ap (λ (p : ℕ). frames_for p pair.one) to_is in
    let from_is : c.id-2.result ≡ pair.one.space = c.id-2.ensures ∙ given_has.id in
    let brought = subst (λ (fs : List Frame). Has c.bring_given.new.space (arrived fs pair.other)) frames (c.in_ok-bring_given.ensures.has pair.other both.has_other) in
    record {
      has_one = given_has;
      has_other = subst (λ (p : ℕ). Has c.work.new.space (worked most_turns p (arrived (frames_for pair.other.space pair.one) pair.other))) from_is (c.in_ok-work.ensures.has (arrived (frames_for pair.other.space pair.one) pair.other) brought);
    }
