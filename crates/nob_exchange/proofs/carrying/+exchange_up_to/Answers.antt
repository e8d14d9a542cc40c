use Rattle.std.proofs.Common.{rules, ◌≡◌, ◌-◌, suc, true, false, sym, ◌∙◌}
use Rattle.std.proofs.lemmas.Result.{on_ok_weaker}
use Rattle.nob_exchange.specs.Exchanges.{carried, carried_both_ways, frames_for, is_some_frame, most_turns, talk, turned}
use Rattle.nob_exchange.proofs.Pasts.{exchange_ends, exchange_goes_on, or_left, or_none, or_right, turn}
use Rattle.nob_exchange.proofs.carrying.+exchange_up_to.Goals as goal
use Rattle.nob_exchange.proofs.carrying.+exchange_up_to.Goals.{else-not-there-via-then-not-there+else-not-back, else-not-there-via-else-not-there}

pub returns-then-not-back-clause-exchanged : goal.returns-then-not-back-clause-exchanged
returns-then-not-back-clause-exchanged t c pair both =
    let counted : c.args.times ≡ suc (c.args.times - 1) = search rules in
    let there = carried most_turns pair in
    let half = turn c.carry.new.from c.carry.new.to there (c.in_ok-there.ensures.carried pair both) in
    let silent : talk most_turns pair ≡ false = or_none (is_some_frame (frames_for pair.other.space pair.one)) (is_some_frame (frames_for pair.one.space there.other)) (sym (c.in_ok-there.ensures.frames pair both) ∙ c.if-not-there.true) (sym (c.in_ok-back.ensures.frames (turned there) half) ∙ c.if-not-back.true) in
    exchange_ends (c.args.times - 1) c.args.times c.carry-2.new.to c.carry-2.new.from pair counted silent (turn c.carry-2.new.from c.carry-2.new.to (carried most_turns (turned there)) (c.in_ok-back.ensures.carried (turned there) half))

pub returns-clause-exchanged : goal.returns-clause-exchanged
returns-clause-exchanged t c =
    let counted : c.args.times ≡ suc (c.args.times - 1) = search rules in
    on_ok_weaker c.exchange_up_to.result
    (λ rest pair both.
    let there = carried most_turns pair in
    let half = turn c.carry.new.from c.carry.new.to there (c.in_ok-there.ensures.carried pair both) in
    let talks : talk most_turns pair ≡ true = elim c.else-not-there.branch [
      | else-not-there-via-then-not-there+else-not-back w ↦ or_right (is_some_frame (frames_for pair.other.space pair.one)) (is_some_frame (frames_for pair.one.space there.other)) (sym (c.in_ok-back.ensures.frames (turned there) half) ∙ w.if-not-back.false)
      | else-not-there-via-else-not-there w ↦ or_left (is_some_frame (frames_for pair.other.space pair.one)) (is_some_frame (frames_for pair.one.space there.other)) (sym (c.in_ok-there.ensures.frames pair both) ∙ w.if-not-there.false)
    ] in
    exchange_goes_on (c.args.times - 1) c.args.times c.exchange_up_to.new.one c.exchange_up_to.new.other pair counted talks (rest (carried_both_ways most_turns pair) (turn c.carry-2.new.from c.carry-2.new.to (carried most_turns (turned there)) (c.in_ok-back.ensures.carried (turned there) half))))
    c.exchange_up_to.ensures.exchanged
