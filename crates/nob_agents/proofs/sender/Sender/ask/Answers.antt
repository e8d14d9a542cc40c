use Rattle.std.proofs.Common.{◌≡◌, true, List, ap, sym, subst, ◌∙◌}
use Rattle.nob_model_types.specs.declared.event.Event.{Event}
use Rattle.nob_keeper.specs.Receipt.{Receipt}
use Rattle.nob_agents.specs.Ways.{Way}
use Rattle.nob_agents.specs.Sending.{AreTied, is_about}
use Rattle.nob_agents.proofs.Fed.{tied_after_asking}
use Rattle.nob_agents.proofs.sender.Sender.ask.Goals as goal

pub invariant_of-self-2 : goal.invariant_of-self-2
invariant_of-self-2 g c =
    let adds = c.in_ok-call.ensures.adds in let ways : List Way = c.self.inside.ways.items in
    let of_ways : is_about ways c.args.event.now ≡ true = ap (λ (ws : List Way). is_about ws c.args.event.now) (sym c.as_slice.ensures.value) ∙ sym c.is_about.ensures ∙ c.if-not-is_about.false in
    let about : is_about ways adds.0.event ≡ true = ap (λ (event : Event). is_about ways event) adds.2 ∙ of_ways in
    subst (λ (receipts : List Receipt). AreTied (record { ways = ways; receipts = receipts; handled = 0 })) (sym adds.1) (tied_after_asking c.self.inside.handled adds.0 c.self.inside.seat ways (c.has_gone_on.ensures c.if-not-has_gone_on.false) about c.self.invariant)
