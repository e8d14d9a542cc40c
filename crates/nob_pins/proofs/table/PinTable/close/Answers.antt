use Rattle.std.proofs.Common.{◌≡◌, [], ap, sym, subst, ◌∙◌}
use Rattle.nob_pins.specs.Bundles.{KeepsOthers, of_peer}
use Rattle.nob_pins.proofs.Callers.{others_step, all_taken}
use Rattle.nob_pins.proofs.table.PinTable.close.Goals as goal

pub loop-pins-preserved : goal.loop-pins-preserved
loop-pins-preserved c =
    others_step c.args.closed.now.peer c.args.self.now.bundles c.loop-pins.self.bundles c.pop.new.self.bundles c.loop-pins.invariant
    (subst (λ p. KeepsOthers c.loop-pins.self.bundles c.pop.new.self.bundles p) c.peer.ensures c.pop.ensures.others)

pub returns : goal.returns
returns c =
    let peer = c.args.closed.now.peer in
    let old = c.args.self.now.bundles in
    let last = c.loop-pins.self.bundles in
    let new = c.pop.new.self.bundles in
    let others : KeepsOthers last new peer = subst (λ p. KeepsOthers last new p) c.peer.ensures c.pop.ensures.others in
    let none : of_peer peer new ≡ [] = ap (of_peer peer) c.in_default.ensures.answer.1.0 ∙ ap (λ p. of_peer p last) (sym c.peer.ensures) ∙ c.in_default.ensures.answer.0 in
    all_taken peer old new (others_step peer old last new c.loop-pins.invariant others) none
