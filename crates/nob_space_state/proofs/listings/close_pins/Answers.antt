use Rattle.std.proofs.Common.{◌≡◌, [], ap, sym, subst, ◌∙◌}
use Rattle.nob_pins.specs.Bundles.{KeepsOthers, of_peer}
use Rattle.nob_pins.specs.Evidence.{reps_of}
use Rattle.nob_pins.proofs.Callers.{others_step, all_taken}
use Rattle.nob_space_state.proofs.Letting.{ended_have, marked_twice, none_taken}
use Rattle.nob_space_state.proofs.listings.close_pins.Goals as goal

pub loop-lost-preserved : goal.loop-lost-preserved
loop-lost-preserved c = record {
  pins = others_step c.args.closed.now.peer c.args.pins.now.bundles c.loop-lost.pins.bundles c.pop.new.self.bundles c.loop-lost.invariant.pins
      (subst (λ p. KeepsOthers c.loop-lost.pins.bundles c.pop.new.self.bundles p) c.peer.ensures c.pop.ensures.others);
  table = marked_twice c.loop-lost.invariant.table c.give_up_all.ensures.table;
  kept = λ have. ended_have c.args.me c.loop-lost.table c.give_up_all.new.table c.loop-lost.pins.bundles c.pop.new.self.bundles c.args.dirty.now (reps_of c.in-Some.lost.items)
      (none_taken c.loop-lost.pins.bundles c.pop.new.self.bundles c.peer.result c.in-Some.ensures.answer.0.0 (reps_of c.in-Some.lost.items) c.in-Some.ensures.answer.0.2)
      c.give_up_all.ensures.kept (c.loop-lost.invariant.kept have);
}

pub returns-clause-pins : goal.returns-clause-pins
returns-clause-pins c =
    let peer = c.args.closed.now.peer in
    let old = c.args.pins.now.bundles in
    let last = c.loop-lost.pins.bundles in
    let new = c.pop.new.self.bundles in
    let others : KeepsOthers last new peer = subst (λ p. KeepsOthers last new p) c.peer.ensures c.pop.ensures.others in
    let none : of_peer peer new ≡ [] = ap (of_peer peer) c.in_default.ensures.answer.1.0 ∙ ap (λ p. of_peer p last) (sym c.peer.ensures) ∙ c.in_default.ensures.answer.0 in
    all_taken peer old new (others_step peer old last new c.loop-lost.invariant.pins others) none
