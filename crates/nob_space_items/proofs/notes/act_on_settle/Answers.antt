use Rattle.std.proofs.Common.{◌≡◌, ◌∙◌, ◌-◌, ℕ, ap, sym, true, false, refl}
use Rattle.nob_space_items.proofs.Noted.{settle_known, settle_stands}
use Rattle.nob_space_items.proofs.Taken.{waits_there}
use Rattle.nob_space_items.proofs.notes.act_on_settle.Goals as goal

pub unreachable-requires : goal.unreachable-requires
unreachable-requires c =
    let known = settle_known c.requires.state.2 c.args.settled.now.item (c.requires.front c.requires.state.0 c.requires.state.1 c.requires.state.2) in
    let bad : true ≡ false = sym known ∙ (c.in-Err.ensures {u = tt}).answer.0 in
    absurd (cc)

pub take-requires : goal.take-requires
take-requires c = waits_there c.requires.state.2 (c.requires.front c.requires.state.0 c.requires.state.1 c.requires.state.2) c.place.result (c.place.ensures.value ∙ ap (λ (k : ℕ). k - 1) c.peer-peer.ensures) c.index_mut.result.now c.index_mut.ensures.value

pub returns : goal.returns
returns c = record {
  stands = λ limits D stands. settle_stands stands c.place.result (c.place.ensures.value ∙ ap (λ (k : ℕ). k - 1) c.peer-peer.ensures) c.index_mut.result.now c.take.new.self c.index_mut.ensures.value (λ me peer limits L before. (c.take.ensures.answer me peer limits L before).1) c.args.settled.now.item (c.requires.front limits D stands) c.settle_pins-ended.new.pins (c.in-Ok.ensures {u = tt}).answer c.settle_pins-ended.new.table (c.in-Ok.ensures {u = tt}).table.items (c.in-Ok.ensures {u = tt}).kept;
  here = refl;
}
