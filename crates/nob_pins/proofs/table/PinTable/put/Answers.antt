use Rattle.std.proofs.Common.{◌≡◌, ◌+◌, ◌≤◌, ◌<◌, ◌^◌, List, true, false, length, sym, ap, subst, ◌∙◌, arith}
use Rattle.std.specs.List.{list_any}
use Rattle.nob_ids.specs.declared.wire_rep.WireRep.{WireRep}
use Rattle.nob_pins.specs.Evidence.{Pin, reps_of}
use Rattle.nob_pins.specs.Bundles.{Pinned, times, is_full}
use Rattle.nob_pins.specs.Peers.{all_pinned, is_many, count_in, AreCounted}
use Rattle.nob_pins.proofs.Counting.{no_room, many_is_full, none_many, times_few, counted_more, reps_long}
use Rattle.nob_pins.proofs.table.PinTable.put.Goals as goal

pub returns-then-are_many_pins-clause-reserved : goal.returns-then-are_many_pins-clause-reserved
returns-then-are_many_pins-clause-reserved c =
    let pins = c.args.pins.items in
    let rows = c.self.inside.counts.rows in
    let bundles = all_pinned c.self.inside.peers.items in
    let many : list_any (λ (pin : Pin). is_many rows (length pins) pin.rep) pins ≡ true =
    subst (λ (xs : List Pin). list_any (λ (pin : Pin). is_many rows (length xs) pin.rep) xs ≡ true) c.deref.ensures.value (sym c.are_many_pins.ensures ∙ c.if-are_many_pins.true) in
    let full : list_any (is_full bundles (length pins)) (reps_of pins) ≡ true = sym (many_is_full rows bundles (length pins) c.self.invariant.1 pins) ∙ many in
    let long : length (reps_of pins) ≡ length pins = reps_long pins in
    let all : list_any (is_full bundles (length (reps_of pins))) (reps_of pins) ≡ true = ap (λ n. list_any (is_full bundles n) (reps_of pins)) long ∙ full in
    rw (← c.self.view_is) (λ room. absurd (no_room _ c.args.peer (reps_of pins) all room))

pub add_all-requires-clause-small : goal.add_all-requires-clause-small
add_all-requires-clause-small c =
    let pins = c.args.pins.items in
    let rows = c.self.inside.counts.rows in
    let none : list_any (λ (pin : Pin). is_many rows (length pins) pin.rep) pins ≡ false =
    subst (λ (xs : List Pin). list_any (λ (pin : Pin). is_many rows (length xs) pin.rep) xs ≡ false) c.deref.ensures.value (sym c.are_many_pins.ensures ∙ c.if-are_many_pins.false) in
    let long : length pins < 2 ^ 64 = omega (arith, c.len.ensures, c.len.type_inv, c.args.pins.ok.0) in
    let same : (rep : WireRep) → count_in c.reserve.new.self.rows rep ≡ count_in rows rep = λ rep. ap (λ rs. count_in rs rep) c.reserve.ensures.rows in
    let few : (rep : WireRep) → times rep (reps_of pins) ≤ length pins = λ rep. subst (λ n. times rep (reps_of pins) ≤ n) (reps_long pins) (times_few rep (reps_of pins)) in
    rw (c.deref-2.ensures.value) (λ rep some. omega (arith, none_many rows (length pins) pins none rep some, same rep, few rep, long))

pub invariant_of-self-2 : goal.invariant_of-self-2
invariant_of-self-2 c =
    let rows = c.self.inside.counts.rows in
    let are : AreCounted rows (all_pinned c.make_room.new.peers.items) = subst (λ (bs : List Pinned). AreCounted rows bs) (sym c.make_room.ensures.pinned) c.self.invariant.1 in
    let same : (rep : WireRep) → times rep (reps_of c.deref-2.result.now) ≡ times rep c.new.result.reps =
    λ rep. ap (λ (xs : List Pin). times rep (reps_of xs)) c.deref-2.ensures.value ∙ ap (λ (b : Pinned). times rep b.reps) (sym c.new.ensures) in
    let more : (rep : WireRep) → count_in c.add_all.new.counts.rows rep ≡ count_in rows rep + times rep c.new.result.reps =
    λ rep. omega (arith, c.add_all.ensures.count rep, ap (λ rs. count_in rs rep) c.reserve.ensures.rows, same rep) in
    (c.put_at.ensures.peers, counted_more rows c.add_all.new.counts.rows (all_pinned c.make_room.new.peers.items) (all_pinned c.put_at.new.peers.items) c.new.result are c.put_at.ensures.adds more)
