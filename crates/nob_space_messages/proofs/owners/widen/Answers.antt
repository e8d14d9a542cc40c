use Rattle.std.proofs.Common.{List, length, refl, ap, ◌∙◌, arith}
use Rattle.std.proofs.Math.ListN.{length-set}
use Rattle.std.proofs.lemmas.Option.{slice_get_read, slice_get_within}
use Rattle.nob_space_messages.specs.Lines.{LineMap}
use Rattle.nob_space_messages.proofs.Kept.{room_below, room_set, same_lines}
use Rattle.nob_space_messages.proofs.owners.widen.Goals as goal

pub returns-in_err-reserve-clause-lines : goal.returns-in_err-reserve-clause-lines
returns-in_err-reserve-clause-lines c room =
    let at = c.loop-place in
    let got = slice_get_read at.owners.items (length at.owners.items) at.place c.index_mut.result.now refl (omega (arith, c.loop-place-test.true, c.len-place-end.ensures, at.invariant.1)) c.index_mut.ensures.value in
    ap (λ (owners : List LineMap). record { owners = owners; room = room }) (same_lines at.owners.items at.place c.index_mut.result.now c.reserve.new.self got c.reserve.ensures.rows c.reserve.ensures.links ∙ at.invariant.0)

pub returns-in_err-reserve-clause-kept : goal.returns-in_err-reserve-clause-kept
returns-in_err-reserve-clause-kept c room rooms =
    let at = c.loop-place in
    let got = slice_get_read at.owners.items (length at.owners.items) at.place c.index_mut.result.now refl (omega (arith, c.loop-place-test.true, c.len-place-end.ensures, at.invariant.1)) c.index_mut.ensures.value in
    let now = at.invariant.2 room rooms in
    room_set at.owners.items at.place room c.index_mut.result.now c.reserve.new.self got now (omega (arith, now at.place c.index_mut.result.now got, c.reserve.ensures.room))

pub loop-place-preserved : goal.loop-place-preserved
loop-place-preserved c =
    let at = c.loop-place in
    let got = slice_get_read at.owners.items (length at.owners.items) at.place c.index_mut.result.now refl (omega (arith, c.loop-place-test.true, c.len-place-end.ensures, at.invariant.1)) c.index_mut.ensures.value in (
      same_lines at.owners.items at.place c.index_mut.result.now c.reserve.new.self got c.reserve.ensures.rows c.reserve.ensures.links ∙ at.invariant.0,
      length-set at.owners.items at.place c.reserve.new.self ∙ at.invariant.1,
      λ room rooms. let now = at.invariant.2 room rooms in
          room_set at.owners.items at.place room c.index_mut.result.now c.reserve.new.self got now (omega (arith, now at.place c.index_mut.result.now got, c.reserve.ensures.room)),
      room_below at.owners.items at.place c.args.additional c.index_mut.result.now c.reserve.new.self got at.invariant.3 c.in_ok-reserve.ensures.ok,
    )

pub returns-clause-ok : goal.returns-clause-ok
returns-clause-ok c place owner there =
    let at = c.loop-place in
    at.invariant.3 place owner (omega (arith, slice_get_within at.owners.items place owner there, c.loop-place-test.false, c.len-place-end.ensures, at.invariant.1)) there
