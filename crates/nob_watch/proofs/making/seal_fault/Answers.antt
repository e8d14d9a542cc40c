use Rattle.std.proofs.Common.{refl, sym, ap, ◌∙◌, arith}
use Rattle.nob_watch.specs.Reruns.{is_sealed}
use Rattle.nob_watch.proofs.Reruns.{seal_of}
use Rattle.nob_watch.proofs.making.seal_fault.Goals as goal

pub returns-then-is_right_seal : goal.returns-then-is_right_seal
returns-then-is_right_seal c n list J are =
    let next = c.place.ensures.next in
    let dated = c.args.dated.now in
    ap (is_sealed n dated.stamp dated.entry.space J) c.in-Some.is
    ∙ sym (seal_of n list J c.args.spaces.now dated c.place.result c.index-spaces-place.result c.in-Some.own c.is_right_seal.result are c.place.ensures.value (omega (arith, next)) c.requires.here c.index-spaces-place.is c.is_right_seal.ensures)
    ∙ c.if-is_right_seal.true

pub returns : goal.returns
returns c n list J are =
    let next = c.place.ensures.next in
    let dated = c.args.dated.now in (
      c.in-Some.own,
      c.in-Some.is,
      sym (seal_of n list J c.args.spaces.now dated c.place.result c.index-spaces-place.result c.in-Some.own c.is_right_seal.result are c.place.ensures.value (omega (arith, next)) c.requires.here c.index-spaces-place.is c.is_right_seal.ensures)
          ∙ c.if-is_right_seal.false,
      refl,
    )
