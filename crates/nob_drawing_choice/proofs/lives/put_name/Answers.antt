use Rattle.std.proofs.Common.{◌-◌, ◌<◌, length, refl, ap, sym, ◌∙◌, arith, slice_set}
use Rattle.std.proofs.lemmas.Option.{slice_get_read}
use Rattle.nob_drawing_choice.proofs.Turned.{put_past, put_there}
use Rattle.nob_drawing_choice.proofs.lives.put_name.Goals as goal

pub returns-then-row-len : goal.returns-then-row-len
returns-then-row-len c = sym (put_past c.args.row c.args.rep.now c.args.lives.now.items (omega (arith, c.if-row-len.true, c.len.ensures)))

pub returns : goal.returns
returns c =
    let lives = c.args.lives.now.items in
    let at = c.args.row - 1 in
    let less : at < length lives = omega (arith, c.if-row-eq0.false, c.if-row-len.false, c.len.ensures) in
    let got = slice_get_read lives (length lives) at c.index_mut.result.now refl less c.index_mut.ensures.value in
    ap (slice_set lives at) c.in_ok-push.ensures ∙ put_there c.args.row c.args.rep.now lives c.index_mut.result.now (λ e. omega (arith, c.if-row-eq0.false, e)) got
