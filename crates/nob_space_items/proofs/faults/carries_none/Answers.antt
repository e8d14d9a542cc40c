use Rattle.std.proofs.Common.{◌<◌, length, sym, ◌∙◌, arith}
use Rattle.std.proofs.lemmas.Option.{slice_get_within}
use Rattle.nob_item.specs.Kinds.{counted_in}
use Rattle.nob_space_state.specs.Looks.{is_gone}
use Rattle.nob_space_items.proofs.Judged.{any_next, any_first, any_last, few_carried}
use Rattle.nob_space_items.proofs.faults.carries_none.Goals as goal

pub returns-then-is_gone : goal.returns-then-is_gone
returns-then-is_gone c = sym (c.loop-rep.invariant.so_far ∙ any_first (is_gone c.args.parts.now.here.space c.args.parts.now.table) (counted_in c.args.item.now) c.loop-rep.number c.in-Some.rep (sym (c.in-Some.ensures {u = tt})) (sym c.is_gone.ensures ∙ c.if-is_gone.true))

pub overflow_add-number : goal.overflow_add-number
overflow_add-number c =
    let few = few_carried c.args.item.now c.requires in
    let within : c.loop-rep.number < length (counted_in c.args.item.now) = slice_get_within (counted_in c.args.item.now) c.loop-rep.number c.in-Some.rep (sym (c.in-Some.ensures {u = tt})) in
    omega (arith, few, within)

pub loop-rep-smaller : goal.loop-rep-smaller
loop-rep-smaller c =
    let within : c.loop-rep.number < length (counted_in c.args.item.now) = slice_get_within (counted_in c.args.item.now) c.loop-rep.number c.in-Some.rep (sym (c.in-Some.ensures {u = tt})) in
    omega (arith, within)

pub loop-rep-preserved : goal.loop-rep-preserved
loop-rep-preserved c =
    let within : c.loop-rep.number < length (counted_in c.args.item.now) = slice_get_within (counted_in c.args.item.now) c.loop-rep.number c.in-Some.rep (sym (c.in-Some.ensures {u = tt})) in
    record {
      few = omega (arith, within);
      so_far = c.loop-rep.invariant.so_far ∙ any_next (is_gone c.args.parts.now.here.space c.args.parts.now.table) (counted_in c.args.item.now) c.loop-rep.number c.in-Some.rep (sym (c.in-Some.ensures {u = tt})) (sym c.is_gone.ensures ∙ c.if-is_gone.false);
    }

pub returns : goal.returns
returns c = sym (c.loop-rep.invariant.so_far ∙ any_last (is_gone c.args.parts.now.here.space c.args.parts.now.table) (counted_in c.args.item.now) c.loop-rep.number (sym (c.in_default.ensures {u = tt})))
