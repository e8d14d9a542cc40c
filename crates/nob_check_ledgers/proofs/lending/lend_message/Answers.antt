use Rattle.std.proofs.Common.{◌≡◌, ◌<◌, ◌++◌, List, length, map, take, drop, get_or, ap, subst, ◌∙◌}
use Rattle.nob_model_types.specs.declared.message.Message.{Message}
use Rattle.nob_model_types.specs.declared.message.RefCopy.{RefCopy}
use Rattle.nob_model_types.specs.Messages.{copy_after}
use Rattle.nob_model_types.proofs.Mapped.{changed_next}
use Rattle.nob_check_ledgers.proofs.lending.lend_message.Goals as goal

pub loop-place-preserved : goal.loop-place-preserved
loop-place-preserved c =
    let change : RefCopy → RefCopy = λ copy. copy_after c.args.past.now.here.space c.args.past.now.here.n c.args.past.now.deeds copy in
    let lt : c.loop-place.place < length c.args.message.now.copies = subst (λ (copies : List RefCopy). c.loop-place.place < length copies) c.as_slice-place-end.ensures c.loop-place-test.true in
    let now : c.loop-place.message.copies ≡ map change (take c.loop-place.place c.args.message.now.copies) ++ drop c.loop-place.place c.args.message.now.copies = ap (λ (m : Message). m.copies) c.loop-place.invariant in
    let is : c.index-as_slice-place.result ≡ get_or c.loop-place.message.copies c.loop-place.place c.index-as_slice-place.result = c.index-as_slice-place.is ∙ ap (λ (copies : List RefCopy). get_or copies c.loop-place.place c.index-as_slice-place.result) c.as_slice.ensures in
    let copies = c.set.ensures ∙ changed_next change c.args.message.now.copies c.loop-place.message.copies c.loop-place.place c.index-as_slice-place.result c.copy_after-copy.result now lt is c.copy_after-copy.ensures in
    λ i. record { from = (c.loop-place.invariant i).from; session = (c.loop-place.invariant i).session; number = (c.loop-place.invariant i).number; item = (c.loop-place.invariant i).item; copies = copies i }
