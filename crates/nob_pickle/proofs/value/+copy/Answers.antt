use Rattle.std.proofs.Common.{◌∙◌}
use Rattle.nob_pickle.proofs.Forests.{forest-take_more}
use Rattle.nob_pickle.proofs.value.+copy.Goals as goal

pub Values::copy-loop-value-preserved : goal.Values::copy-loop-value-preserved
Values::copy-loop-value-preserved t c =
    rw c.in_ok-push.ensures.items
    (forest-take_more c.deref-value-items.result.now c.loop-value.copies.items c.loop-value.value-index c.value-item.result c.in_ok-copy.field-0 c.loop-value-test.true (c.in_ok-copy.ensures.same ∙ c.value-item.is) c.loop-value.invariant)
