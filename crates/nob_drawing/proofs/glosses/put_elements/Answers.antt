use Rattle.nob_drawing.proofs.Walked.{elements_next}
use Rattle.nob_drawing.proofs.glosses.put_elements.Goals as goal

pub loop-value-preserved : goal.loop-value-preserved
loop-value-preserved c = elements_next c.args.values.now c.loop-value.value-index c.value-item.result _ _ _ c.loop-value-test.true c.value-item.is c.in_ok-put_element.ensures c.loop-value.invariant
