use Rattle.std.proofs.Common.{length}
use Rattle.nob_drawing_plan.proofs.steps.+new_pins.Given as goal

abbrev pub decreases-new_pins : goal.decreases-new_pins
decreases-new_pins l = length l.sent_items.now
