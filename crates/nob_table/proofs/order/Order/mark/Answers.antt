use Rattle.std.proofs.Common.{◌≡◌, refl, ◌∙◌}
use Rattle.nob_table.proofs.Slotted.{position_is}
use Rattle.nob_table.proofs.order.Order.mark.Goals as goal

pub returns-clause-idle : goal.returns-clause-idle
returns-clause-idle c = λ at got other.
    let is : c.position-at.result ≡ at = position_is c.args.self.now.slots.items c.requires.in_order c.args.slot.now.place c.position-at.result at c.args.slot.now got refl c.position-at.ensures.below c.position-at.ensures.from in
    c.write.ensures.written other ∙ (rw (is, c.marks_of-idle.ensures.idle) refl)

pub returns-clause-spare : goal.returns-clause-spare
returns-clause-spare c = λ at got other.
    let is : c.position-at.result ≡ at = position_is c.args.self.now.slots.items c.requires.in_order c.args.slot.now.place c.position-at.result at c.args.slot.now got refl c.position-at.ensures.below c.position-at.ensures.from in
    c.write-2.ensures.written other ∙ (rw (is, c.marks_of-idle.ensures.spare) refl)
