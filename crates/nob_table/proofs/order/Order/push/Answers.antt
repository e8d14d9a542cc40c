use Rattle.std.proofs.Common.{◌≡◌, ℕ, ◌+◌, ◌++◌, ◌∷◌, [], List, length, refl, ◌∙◌, arith}
use Rattle.nob_table.specs.declared.order.Slot.{Slot}
use Rattle.nob_table_rows.proofs.Flat.{length_push}
use Rattle.nob_table.proofs.Linked.{linked_push}
use Rattle.nob_table.proofs.order.Order.push.Goals as goal

pub returns-clause-linked : goal.returns-clause-linked
returns-clause-linked c = λ surrogates linked ended.
    let slots : List Slot = c.args.self.now.slots.items in
    let before : List ℕ = c.args.self.now.before.items in
    let pushed : c.push.new.self.items ≡ slots ++ c.args.slot ∷ [] = c.push.ensures.items ∙ rw c.unwrap.ensures refl in
    let pushed_before : c.push-2.new.self.items ≡ before ++ 0 ∷ [] = c.push-2.ensures.items ∙ rw c.unwrap-2.ensures refl in
    let at : c.len-at.result ≡ length slots = omega (arith, c.len-at.ensures) in
    let short = linked_push (slots ++ c.args.slot ∷ []) surrogates before (length slots) 0 (omega (arith, c.requires.same)) linked in
    let longer : length c.link.new.self.slots.items ≡ c.len-at.result + 1 = rw (c.link.ensures.slots, pushed) (omega (arith, length_push slots c.args.slot, at)) in
    rw longer (c.link.ensures.linked surrogates (rw (pushed, pushed_before, at) short) (rw (pushed, at) ended))
