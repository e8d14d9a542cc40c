use Rattle.std.proofs.Common.{◌≡◌, ℕ, Some, List, length, slice_get, slice_index_or, refl, arith, ap, ◌∙◌, sym}
use Rattle.std.proofs.lemmas.Option.{slice_get_read, slice_get-get_or}
use Rattle.nob_table.specs.declared.order.Slot.{Slot}
use Rattle.nob_table.proofs.Linked.{linked_step, ends_step}
use Rattle.nob_table.proofs.order.Order.link.Goals as goal

pub returns-clause-linked : goal.returns-clause-linked
returns-clause-linked c = λ surrogates linked ended.
    let slots : List Slot = c.args.self.now.slots.items in
    let ends : List ℕ = c.args.self.now.ends in
    let e : Slot = c.index.result.now in
    let got : slice_get slots c.args.at ≡ Some e = slice_get_read slots (length slots) c.args.at e refl c.requires.at c.index.ensures in
    let is : c.number_of-owner.result ≡ e.rep.owner = c.number_of-owner.ensures.value in
    let few : ℕ = slice_index_or ends c.number_of-owner.result 0 in
    let end : slice_get ends e.rep.owner ≡ Some few = ap (λ (j : ℕ). slice_get ends j) (sym is) ∙ slice_get-get_or ends c.number_of-owner.result 0 (omega (arith, c.number_of-owner.ensures.small)) in (
      linked_step slots surrogates c.args.self.now.before.items ends c.args.at e got ended few linked end,
      rw is (ends_step slots surrogates c.args.self.now.before.items ends c.args.at e got ended),
    )
