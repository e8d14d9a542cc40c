use Rattle.std.proofs.Common.{◌≡◌, List, filter, rules, arith}
use Rattle.std.proofs.lemmas.Fn.{filter_same}
use Rattle.nob_table.specs.declared.order.Slot.{Slot}
use Rattle.nob_table.specs.Far.{is_current}
use Rattle.nob_table.proofs.Gaps.{ordered_closed}
use Rattle.nob_table.proofs.Linked.{ends_none}
use Rattle.nob_table.proofs.order.Order.close_gaps.Goals as goal

left : (c : goal.After-link_all) → c.retain.new.self.items ≡ filter (is_current c.args.surrogates.now.rows) c.args.self.now.slots.items
left c = filter_same _ (is_current c.args.surrogates.now.rows) _ (λ x b f call. search rules) _ _ c.retain.ensures.filtered

pub returns-clause-slots : goal.returns-clause-slots
returns-clause-slots c = rw c.link_all.ensures.slots (left c)

pub returns-clause-ordered : goal.returns-clause-ordered
returns-clause-ordered c =
    let slots : List Slot = c.retain.new.self.items in
    let tied = c.link_all.ensures.linked c.args.surrogates.now.rows (ends_none slots c.args.surrogates.now.rows 33) in
    rw (c.link_all.ensures.slots, c.link_all.ensures.idle, c.link_all.ensures.spare) (ordered_closed c.args.counted.now.rows c.args.surrogates.now.rows c.args.surrogates.now.kept c.args.self.now.slots.items c.args.self.now.before.items c.args.self.now.ends c.args.self.now.idle c.args.self.now.spare c.requires.ordered
    slots c.link_all.new.self.before.items c.link_all.new.self.ends c.mark_all.new.idle c.mark_all.new.spare (left c) (rw c.deref.ensures.value at c.mark_all.ensures.idle) (rw c.deref.ensures.value at c.mark_all.ensures.spare) tied.0 tied.1
    (omega (arith, c.link_all.ensures.len, c.truncate.ensures.len, c.retain.ensures.bound, c.len.ensures, c.requires.ordered.same)))
