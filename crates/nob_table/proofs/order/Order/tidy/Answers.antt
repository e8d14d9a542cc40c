use Rattle.std.proofs.Common.{arith}
use Rattle.nob_table.specs.Far.{is_current}
use Rattle.nob_table.proofs.Gaps.{sent_filter, filter_shorter, slots_left}
use Rattle.nob_table.proofs.order.Order.tidy.Goals as goal

pub returns-then-len-clause-sent : goal.returns-then-len-clause-sent
returns-then-len-clause-sent c = λ dirties sent. rw c.close_gaps.ensures.slots (sent_filter (is_current c.args.surrogates.now.rows) c.args.self.now.slots.items dirties sent)

pub returns-then-len-clause-len : goal.returns-then-len-clause-len
returns-then-len-clause-len c = rw c.close_gaps.ensures.slots (filter_shorter (is_current c.args.surrogates.now.rows) c.args.self.now.slots.items)

pub returns-then-len-clause-few : goal.returns-then-len-clause-few
returns-then-len-clause-few c =
    let left = slots_left c.args.surrogates.now.rows c.args.self.now.slots.items c.requires.ordered.in_order in
    rw c.close_gaps.ensures.slots (omega (arith, left))
