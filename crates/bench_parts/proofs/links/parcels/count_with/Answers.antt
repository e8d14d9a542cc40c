use Rattle.std.proofs.Common.{sym, ◌∙◌, true≢false}
use Rattle.bench_parts.proofs.Orders.{counted, passed_over}
use Rattle.bench_parts.proofs.links.parcels.count_with.Goals as goal

pub returns-then-is_of : goal.returns-then-is_of
returns-then-is_of c = λ before are. counted c.args.came c.args.parcel.now before (c.is_of.ensures.is.0 c.if-is_of.true) are

pub returns : goal.returns
returns c = λ before are. passed_over c.args.came c.args.parcel.now before (λ is. true≢false (sym (c.is_of.ensures.is.1 is) ∙ c.if-is_of.false)) are
