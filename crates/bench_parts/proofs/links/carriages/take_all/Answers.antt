use Rattle.std.proofs.Common.{[], sym}
use Rattle.std.proofs.lemmas.List.{append-nil}
use Rattle.bench_parts.proofs.Orders.{none_came}
use Rattle.bench_parts.proofs.links.carriages.take_all.Goals as goal

pub loop-init : goal.loop-init
loop-init g c = ([], sym (append-nil c.args.take.now.taken), none_came)
