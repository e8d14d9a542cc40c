use Rattle.std.proofs.Common.{rules}
use Rattle.nob_kept.proofs.Staying.{put_within}
use Rattle.nob_kept.proofs.noted.put.Goals as goal

pub returns-then-spot-len-clause-places : goal.returns-then-spot-len-clause-places
returns-then-spot-len-clause-places c = put_within c.args.noted.now.items c.args.spot c.args.one (search rules)
