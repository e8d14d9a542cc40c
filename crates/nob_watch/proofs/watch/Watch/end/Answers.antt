use Rattle.std.proofs.Common.{refl}
use Rattle.nob_watch.specs.Watches.{Watching}
use Rattle.nob_watch.proofs.Watches.{watching_ended}
use Rattle.nob_watch.proofs.watch.Watch.end.Goals as goal

pub invariant_of-self : goal.invariant_of-self
invariant_of-self c =
    let old : Watching = record { following = c.self.inside.rerun; heads = c.self.inside.heads } in
    let new : Watching = record { following = c.self.inside.rerun; heads = c.end.new.self } in
    watching_ended old new c.args.space c.self.invariant refl c.end.ensures
