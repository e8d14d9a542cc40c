use Rattle.std.proofs.Common.{refl}
use Rattle.nob_watch.specs.Watches.{Watching}
use Rattle.nob_watch.proofs.Watches.{watching_tell}
use Rattle.nob_watch.proofs.watch.Watch.tell.Goals as goal

pub invariant_of-self : goal.invariant_of-self
invariant_of-self c =
    let old : Watching = record { following = c.self.inside.rerun; heads = c.self.inside.heads } in
    let new : Watching = record { following = c.self.inside.rerun; heads = c.tell.new.self } in
    watching_tell old new c.args.dated c.tell.result c.self.invariant refl c.tell.ensures.ok c.tell.ensures.err
