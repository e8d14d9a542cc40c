use Rattle.nob_watch.specs.Watches.{Watching}
use Rattle.nob_watch.proofs.Watches.{watching_on, cut_at}
use Rattle.nob_watch.proofs.watch.Watch.go_on.Goals as goal

pub invariant_of-self : goal.invariant_of-self
invariant_of-self c =
    let old : Watching = record { following = c.self.inside.rerun; heads = c.self.inside.heads } in
    let new : Watching = record { following = c.pass_due.new.rerun; heads = c.pass_due.new.heads } in
    watching_on old new c.pass_due.result c.self.invariant c.pass_due.ensures.spaces c.pass_due.ensures.goes_on

pub returns-clause-cut : goal.returns-clause-cut
returns-clause-cut c =
    let old : Watching = record { following = c.self.inside.rerun; heads = c.self.inside.heads } in
    let new : Watching = record { following = c.pass_due.new.rerun; heads = c.pass_due.new.heads } in
    cut_at old new c.pass_due.result c.pass_due.ensures.spaces c.pass_due.ensures.goes_on
