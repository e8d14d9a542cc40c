use Rattle.std.proofs.Common.{ap, ◌∙◌}
use Rattle.nob_model_history.specs.Holds.{times, releases}
use Rattle.nob_check_index.specs.declared.lists.SpaceDeeds.{SpaceDeeds}
use Rattle.nob_check_index.proofs.Answering.{released}
use Rattle.nob_check_index.proofs.index.DeedIndex.release_count.Goals as goal

pub returns : goal.returns
returns c =
    c.count.ensures
    ∙ released c.self.inside.here.space c.self.inside.here.n c.self.inside.past c.self.inside.lookups c.self.invariant c.args.rep.now
    ∙ ap (λ (v : SpaceDeeds). times c.args.rep.now (releases v.deeds)) c.self.view_is
