use Rattle.std.proofs.Common.{ap, ◌∙◌}
use Rattle.nob_model_history.specs.Holds.{times, gains}
use Rattle.nob_check_index.specs.declared.lists.SpaceDeeds.{SpaceDeeds}
use Rattle.nob_check_index.proofs.Answering.{gained}
use Rattle.nob_check_index.proofs.index.DeedIndex.gain_count.Goals as goal

pub returns : goal.returns
returns c =
    c.count.ensures
    ∙ gained c.self.inside.here.space c.self.inside.here.n c.self.inside.past c.self.inside.lookups c.self.invariant c.args.rep.now
    ∙ ap (λ (v : SpaceDeeds). times c.args.rep.now (gains v.deeds)) c.self.view_is
