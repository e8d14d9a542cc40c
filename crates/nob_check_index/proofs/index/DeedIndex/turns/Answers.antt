use Rattle.std.proofs.Common.{ap, ◌∙◌}
use Rattle.nob_model_types.specs.Turns.{turns}
use Rattle.nob_check_index.specs.declared.lists.SpaceDeeds.{SpaceDeeds}
use Rattle.nob_check_index.proofs.Answering.{turned}
use Rattle.nob_check_index.proofs.index.DeedIndex.turns.Goals as goal

pub returns : goal.returns
returns c =
    c.turns.ensures
    ∙ turned c.self.inside.here.space c.self.inside.here.n c.self.inside.past c.self.inside.lookups c.self.invariant c.args.rep.now
    ∙ ap (λ (v : SpaceDeeds). turns v.here.space v.here.n c.args.rep.now v.deeds) c.self.view_is
