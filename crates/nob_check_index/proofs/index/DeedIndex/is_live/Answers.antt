use Rattle.std.proofs.Common.{ap, ◌∙◌}
use Rattle.nob_model_types.specs.Objects.{is_live}
use Rattle.nob_check_index.specs.declared.lists.SpaceDeeds.{SpaceDeeds}
use Rattle.nob_check_index.proofs.Answering.{lives}
use Rattle.nob_check_index.proofs.index.DeedIndex.is_live.Goals as goal

pub returns : goal.returns
returns c =
    c.is_live.ensures
    ∙ lives c.self.inside.here.space c.self.inside.here.n c.self.inside.past c.self.inside.lookups c.self.invariant c.args.index
    ∙ ap (λ (v : SpaceDeeds). is_live v.here.space c.args.index v.deeds) c.self.view_is
