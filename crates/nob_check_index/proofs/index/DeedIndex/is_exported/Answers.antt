use Rattle.std.proofs.Common.{ap, ◌∙◌}
use Rattle.nob_model_types.specs.Objects.{is_exported}
use Rattle.nob_check_index.specs.declared.lists.SpaceDeeds.{SpaceDeeds}
use Rattle.nob_check_index.proofs.Answering.{exports_it}
use Rattle.nob_check_index.proofs.index.DeedIndex.is_exported.Goals as goal

pub returns : goal.returns
returns c =
    c.is_exported.ensures
    ∙ exports_it c.self.inside.here.space c.self.inside.here.n c.self.inside.past c.self.inside.lookups c.self.invariant c.args.index
    ∙ ap (λ (v : SpaceDeeds). is_exported v.here.space c.args.index v.deeds) c.self.view_is
