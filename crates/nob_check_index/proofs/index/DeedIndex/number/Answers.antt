use Rattle.std.proofs.Common.{ap, ◌∙◌}
use Rattle.nob_model_types.specs.Sessions.{number}
use Rattle.nob_check_index.specs.declared.lists.SpaceDeeds.{SpaceDeeds}
use Rattle.nob_check_index.proofs.Answering.{numbered}
use Rattle.nob_check_index.proofs.index.DeedIndex.number.Goals as goal

pub returns : goal.returns
returns c =
    c.number.ensures
    ∙ numbered c.self.inside.here.space c.self.inside.here.n c.self.inside.past c.self.inside.lookups c.self.invariant c.args.peer
    ∙ ap (λ (v : SpaceDeeds). number c.args.peer v.deeds) c.self.view_is
