use Rattle.std.proofs.Common.{ap, ◌∙◌}
use Rattle.nob_model_types.specs.Sessions.{closed}
use Rattle.nob_check_index.specs.declared.lists.SpaceDeeds.{SpaceDeeds}
use Rattle.nob_check_index.proofs.Answering.{closes}
use Rattle.nob_check_index.proofs.index.DeedIndex.is_closed.Goals as goal

pub returns : goal.returns
returns c =
    c.has.ensures
    ∙ closes c.self.inside.here.space c.self.inside.here.n c.self.inside.past c.self.inside.lookups c.self.invariant c.args.peer
    ∙ ap (λ (v : SpaceDeeds). closed c.args.peer v.deeds) c.self.view_is
