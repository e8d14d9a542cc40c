use Rattle.std.proofs.Common.{ap, ◌∙◌}
use Rattle.nob_model_types.specs.Sessions.{item_at}
use Rattle.nob_check_index.specs.declared.lists.SpaceDeeds.{SpaceDeeds}
use Rattle.nob_check_index.proofs.Answering.{item_came}
use Rattle.nob_check_index.proofs.index.DeedIndex.item_at.Goals as goal

pub returns : goal.returns
returns c =
    c.item_at.ensures
    ∙ item_came c.self.inside.here.space c.self.inside.here.n c.self.inside.past c.self.inside.lookups c.self.invariant c.args.peer c.args.number
    ∙ ap (λ (v : SpaceDeeds). item_at c.args.peer c.args.number v.deeds) c.self.view_is
