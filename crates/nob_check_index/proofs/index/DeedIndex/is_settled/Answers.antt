use Rattle.std.proofs.Common.{ap, ◌∙◌}
use Rattle.nob_model_history.specs.Transit.{is_settled}
use Rattle.nob_check_index.specs.declared.lists.SpaceDeeds.{SpaceDeeds}
use Rattle.nob_check_index.proofs.Answering.{settles}
use Rattle.nob_check_index.proofs.index.DeedIndex.is_settled.Goals as goal

pub returns : goal.returns
returns c =
    c.has.ensures
    ∙ settles c.self.inside.here.space c.self.inside.here.n c.self.inside.past c.self.inside.lookups c.self.invariant c.args.peer c.args.number
    ∙ ap (λ (v : SpaceDeeds). is_settled c.args.peer c.args.number v.deeds) c.self.view_is
