use Rattle.std.proofs.Common.{ap, ◌∙◌}
use Rattle.std.specs.Prelude.{reverse}
use Rattle.std.specs.List.{list_all}
use Rattle.nob_model_journal.specs.Tests.{sessions_in}
use Rattle.nob_check_index.specs.declared.lists.SpaceDeeds.{SpaceDeeds}
use Rattle.nob_check_index.proofs.Answering.{acted_in}
use Rattle.nob_check_index.proofs.Turned.{all_turned}
use Rattle.nob_check_index.proofs.index.DeedIndex.sessions.Goals as goal

pub returns-clause-value : goal.returns-clause-value
returns-clause-value c =
    c.as_slice.ensures
    ∙ acted_in c.self.inside.here.space c.self.inside.here.n c.self.inside.past c.self.inside.lookups c.self.invariant
    ∙ ap (λ (v : SpaceDeeds). reverse (sessions_in v.deeds)) c.self.view_is

pub returns-clause-all : goal.returns-clause-all
returns-clause-all c test = ap (list_all test) (returns-clause-value c) ∙ all_turned test (sessions_in c.args.self.now.deeds)
