use Rattle.std.proofs.Common.{ap, ◌∙◌}
use Rattle.std.specs.Prelude.{reverse}
use Rattle.std.specs.List.{list_all}
use Rattle.nob_model_journal.specs.Losses.{sources}
use Rattle.nob_check_index.specs.declared.lists.SpaceDeeds.{SpaceDeeds}
use Rattle.nob_check_index.proofs.Answering.{copied}
use Rattle.nob_check_index.proofs.Turned.{all_turned}
use Rattle.nob_check_index.proofs.index.DeedIndex.sources.Goals as goal

pub returns-clause-value : goal.returns-clause-value
returns-clause-value c =
    c.sources.ensures
    ∙ copied c.self.inside.here.space c.self.inside.here.n c.self.inside.past c.self.inside.lookups c.self.invariant c.args.rep.now
    ∙ ap (λ (v : SpaceDeeds). reverse (sources v.here.space v.here.n c.args.rep.now v.deeds)) c.self.view_is

pub returns-clause-all : goal.returns-clause-all
returns-clause-all c test = ap (list_all test) (returns-clause-value c) ∙ all_turned test (sources c.args.self.now.here.space c.args.self.now.here.n c.args.rep.now c.args.self.now.deeds)
