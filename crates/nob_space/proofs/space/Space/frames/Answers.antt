use Rattle.std.proofs.Common.{sym, ap, subst}
use Rattle.nob_ids.specs.Names.{IsSpace}
use Rattle.nob_model_types.specs.Deeds.{deeds}
use Rattle.nob_space.specs.Spaces.{Owner}
use Rattle.nob_space.proofs.space.Space.frames.Goals as goal

pub returns-clause-spelt : goal.returns-clause-spelt
returns-clause-spelt c is = c.frames.ensures.spelt (c.self.inside.limits, deeds c.self.invariant.1, c.self.invariant.2) (subst IsSpace (sym (ap (λ (space : Owner). space.id) c.self.view_is)) is)
