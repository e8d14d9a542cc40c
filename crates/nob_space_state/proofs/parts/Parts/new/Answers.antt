use Rattle.std.proofs.Common.{[], inl}
use Rattle.nob_space_state.specs.Births.{life_of}
use Rattle.nob_space_state.proofs.Begins.{nothing_born}
use Rattle.nob_space_state.proofs.Birthing.{default_is_new}
use Rattle.nob_space_state.proofs.parts.Parts.new.Goals as goal

pub begin_at-requires-clause-in_range : goal.begin_at-requires-clause-in_range
begin_at-requires-clause-in_range c = inl (default_is_new c.args.here.space c.args.here.n c.default.result c.requires c.default.ensures.0 c.default.ensures.1 c.default.ensures.2 c.default.ensures.3)

pub returns : goal.returns
returns c = record {
  stands = (c.in_ok-parts.ensures {u = tt}).stands [] (nothing_born c.args.here.space c.args.here.n c.args.limits (life_of c.default.result) (default_is_new c.args.here.space c.args.here.n c.default.result c.requires c.default.ensures.0 c.default.ensures.1 c.default.ensures.2 c.default.ensures.3));
  here = (c.in_ok-parts.ensures {u = tt}).here;
}
