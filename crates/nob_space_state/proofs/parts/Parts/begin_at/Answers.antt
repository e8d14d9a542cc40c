use Rattle.std.proofs.Common.{refl}
use Rattle.nob_space_state.specs.Births.{life_of}
use Rattle.nob_space_state.proofs.Begins.{begins_stands, few_indexes, has_number}
use Rattle.nob_space_state.proofs.parts.Parts.begin_at.Goals as goal

pub open_all-requires-clause-numbers : goal.open_all-requires-clause-numbers
open_all-requires-clause-numbers c = has_number c.args.here.space c.args.here.n (life_of c.args.birth.now) c.requires.in_range

pub begin_at-requires : goal.begin_at-requires
begin_at-requires c = few_indexes c.args.here.space c.args.here.n (life_of c.args.birth.now) c.requires.in_range

pub returns : goal.returns
returns c = record {
  stands = begins_stands c.args.here.space c.args.here.n c.args.limits (life_of c.args.birth.now) _ (c.in_ok-sessions.ensures {u = tt}).each (c.in_ok-sessions.ensures {u = tt}).begun c.begin_at.ensures.me c.begin_at.ensures.exported c.begin_at.ensures.dirties c.begin_at.ensures.surrogates c.begin_at.ensures.nothing c.begin_at.ensures.kept c.new.ensures.empty c.new-2.ensures (λ i. record { waiting = c.new-3.ensures.items i; ready = c.new-3.ensures.ready i; running = c.new-3.ensures.running i; replies = c.new-4.ensures.replies i; calls = c.new-4.ensures.calls i }) refl refl;
  here = refl;
}
