use Rattle.std.proofs.Common.{sym}
use Rattle.nob_space_state.specs.Parts.{state_of}
use Rattle.nob_space_state.proofs.Nexts.{refused_more, least_there, none_there}
use Rattle.nob_space_state.proofs.parts.Parts.to_withdraw.Goals as goal

pub returns-in-Ok : goal.returns-in-Ok
returns-in-Ok c limits D stands = sym (least_there stands c.loop-index.from c.in-Some.index (c.in-Some.ensures {u = tt}).first (c.in-Ok.ensures {u = tt}) c.loop-index.invariant)

pub loop-index-preserved : goal.loop-index-preserved
loop-index-preserved c = refused_more c.args.self.now.here.space (state_of c.args.self.now) c.loop-index.from c.in-Some.index c.in-Err.field-0 (c.in-Some.ensures {u = tt}).first (c.in-Err.ensures {u = tt}) c.loop-index.invariant

pub returns : goal.returns
returns c limits D stands = sym (none_there stands c.loop-index.from (c.in_default.ensures {u = tt}).first c.loop-index.invariant)
