use Rattle.std.proofs.Common.{◌+◌, ◌-◌}
use Rattle.nob_space_state.specs.Parts.{state_of}
use Rattle.nob_space_state.proofs.Nexts.{AreRefusedBelow}
use Rattle.nob_space_state.proofs.parts.Parts.to_withdraw.Given as goal

abbrev pub invariant-loop-index : goal.invariant-loop-index
invariant-loop-index l = AreRefusedBelow l.self.here.space (state_of l.self) l.from

abbrev pub decreases-loop-index : goal.decreases-loop-index
decreases-loop-index l = l.self.table.exported + 1 - l.from
