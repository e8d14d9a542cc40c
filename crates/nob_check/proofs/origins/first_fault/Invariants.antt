use Rattle.std.proofs.Common.{take, reverse}
use Rattle.nob_check.specs.Marks.{AreOf}
use Rattle.nob_model_journal.specs.Journals.{transmitted_frames}
use Rattle.nob_model_traces.specs.Origins.{HaveOrigins}
use Rattle.nob_check.proofs.origins.first_fault.Given as goal

-- what arrives up to a place has an origin, and the table has what was transmitted
abbrev pub invariant-loop-place : goal.invariant-loop-place
invariant-loop-place l = record {
  origins : HaveOrigins (take l.place l.merged);
  table : AreOf (transmitted_frames (reverse (take l.place l.merged))) l.set;
}
