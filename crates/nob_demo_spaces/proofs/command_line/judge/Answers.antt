use Rattle.std.proofs.Common.{inl, inr, ◌∙◌}
use Rattle.nob_demo_spaces.proofs.Faults.{not_taken}
use Rattle.nob_demo_spaces.proofs.command_line.judge.Goals as goal

pub returns : goal.returns
returns g c = record {
  taken = tt;
  subcommand = tt;
  fault = elim c.in-Err.ensures.kinds [ inl memory ↦ absurd (c.in_default.not-OutOfMemory (c.kind.ensures ∙ memory)) | inr among ↦ not_taken _ _ among ];
}
