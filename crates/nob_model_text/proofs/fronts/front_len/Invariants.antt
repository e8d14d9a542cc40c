use Rattle.std.proofs.Common.{◌≡◌, ◌+◌, drop}
use Rattle.nob_model_text.specs.Fronts.{length_of_front}
use Rattle.nob_model_text.proofs.fronts.front_len.Given as goal

-- no mark stands before this place
abbrev pub invariant-loop-i : goal.invariant-loop-i
invariant-loop-i l = l.i + length_of_front (drop l.i l.text) ≡ length_of_front l.text
