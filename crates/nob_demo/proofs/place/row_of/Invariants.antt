use Rattle.std.proofs.Common.{◌≡◌, drop}
use Rattle.nob_demo.specs.Draws as spec
use Rattle.nob_demo.proofs.place.row_of.Given as goal

-- none of the newer entries is the one
abbrev pub invariant-loop-newer : goal.invariant-loop-newer
invariant-loop-newer l = spec.row_of l.space l.place (drop l.newer l.journal) ≡ spec.row_of l.space l.place l.journal
