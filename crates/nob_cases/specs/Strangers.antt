-- Bundles of pins whose peers the cases of a pin table have no closing of.
use Rattle.std.specs.Prelude.{ℕ, Bool, ◌==◌, ◌&&◌, not, List}
use Rattle.std.specs.List.{count_by}
use Rattle.nob_pins.specs.Bundles.{Pinned}

-- whether the peer of a bundle is neither 2 nor 3
abbrev pub is_strange : Pinned → Bool
is_strange bundle = not (bundle.peer == 2) && not (bundle.peer == 3)

-- how many bundles are of neither peer
abbrev pub strangers : List Pinned → ℕ
strangers bundles = count_by is_strange bundles
