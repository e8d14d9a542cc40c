-- Holds by reference, and what one hold more or less makes of them.
use Rattle.std.specs.Prelude.{ℕ, ◌+◌, ◌-◌, if◌then◌else◌}
use Rattle.nob_ids.specs.Names.{is_same}
use Rattle.nob_ids.specs.declared.wire_rep.WireRep.{WireRep}

-- one more of a reference
abbrev pub one_more : WireRep → (WireRep → ℕ) → WireRep → ℕ
one_more rep holds other = if is_same rep other then holds other + 1 else holds other

-- one fewer of a reference
abbrev pub one_fewer : WireRep → (WireRep → ℕ) → WireRep → ℕ
one_fewer rep holds other = if is_same rep other then holds other - 1 else holds other
