-- Names: what a space, a reference and a counted reference are.
use Rattle.std.specs.Prelude.{ℕ, ◌≤◌, ◌&&◌, ◌==◌, Bool, not, nat_le}
use Rattle.nob_ids.specs.declared.wire_rep.WireRep.{WireRep}

-- how many spaces there are where no number is given
abbrev pub most_spaces : ℕ
most_spaces = 32

-- a space is 1 to n
abbrev pub IsSpaceOf : ℕ → ℕ → Type 0
IsSpaceOf n space = (1 ≤ space) × (space ≤ n)

-- a space where no n is given: 1 to 32
abbrev pub IsSpace : ℕ → Type 0
IsSpace space = IsSpaceOf most_spaces space

-- the same as a test
abbrev pub is_space : ℕ → Bool
is_space space = nat_le 1 space && nat_le space most_spaces

-- a reference is counted if its index isn't 0, that of its owner's agent
abbrev pub is_counted : WireRep → Bool
is_counted rep = not (rep.index == 0)

-- whether two references are one: the same owner and the same index
abbrev pub is_same : WireRep → WireRep → Bool
is_same rep other = rep.owner == other.owner && rep.index == other.index
