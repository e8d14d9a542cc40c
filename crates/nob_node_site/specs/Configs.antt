-- Which nodes there may be.
use Rattle.std.specs.Prelude.{ℕ, Bool, ◌&&◌, nat_le}

-- whether a node may be one of so many spaces, with so many workers: there are 1 to 32 spaces and it is one of them, and 1 to 16 workers
abbrev pub may_be : (space n workers : ℕ) → Bool
may_be space n workers = (nat_le 1 n && nat_le n 32) && (nat_le space n && (nat_le 1 workers && nat_le workers 16))
