-- A list of which the last part has bytes, as contracts see it.
use Rattle.std.specs.Prelude.{ℕ, List, length}

-- all its items, those too that were let go; how many of the first were let go; and for how many more there is room
pub record Listed (T : Type 0) : Type 0 where
  pub items : List T
  pub gone : ℕ
  pub room : ℕ

-- how many items there are
abbrev pub count : {T : Type 0} → Listed T → ℕ
count list = length list.items
