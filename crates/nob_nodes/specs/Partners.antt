-- Two nodes.
use Rattle.std.specs.Prelude.{◌≡◌, ℕ, ◌==◌, if◌then◌else◌}
use Rattle.nob_nodes.specs.Keep.{Keep}
use Rattle.nob_nodes.specs.Config.{Config}

-- the other of the spaces 1 and 2
abbrev pub partner_of : (space : ℕ) → ℕ
partner_of space = if space == 1 then 2 else 1

-- two nodes are of the spaces 1 and 2, and each keeps this of its entries
pub record AreTwo (keep : Keep) (first second : Config) : Type 0 where
  pub first_space : first.space ≡ 1
  pub first_count : first.n ≡ 2
  pub first_keep : first.keep ≡ keep
  pub second_space : second.space ≡ 2
  pub second_count : second.n ≡ 2
  pub second_keep : second.keep ≡ keep
