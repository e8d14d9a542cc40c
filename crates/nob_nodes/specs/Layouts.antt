-- How the nodes of a program run, and of which spaces they are.
use Rattle.std.specs.Prelude.{◌≡◌, ◌+◌, ℕ, List, [], ◌∷◌, length, map}
use Rattle.nob_node.specs.Config.{Config}
use Rattle.nob_nodes.specs.declared.launch.Launch.{Launch}
use Rattle.nob_nodes.specs.declared.layout.Layout.{Layout}
use Rattle.nob_nodes.specs.declared.nodes.Nodes.{Nodes}

-- a node of a space runs as a layout says, one of so many
pub record IsLaidOut (layout : Layout) (number spaces : ℕ) (config : Config) : Type 0 where
  pub space : config.space ≡ number
  pub count : config.n ≡ spaces
  pub limits : config.limits ≡ layout.limits
  pub workers : config.workers ≡ layout.workers
  pub pause : config.pause ≡ layout.pause
  pub tick_every : config.tick_every ≡ layout.tick_every
  pub keep : config.keep ≡ layout.keep

-- nodes of the spaces from a number on, one of each, in order: each runs as a layout says, and is one of so many
abbrev pub AreLaidOut : Layout → (first count : ℕ) → List Config → Type 0
AreLaidOut layout first count [] = Unit {0}
AreLaidOut layout first count (config ∷ configs) = IsLaidOut layout first count config × AreLaidOut layout (first + 1) count configs

-- how each of these nodes runs
abbrev pub configs_of : List Launch → List Config
configs_of launches = map (λ launch. launch.config) launches

-- there are so many nodes, of the spaces from 1 on, in this order: each runs as a layout says, and is one of so many
abbrev pub AreMade : Layout → (count : ℕ) → Nodes → Type 0
AreMade layout count nodes = (length nodes.launches.items ≡ count) × AreLaidOut layout 1 count (configs_of nodes.launches.items)

-- nodes run as they did
abbrev pub RunAlike : (old new : Nodes) → Type 0
RunAlike old new = configs_of new.launches.items ≡ configs_of old.launches.items
