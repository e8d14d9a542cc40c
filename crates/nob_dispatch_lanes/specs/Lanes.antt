-- All ends of a lane.
use Rattle.std.specs.Prelude.{◌≡◌, ℕ, ◌+◌, ◌≤◌, false, List, [], ◌∷◌, ◌++◌}
use Rattle.std.specs.List.{AllByRecursion}
use Rattle.nob_dispatch_lanes.specs.declared.ends.LanePut.{LanePut}
use Rattle.nob_dispatch_lanes.specs.declared.ends.LaneTake.{LaneTake}
use Rattle.nob_dispatch_lanes.specs.Balance.{all_parts}
use Rattle.nob_dispatch_lanes.specs.Ends.{lane_of, parts_of, given_by, got_by}

-- the errands that these ends gave
abbrev pub all_given : {X : Type 0} → List (LanePut X) → List X
all_given [] = []
all_given (end ∷ ends) = given_by end.pass ++ all_given ends

-- the errands that these ends got
abbrev pub all_got : {X : Type 0} → List (LaneTake X) → List X
all_got [] = []
all_got (end ∷ ends) = got_by end.pass ++ all_got ends

-- how many parts of the right to know the whole these giving ends have
abbrev pub giving_parts : {X : Type 0} → List (LanePut X) → ℕ
giving_parts [] = 0
giving_parts (end ∷ ends) = parts_of end.pass + giving_parts ends

-- how many parts of the right to know the whole these getting ends have
abbrev pub getting_parts : {X : Type 0} → List (LaneTake X) → ℕ
getting_parts [] = 0
getting_parts (end ∷ ends) = parts_of end.pass + getting_parts ends

-- none of these ends has heard that nobody gets from the lane any more
abbrev pub HaveNotHeard : {X : Type 0} → List (LanePut X) → Type 0
HaveNotHeard ends = AllByRecursion (λ end. end.has_heard_gone ≡ false) ends

-- two ends are of one lane
abbrev pub IsOneLane : {X : Type 0} → LanePut X → LaneTake X → Type 0
IsOneLane giving getting = lane_of giving.pass ≡ lane_of getting.pass

-- these are all ends of one lane
pub record AreAllEnds {X : Type 0} (giving : List (LanePut X)) (getting : List (LaneTake X)) : Type 0 where
  pub one : AllByRecursion (λ give. AllByRecursion (λ get. IsOneLane give get) getting) giving
  pub all : giving_parts giving + getting_parts getting ≡ all_parts

-- a capacity that a lane may have
abbrev pub IsCapacity : ℕ → Type 0
IsCapacity capacity = (1 ≤ capacity) × (capacity ≤ 1024)
