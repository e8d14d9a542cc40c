-- Ends that are all ends of their lane.
use Rattle.std.specs.Prelude.{◌≡◌, ◌+◌}
use Rattle.nob_dispatch_lanes.specs.Balance.{all_parts}
use Rattle.nob_dispatch_lanes.specs.Ends.{Stake}
use Rattle.nob_dispatch.specs.Stakes.{Stakes}

-- two stakes are all that there are in one lane
abbrev pub AreWhole : {X : Type 0} → Stake X → Stake X → Type 0
AreWhole giving getting = (giving.lane ≡ getting.lane) × (giving.parts + getting.parts ≡ all_parts)

-- a desk and a hand have all ends of their two lanes
abbrev pub AreOnePool : {O : Type 0} → Stakes O → Stakes O → Type 0
AreOnePool desk hand = AreWhole desk.errands hand.errands × AreWhole hand.returns desk.returns
