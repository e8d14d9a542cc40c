-- The ends of a lane: which lane each is of, and what it knows.
use Rattle.std.specs.Prelude.{◌≡◌, ℕ, ◌<◌, List, []}
use Rattle.atomic_table.specs.Seated.{TableId}
use Rattle.atomic_table.specs.declared.badge.Badge.{Badge}
use Rattle.crossbeam_channel.specs.declared.flavors.array.Key.{Key}
use Rattle.crossbeam_channel.specs.Claims.{Pass, view}
use Rattle.nob_dispatch_lanes.specs.declared.rule.Knowledge.{Knowledge}

-- what tells one lane of such errands from another
abbrev pub LaneId : Type 0 → Type 0
LaneId X = TableId × Badge (Key X)

-- an end's stake in a lane: which lane it is, and how many parts the end has of the right to know the whole
pub record Stake (X : Type 0) : Type 0 where
  pub lane : LaneId X
  pub parts : ℕ

module _ {X : Type 0} where
  -- the lane that a pass belongs to
  abbrev pub lane_of : Pass X (Knowledge X) → LaneId X
  lane_of pass = (pass.table_id, pass.me.0.of)

  -- how many parts a pass has of the right to know the whole
  abbrev pub parts_of : Pass X (Knowledge X) → ℕ
  parts_of pass = (view pass).parts

  -- the stake of a pass
  abbrev pub stake_of : Pass X (Knowledge X) → Stake X
  stake_of pass = record { lane = lane_of pass; parts = parts_of pass }

  -- the errands that a pass gave, the first first
  abbrev pub given_by : Pass X (Knowledge X) → List X
  given_by pass = (view pass).given

  -- the errands that a pass got, the first first
  abbrev pub got_by : Pass X (Knowledge X) → List X
  got_by pass = (view pass).got

  -- a pass that gives: it has a part, and got nothing
  abbrev pub IsGiver : Pass X (Knowledge X) → Type 0
  IsGiver pass = (0 < parts_of pass) × (got_by pass ≡ [])

  -- a pass that gets: it has a part, and gave nothing
  abbrev pub IsGetter : Pass X (Knowledge X) → Type 0
  IsGetter pass = (0 < parts_of pass) × (given_by pass ≡ [])
