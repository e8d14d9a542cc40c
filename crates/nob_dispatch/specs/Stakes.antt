-- The lanes that a hand and a desk have ends of.
use Rattle.nob_dispatch_lanes.specs.declared.ends.LanePut.{LanePut}
use Rattle.nob_dispatch_lanes.specs.declared.ends.LaneTake.{LaneTake}
use Rattle.nob_dispatch_lanes.specs.Ends.{Stake, stake_of}
use Rattle.nob_dispatch.specs.declared.errand.Errand.{Errand}
use Rattle.nob_dispatch.specs.declared.errand.Return.{Return}

-- the stakes of two ends: in the lane of errands, and in the lane that their objects go back by
pub record Stakes (O : Type 0) : Type 0 where
  pub errands : Stake (Errand O)
  pub returns : Stake (Return O)

module _ {O : Type 0} where
  -- the stakes of the ends of a hand
  abbrev pub of_hand : LaneTake (Errand O) → LanePut (Return O) → Stakes O
  of_hand errands returns = record { errands = stake_of errands.pass; returns = stake_of returns.pass }

  -- the stakes of the ends of a desk
  abbrev pub of_desk : LanePut (Errand O) → LaneTake (Return O) → Stakes O
  of_desk errands returns = record { errands = stake_of errands.pass; returns = stake_of returns.pass }
