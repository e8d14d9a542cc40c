-- How many parcels came in order.
use Prim.Native.Nat.{zero}
use Rattle.std.specs.Prelude.{◌≡◌, ◌≤◌, ◌⊎◌, ⊤, ℕ, suc, List, [], ◌∷◌}
use Rattle.nob_link.specs.declared.parcel.Parcel.{Parcel}
use Rattle.nob_link.specs.declared.parcel.Parcel.TheVariants.{Frame, End}

-- a parcel is that of a number: a frame that is stamped with it and acknowledges it
abbrev pub IsOf : ℕ → Parcel → Type 0
IsOf number (Frame stamp frame) = (stamp ≡ number) × (frame.ack ≡ number)
IsOf number End = ⊥

-- those of the first so many numbers, from 0 on, came in this order, whatever came between them; the newest parcel stands FIRST
abbrev pub CameInOrder : (count : ℕ) → List Parcel → Type 0
CameInOrder zero parcels = ⊤
CameInOrder (suc number) [] = ⊥
CameInOrder (suc number) (parcel ∷ earlier) = (IsOf number parcel × CameInOrder number earlier) ⊎ CameInOrder (suc number) earlier

-- so many parcels came in order: those of the first so many numbers did, and those of no more
pub record AreInOrder (count : ℕ) (parcels : List Parcel) : Type 0 where
  pub came : CameInOrder count parcels
  pub most : (more : ℕ) → CameInOrder more parcels → more ≤ count
