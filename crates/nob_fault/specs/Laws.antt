-- What is true of every shim.
use Rattle.std.specs.Prelude.{ℕ, List, Contains}
use Rattle.nob_link.specs.declared.parcel.Parcel.{Parcel}
use Rattle.nob_fault.specs.Shims.{output}

-- only parcels that went in come out
abbrev pub OnlyWhatCame : Type 0
OnlyWhatCame = (words : List ℕ) (parcels : List Parcel) (parcel : Parcel) → Contains (output words parcels) parcel → Contains parcels parcel
