-- How one list begins with another.
use Rattle.std.specs.Prelude.{◌≡◌, List, ◌++◌}
use Rattle.nob_link.specs.declared.parcel.Parcel.{Parcel}

-- these parcels begin with those
abbrev pub BeginsWith : List Parcel → List Parcel → Type 0
BeginsWith parcels front = (rest : List Parcel) × (parcels ≡ front ++ rest)
