-- Where bytes stand.
use Rattle.std.specs.Prelude.{ℕ, List, take}
use Rattle.nob_bytes.specs.declared.owned.Place.{Place}
use Rattle.nob_bytes.specs.declared.owned.Place.TheVariants as places
use Rattle.std.specs.Arc.{arc_value}

-- the bytes at a place
abbrev pub bytes_at : Place → List ℕ
bytes_at (places.Few few) = take few.len few.bytes
bytes_at (places.Owned bytes) = bytes.items
bytes_at (places.Shared bytes) = (arc_value bytes).items
