-- The two ends of a link, as contracts see them.
use Rattle.std.specs.Prelude.{ℕ, ◌≤◌, ◌<◌, Bool, true, List, [], ◌∷◌, ◌++◌, length}
use Rattle.atomic_table.specs.Seated.{TableId}
use Rattle.atomic_table.specs.declared.badge.Badge.{Badge}
use Rattle.crossbeam_channel.specs.declared.flavors.array.Key.{Key}
use Rattle.crossbeam_channel.specs.Claims.{Pass, view}
use Rattle.nob_link.specs.declared.parcel.Parcel.{Parcel}
use Rattle.nob_link.specs.declared.parcel.Parcel.TheVariants.{Frame, End}
use Rattle.nob_link.specs.declared.fault.TryPutError.{TryPutError}
use Rattle.nob_link.specs.declared.fault.TryPutError.TheVariants.{Full, Gone}
use Rattle.nob_link.specs.declared.rule.Known.{Known}

-- a parcel with a frame that carries bytes
abbrev pub IsLoaded : Parcel → Type 0
IsLoaded (Frame stamp frame) = 0 < length frame.payload
IsLoaded End = ⊥

-- what tells one link from another
abbrev pub LinkId : Type 0
LinkId = TableId × Badge (Key Parcel)

-- the link that a pass belongs to
abbrev pub link_of : Pass Parcel Known → LinkId
link_of p = (p.table_id, p.me.0.of)

-- what a pass knows
abbrev pub known_by : Pass Parcel Known → Known
known_by p = view p

-- the end that puts: its link, how many parcels that holds at most, what the end has put, the first first, and whether it was answered L1
pub record Putting : Type 0 where
  pub link : LinkId
  pub capacity : ℕ
  pub put : List Parcel
  pub gone : Bool

-- the end that takes: its link, and what the end has taken, the first first
pub record Taking : Type 0 where
  pub link : LinkId
  pub taken : List Parcel

-- the end that puts, once it has put this parcel too
abbrev pub with_put : Putting → Parcel → Putting
with_put end parcel = record { link = end.link; capacity = end.capacity; put = end.put ++ parcel ∷ []; gone = end.gone }

-- the end that puts, once it was answered L1
abbrev pub told_gone : Putting → Putting
told_gone end = record { link = end.link; capacity = end.capacity; put = end.put; gone = true }

-- the end that takes, once it has taken this parcel too
abbrev pub with_taken : Taking → Parcel → Taking
with_taken end parcel = record { link = end.link; taken = end.taken ++ parcel ∷ [] }

-- a capacity that a link may have
abbrev pub IsCapacity : ℕ → Type 0
IsCapacity capacity = (1 ≤ capacity) × (capacity ≤ 1024)

-- the parcel that wasn't put
abbrev pub parcel_back : TryPutError → Parcel
parcel_back (Full parcel) = parcel
parcel_back (Gone gone) = gone.parcel

-- the refusal says that the link is full
abbrev pub IsFull : TryPutError → Type 0
IsFull (Full parcel) = Unit {0}
IsFull (Gone gone) = ⊥

-- the end that puts, after a refusal: L1 is heard, and nothing else has changed
abbrev pub refused_by : TryPutError → Putting → Putting
refused_by (Full parcel) end = end
refused_by (Gone gone) end = told_gone end
