-- The way from an agent that sends to one peer: through a shim and into a link. In lists of what was fed the newest stands FIRST.
use Rattle.std.specs.Prelude.{◌≡◌, ◌⊎◌, ℕ, Bool, true, false, List, [], ◌∷◌, ◌++◌}
use Rattle.nob_link.specs.declared.parcel.Parcel.{Parcel}
use Rattle.nob_link.specs.declared.fault.TryPutError.{TryPutError}
use Rattle.nob_link.specs.declared.fault.TryPutError.TheVariants as refusals
use Rattle.nob_fault.specs.Shims.{Shimming, shim_after, output}
use Rattle.nob_agents.specs.declared.way.PutStep.{PutStep}
use Rattle.nob_agents.specs.declared.way.PutStep.TheVariants as steps

-- a way, as contracts see it: whom it leads to, its shim, what its end put, what is kept behind the shim, and whether its end was answered that the other end is gone
pub record Way : Type 0 where
  pub peer : ℕ
  pub shim : Shimming
  pub put : List Parcel
  pub after : List Parcel
  pub gone : Bool

-- what was put, and then what is kept behind the shim, is the shim's output for what it was fed, and the shim stands where that leaves it
pub record IsFed (way : Way) (fed : List Parcel) : Type 0 where
  pub came_out : way.put ++ way.after ≡ output way.shim.words fed
  pub stands : way.shim ≡ shim_after way.shim.words fed

-- a list begins so
abbrev pub BeginsWith : List Parcel → List Parcel → Type 0
BeginsWith whole front = (rest : List Parcel) × (front ++ rest ≡ whole)

-- a way was fed this: what it put is a beginning of the shim's output for it, and unless the other end of its link is gone, the rest is kept behind the shim
pub record IsTied (fed : List Parcel) (way : Way) : Type 0 where
  pub begins : BeginsWith (output way.shim.words fed) way.put
  pub whole : way.gone ≡ false → IsFed way fed

-- two ways lead to one peer, by the same words
abbrev pub IsSameWay : Way → Way → Type 0
IsSameWay old new = (new.peer ≡ old.peer) × (new.shim.words ≡ old.shim.words)

-- whether the other end is known to be gone, after a parcel was refused
abbrev pub gone_by : TryPutError → Bool → Bool
gone_by (refusals.Full parcel) gone = gone
gone_by (refusals.Gone error) gone = true

-- the way, once the first of what is kept behind its shim was put
abbrev pub with_next_put : Way → Parcel → List Parcel → Way
with_next_put way parcel rest = record { peer = way.peer; shim = way.shim; put = way.put ++ parcel ∷ []; after = rest; gone = way.gone }

-- what a way is after each answer to a try to put: the first was put; there is none, or nothing more is put; the link is full; or the other end is gone, and nothing was put
abbrev pub IsStep : PutStep → Way → Way → Type 0
IsStep steps.Put old new = (parcel : Parcel) × (rest : List Parcel) × (old.after ≡ parcel ∷ rest) × (new ≡ with_next_put old parcel rest)
IsStep steps.Nothing old new = ((old.gone ≡ true) ⊎ (old.after ≡ [])) × (new ≡ old)
IsStep steps.Full old new = new ≡ old
IsStep steps.Gone old new = (new.put ≡ old.put) × (new.gone ≡ true)
