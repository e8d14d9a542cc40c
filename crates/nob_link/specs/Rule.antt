-- The rule of a link. What was put is what was taken, and then what the link holds.
use Rattle.std.specs.Prelude.{◌≡◌, ℕ, ◌≤◌, Bool, true, List, [], ◌∷◌, ◌++◌, length}
use mathlib.Core.Option.{some}
use lib.ListN.{get_elem?}
use Rattle.nob_link.specs.declared.parcel.Parcel.{Parcel}
use Rattle.nob_link.specs.declared.rule.Known.{Known}

-- what a pass knows: whether it may put and take, what it has put, and what it has taken
abbrev pub known : Bool → Bool → List Parcel → List Parcel → Known
known puts takes put taken = record { puts = puts; takes = takes; put = put; taken = taken }

-- what a pass knows once it has put this parcel too
abbrev pub after_put : Known → Parcel → Known
after_put v parcel = known v.puts v.takes (v.put ++ parcel ∷ []) v.taken

-- what a pass knows once it has taken this parcel too
abbrev pub after_take : Known → Parcel → Known
after_take v parcel = known v.puts v.takes v.put (v.taken ++ parcel ∷ [])

-- a pass that may put is the putter's and knows all that was put; one that may take is the taker's and knows all that was taken
abbrev pub Knows : ℕ → ℕ → List Parcel → List Parcel → ℕ → Known → Type 0
Knows putter taker put taken pass v =
    (v.puts ≡ true → (pass ≡ putter) × (v.put ≡ put)) × (v.takes ≡ true → (pass ≡ taker) × (v.taken ≡ taken))

-- what was put is what was taken and then what is queued, at most 1,024 parcels; one pass at most puts, and one at most takes
pub record IsInOrder (queued : List Parcel) (views : List Known) : Type 0 where
  pub putter : ℕ
  pub taker : ℕ
  pub put : List Parcel
  pub taken : List Parcel
  pub order : put ≡ taken ++ queued
  pub few : length queued ≤ 1024
  pub passes : (pass : ℕ) (v : Known) → get_elem? views pass ≡ some v → Knows putter taker put taken pass v
