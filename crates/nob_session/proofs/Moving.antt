-- What becomes of places that are filled, and of those behind them once the first are accepted.
use Rattle.std.proofs.Common.{◌≡◌, ◌≢◌, ℕ, zero, suc, ◌+◌, ◌-◌, ◌<◌, List, [], ◌∷◌, ◌++◌, take, drop, replicate, Option, Some, None, arith, refl, sym, ap, ◌∙◌, append_assoc}
use lib.ListN.{set}
use Rattle.std.specs.List.{slice_get}
use Rattle.std.proofs.lemmas.List.{drop-drop, replicate_more}
use Rattle.nob_model_session.specs.End.{filled}
use Rattle.nob_model_session.specs.Right.{in_a_row}
use Rattle.nob_session.specs.Keeping.{put_at, first_filled, moved_up}

-- only an empty place changes
pub put_elsewhere : {A : Type 0} (at : ℕ) (x : A) (places : List (Option A)) → slice_get places at ≢ Some None → put_at at x places ≡ places
put_elsewhere at x [] filled = refl
put_elsewhere zero x (None ∷ more) filled = absurd (filled refl)
put_elsewhere zero x (Some y ∷ more) filled = refl
put_elsewhere (suc at) x (place ∷ more) filled = ap (λ places. place ∷ places) (put_elsewhere at x more filled)

-- an empty place is filled
pub put_empty : {A : Type 0} (at : ℕ) (x : A) (places : List (Option A)) → slice_get places at ≡ Some None → set places at (Some x) ≡ put_at at x places
put_empty at x [] there = absurd cc
put_empty zero x (None ∷ more) there = refl
put_empty zero x (Some y ∷ more) there = absurd (cc)
put_empty (suc at) x (place ∷ more) there = ap (λ places. place ∷ places) (put_empty at x more there)

-- where the first place is filled once so many are accepted, it stood behind those
first_stood : {A : Type 0} (count : ℕ) (x : A) (places : List (Option A)) → first_filled (places ++ replicate count None) ≡ Some x → (more : List (Option A)) × (places ≡ Some x ∷ more)
first_stood zero x [] filled = absurd cc
first_stood (suc count) x [] filled = absurd cc
first_stood count x (None ∷ more) filled = absurd cc
first_stood count x (Some y ∷ more) filled = (more, cc)

-- one more is accepted
filled_more : {A : Type 0} (count : ℕ) (x : A) (places more : List (Option A)) → drop count places ≡ Some x ∷ more → filled (take (suc count) places) ≡ filled (take count places) ++ x ∷ []
filled_more zero x [] more there = absurd cc
filled_more (suc count) x [] more there = absurd cc
filled_more zero x (None ∷ places) more there = absurd cc
filled_more zero x (Some y ∷ places) more there = let same : y ≡ x = cc in ap (λ z. z ∷ []) same
filled_more (suc count) x (None ∷ places) more there = filled_more count x places more there
filled_more (suc count) x (Some y ∷ places) more there = ap (λ zs. y ∷ zs) (filled_more count x places more there)

-- what one more acceptance does where so many were accepted
pub record AcceptsOne {A : Type 0} (count most : ℕ) (x : A) (places : List (Option A)) : Type 0 where
  pub moved : moved_up 1 (moved_up count places) ≡ moved_up (count + 1) places
  pub waits : filled (take (count + 1) places) ≡ filled (take count places) ++ x ∷ []
  pub row : in_a_row most (drop count places) ≡ suc (in_a_row (most - 1) (drop (count + 1) places))

row_of : {A : Type 0} (most : ℕ) (x : A) (more : List (Option A)) → 0 < most → in_a_row most (Some x ∷ more) ≡ suc (in_a_row (most - 1) more)
row_of zero x more some = absurd (omega arith)
row_of (suc most) x more some = ap (λ m. suc (in_a_row m more)) (omega arith)

pub accepts_one : {A : Type 0} (count most : ℕ) (x : A) (places : List (Option A)) → 0 < most → first_filled (moved_up count places) ≡ Some x → AcceptsOne count most x places
accepts_one {A} count most x places some first =
    let stood = first_stood count x (drop count places) first in
    let rest : drop (count + 1) places ≡ stood.0 = sym (drop-drop 1 count places) ∙ ap (drop 1) stood.1 in
    record {
      moved = ap (λ ps. drop 1 (ps ++ replicate count None) ++ None ∷ []) stood.1 ∙ append_assoc stood.0 (replicate count None) (None ∷ []) ∙ ap (λ ps. stood.0 ++ ps) (replicate_more count None) ∙ ap (λ ps. ps ++ replicate (count + 1) None) (sym rest);
      waits = ap (λ n. filled (take n places)) {x = count + 1} {y = suc count} (omega arith) ∙ filled_more count x places stood.0 stood.1;
      row = ap (in_a_row most) stood.1 ∙ row_of most x stood.0 some ∙ ap (λ ps. suc (in_a_row (most - 1) ps)) (sym rest);
    }

stops : {A : Type 0} (count most : ℕ) (places : List (Option A)) → first_filled (places ++ replicate count None) ≡ None → in_a_row most places ≡ 0
stops count zero places none = refl
stops count (suc most) [] none = refl
stops count (suc most) (None ∷ more) none = refl
stops count (suc most) (Some x ∷ more) none = absurd cc

-- where the first place is empty once so many are accepted, no more are in the row
pub stops_there : {A : Type 0} (count most : ℕ) (places : List (Option A)) → first_filled (moved_up count places) ≡ None → in_a_row most (drop count places) ≡ 0
stops_there count most places none = stops count most (drop count places) none
