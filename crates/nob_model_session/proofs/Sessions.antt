-- The sessions of a list of calls: their numbers rise, and the calls up to the end of each.
use Rattle.std.proofs.Common.{◌≡◌, ◌≢◌, ℕ, ◌<◌, ◌≤◌, ◌&&◌, ◌==◌, Bool, true, false, not, cond, List, [], ◌∷◌, Option, Some, None, Ok, Err, if◌then◌else◌, refl, sym, ap, subst, ◌∙◌, arith}
use Rattle.std.specs.Option.{option_or}
use Rattle.std.proofs.lemmas.Bool.{eqb-true}
use Rattle.std.proofs.lemmas.Bool.Decides.{nat_tests}
use Rattle.nob_ids.specs.declared.limits.Limits.{Limits}
use Rattle.nob_frame.specs.declared.frame.Frame.{Frame}
use Rattle.nob_model_session.specs.declared.refusal.EndRefusal.TheVariants as refusal
use Rattle.nob_model_session.specs.declared.entry.Arrived.TheVariants as arrived
use Rattle.nob_model_session.specs.declared.entry.EndEntry.{EndEntry}
use Rattle.nob_model_session.specs.declared.entry.EndEntry.TheVariants.{Arrive, Reopen}
use Rattle.nob_model_session.specs.End.{number, up_to, is_present, is_open, accepted_count, brings_at, payload}
use Rattle.nob_model_session.specs.Right.{is_free_number, right_reopen, IsRight}
use Rattle.nob_model_session.specs.Pair.{transmitted_frames}
use Rattle.nob_model_session.specs.Accepting.{AllCame}

-- a call that begins a session gives it a higher number
abbrev pub RisesBy : EndEntry → List EndEntry → Type 0
RisesBy (Reopen k (Ok done)) L = number L < k
RisesBy (_) L = Unit {0}

-- so does each call of the list
abbrev pub Rises : List EndEntry → Type 0
Rises [] = Unit {0}
Rises (entry ∷ L) = RisesBy entry L × Rises L

free_by : (k : ℕ) (done : Unit {0}) (opened free : Bool) → Ok done ≡ cond opened (Err refusal.StillOpen) (cond (not free) (Err refusal.Number) (Ok tt)) → free ≡ true
free_by k done true free e = absurd cc
free_by k done false true e = refl
free_by k done false false e = absurd cc

-- what is answered to a `reopen` is a number above the present one
pub reopen_rises : (k : ℕ) (L : List EndEntry) (done : Unit {0}) → Ok done ≡ right_reopen k L → number L < k
reopen_rises k L done right = let free : is_free_number k L ≡ true = free_by k done (is_open L) (is_free_number k L) right in grind (arith, nat_tests, free)

pub right_rises : (me peer : ℕ) (limits : Limits) (e : EndEntry) (L : List EndEntry) → IsRight me peer limits e L → RisesBy e L
right_rises me peer limits (Reopen k (Ok done)) L right = reopen_rises k L done right
right_rises me peer limits (_) L right = tt

-- the numbers rise
pub number_rises : (e : EndEntry) (L : List EndEntry) → RisesBy e L → number L ≤ number (e ∷ L)
number_rises (Reopen k (Ok done)) L above = omega (arith, above)
number_rises (_) L above = omega arith

-- ---- the calls up to the end of a session

same_test : (m n : ℕ) → m ≡ n → (m == n) ≡ true
same_test m n same = grind (arith, nat_tests, same)

other_test : (m n : ℕ) → m ≢ n → (m == n) ≡ false
other_test m n other = elim (m == n) as (λ b. (m == n) ≡ b → b ≡ false) [ true ↦ λ is. absurd (other (eqb-true _ _ is)) | false ↦ λ isnt. refl ] refl

-- all calls are up to the end of the present session
pub up_to_present : (k : ℕ) (L : List EndEntry) → number L ≡ k → up_to k L ≡ L
up_to_present k [] here = refl
up_to_present k (e ∷ L) here = ap (λ b. if b then e ∷ L else up_to k L) (same_test (number (e ∷ L)) k here)

-- a call in another session isn't among them
pub up_to_other : (k : ℕ) (e : EndEntry) (L : List EndEntry) → number (e ∷ L) ≢ k → up_to k (e ∷ L) ≡ up_to k L
up_to_other k e L other = ap (λ b. if b then e ∷ L else up_to k L) (other_test (number (e ∷ L)) k other)

above_other : (m n : ℕ) → m < n → m ≢ n
above_other m n above same = omega (arith, above, same)

-- there are none of a session above the present one
pub none_above : (k : ℕ) (L : List EndEntry) → Rises L → number L < k → up_to k L ≡ []
none_above k [] rises above = refl
none_above k (e ∷ L) rises above = let before = number_rises e L rises.0 in up_to_other k e L (above_other (number (e ∷ L)) k above) ∙ none_above k L rises.1 (omega (arith, before, above))

-- what was accepted in a session had come
pub came_up_to : (k : ℕ) (L : List EndEntry) → AllCame L → AllCame (up_to k L)
came_up_to k [] came = tt
came_up_to k (e ∷ L) came = elim (number (e ∷ L) == k) as (λ b. AllCame (if b then e ∷ L else up_to k L)) [ true ↦ came | false ↦ came_up_to k L came.1 ]

-- ---- what holds of a session and its frames is kept by each call

-- a call that begins none: in the session it is a step there, in another it changes the frames alone
pub call_step : (P : List EndEntry → List Frame → Type 0) (k : ℕ) (e : EndEntry) (L : List EndEntry) → number (e ∷ L) ≡ number L
    → (number L ≡ k → P L (transmitted_frames L) → P (e ∷ L) (transmitted_frames (e ∷ L)))
    → (number L ≢ k → (X : List EndEntry) → P X (transmitted_frames L) → P X (transmitted_frames (e ∷ L)))
    → P (up_to k L) (transmitted_frames L) → P (up_to k (e ∷ L)) (transmitted_frames (e ∷ L))
call_step P k e L same here there before =
    elim (number L == k) as (λ b. (number L == k) ≡ b → P (up_to k (e ∷ L)) (transmitted_frames (e ∷ L))) [
      | true ↦ λ is.
          let at : number L ≡ k = eqb-true _ _ is in
          subst (λ (X : List EndEntry). P X (transmitted_frames (e ∷ L))) (sym (up_to_present k (e ∷ L) (same ∙ at))) (here at (subst (λ (X : List EndEntry). P X (transmitted_frames L)) (up_to_present k L at) before))
      | false ↦ λ isnt.
          let other : number L ≢ k = λ at. (let no : true ≡ false = sym (same_test (number L) k at) ∙ isnt in absurd cc) in
          subst (λ (X : List EndEntry). P X (transmitted_frames (e ∷ L))) (sym (up_to_other k e L (λ at. other (sym same ∙ at)))) (there other (up_to k L) before)
    ] refl

-- a call that begins one: nothing was of it before
pub begin_step : (P : List EndEntry → List Frame → Type 0) (k h : ℕ) (done : Unit {0}) (L : List EndEntry) → Rises L → number L < h
    → (P [] (transmitted_frames L) → P (Reopen h (Ok done) ∷ L) (transmitted_frames L))
    → P (up_to k L) (transmitted_frames L) → P (up_to k (Reopen h (Ok done) ∷ L)) (transmitted_frames L)
begin_step P k h done L rises above begins before =
    elim (h == k) as (λ b. (h == k) ≡ b → P (if b then Reopen h (Ok done) ∷ L else up_to k L) (transmitted_frames L)) [
      | true ↦ λ is. begins (subst (λ (X : List EndEntry). P X (transmitted_frames L)) (none_above k L rises (subst (λ (m : ℕ). number L < m) (eqb-true _ _ is) above)) before)
      | false ↦ λ isnt. before
    ] refl

or_none : (x : Option (List ℕ)) → option_or x None ≡ x
or_none None = refl
or_none (Some y) = refl

-- a frame of another session brings no payload
pub other_payload : (n : ℕ) (frame : Frame) (count : ℕ) (L : List EndEntry) → is_present frame L ≡ false → payload n (Arrive frame (Ok (arrived.Took count)) ∷ L) ≡ payload n L
other_payload n frame count L other =
    ap (λ b. option_or (payload n L) (if b && brings_at n frame (accepted_count L) then Some frame.payload else None)) other ∙ or_none (payload n L)
