-- Entries that stay where others are let go.
use Rattle.std.proofs.Common.{◌≡◌, ◌≢◌, ℕ, ◌==◌, ◌+◌, ◌-◌, ◌<◌, ◌≤◌, Bool, true, false, nat_lt, List, [], ◌∷◌, ◌++◌, length, Some, slice_get, get_or, cond, refl, sym, ap, subst, ◌∙◌, arith}
use Prim.Native.Nat.{zero, suc}
use lib.ListN.{set}
use Rattle.std.specs.List.{AllByRecursion}
use Rattle.std.proofs.Math.ListN.{get_or-map}
use Rattle.std.proofs.lemmas.Bool.{eqb-true}
use Rattle.std.proofs.lemmas.Bool.Decides.{nat_tests}
use Rattle.std.proofs.lemmas.List.{length-append, length-set, length-map, map-set, get_or-set_same, get_or-set_other}
use Rattle.std.proofs.lemmas.Option.{slice_get_within, slice_get-get_or, get_or_from_slice_get}
use Rattle.nob_trace.specs.declared.stamped.Stamped.{Stamped}
use Rattle.nob_kept.specs.declared.noted.Noted.{Noted}
use Rattle.nob_kept.specs.Staying.{AreNoted, IsAmong, places, put_at}

-- what stands at a place stands there where more comes behind
pub stays : {X : Type 0} (xs ys : List X) (i : ℕ) (x : X) → slice_get xs i ≡ Some x → slice_get (xs ++ ys) i ≡ Some x
stays {X = X} [] ys i x is = let within = slice_get_within {A = X} [] i x is in absurd (omega (arith, within))
stays (y ∷ xs) ys zero x is = is
stays (y ∷ xs) ys (suc i) x is = stays xs ys i x is

-- entries that stay are those of their places where more come behind
pub noted_stay : (entries more : List Stamped) (noted : List Noted) → AreNoted entries noted → AreNoted (entries ++ more) noted
noted_stay entries more [] are = tt
noted_stay entries more (one ∷ noted) are = ((are.0.0, stays entries more (one.place - 1) one.entry are.0.1), noted_stay entries more noted are.1)

-- the entry behind others stands at the next place
pub at_next : {X : Type 0} (xs : List X) (x : X) → slice_get (xs ++ x ∷ []) (length xs) ≡ Some x
at_next [] x = refl
at_next (y ∷ xs) x = at_next xs x

-- what is put in the place of another stands there
pub set_here : {X : Type 0} (xs : List X) (i : ℕ) (x : X) → i < length xs → slice_get (set xs i x) i ≡ Some x
set_here xs i x within =
    slice_get-get_or (set xs i x) i x (subst (λ (n : ℕ). i < n) (sym (length-set xs i x)) within) ∙ ap Some (get_or-set_same xs i x x within)

-- and the others stand where they stood
pub set_other : {X : Type 0} (xs : List X) (i j : ℕ) (x y : X) → j ≢ i → slice_get xs j ≡ Some y → slice_get (set xs i x) j ≡ Some y
set_other xs i j x y apart is =
    let within = slice_get_within xs j y is in
    slice_get-get_or (set xs i x) j y (subst (λ (n : ℕ). j < n) (sym (length-set xs i x)) within) ∙ ap Some (get_or-set_other xs i j x y apart ∙ get_or_from_slice_get xs j y y is)

-- all of a list where one is put in the place of another
pub all_set : {X : Type 0} (P : X → Type 0) (xs : List X) (i : ℕ) (x : X) → AllByRecursion P xs → P x → AllByRecursion P (set xs i x)
all_set P [] i x all one = tt
all_set P (y ∷ xs) zero x all one = (one, all.1)
all_set P (y ∷ xs) (suc i) x all one = (all.0, all_set P xs i x all.1 one)

-- all of a list with one more behind it
pub all_more : {X : Type 0} (P : X → Type 0) (xs : List X) (x : X) → AllByRecursion P xs → P x → AllByRecursion P (xs ++ x ∷ [])
all_more P [] x all one = (one, tt)
all_more P (y ∷ xs) x all one = (all.0, all_more P xs x all.1 one)

-- what holds of all of a list holds at a place
pub all_at : {X : Type 0} (P : X → Type 0) (xs : List X) (i : ℕ) (x : X) → AllByRecursion P xs → slice_get xs i ≡ Some x → P x
all_at {X = X} P [] i x all is = let within = slice_get_within {A = X} [] i x is in absurd (omega (arith, within))
all_at P (y ∷ xs) zero x all is = let same : y ≡ x = get_or_from_slice_get (y ∷ xs) 0 x x is in subst P same all.0
all_at P (y ∷ xs) (suc i) x all is = all_at P xs i x all.1 is

-- a spot among the places or the next: the place that is put there is among them
pub put_among : (spot place : ℕ) (places : List ℕ) → spot ≤ length places → IsAmong (put_at spot place places) place
put_among spot place places within = elim (nat_lt spot (length places)) as (λ b. nat_lt spot (length places) ≡ b → IsAmong (cond b (set places spot place) (places ++ place ∷ [])) place) [
  | true ↦ λ t. (spot, set_here places spot place (grind (arith, nat_tests, t)))
  | false ↦ λ f. (length places, at_next places place)
] refl

-- those at other spots stay among them
pub put_others : (spot place : ℕ) (places : List ℕ) (other at : ℕ) → slice_get places at ≡ Some other → at ≢ spot → IsAmong (put_at spot place places) other
put_others spot place places other at is apart = elim (nat_lt spot (length places)) as (λ b. IsAmong (cond b (set places spot place) (places ++ place ∷ [])) other) [
  | true ↦ (at, set_other places spot at place other apart is)
  | false ↦ (at, stays places (place ∷ []) at other is)
]

-- at a spot that there is there are as many
pub put_count : (spot place : ℕ) (places : List ℕ) → spot < length places → length (put_at spot place places) ≡ length places
put_count spot place places within =
    let is : nat_lt spot (length places) ≡ true = grind (arith, nat_tests, within) in
    ap (λ (b : Bool). length (cond b (set places spot place) (places ++ place ∷ []))) is ∙ length-set places spot place

-- and else one more at most
pub put_more : (spot place : ℕ) (places : List ℕ) → length (put_at spot place places) ≤ length places + 1
put_more spot place places = elim (nat_lt spot (length places)) as (λ b. length (cond b (set places spot place) (places ++ place ∷ [])) ≤ length places + 1) [
  | true ↦ (let same = length-set places spot place in omega (arith, same))
  | false ↦ (let more = length-append places (place ∷ []) in omega (arith, more))
]

-- an entry put in the place of another is at its place
pub put_within : (noted : List Noted) (spot : ℕ) (one : Noted) → spot < length noted → places (set noted spot one) ≡ put_at spot one.place (places noted)
put_within noted spot one within =
    let is : nat_lt spot (length (places noted)) ≡ true = (let same = length-map noted (λ (n : Noted). n.place) in grind (arith, nat_tests, within, same)) in
    map-set (λ (n : Noted). n.place) noted spot one ∙ sym (ap (λ (b : Bool). cond b (set (places noted) spot one.place) (places noted ++ one.place ∷ [])) is)

-- a place that isn't among the first so many isn't among one more, where it isn't that of the next
pub apart_next : (noted : List Noted) (spot place : ℕ) (d : Noted) → ((at : ℕ) → at < spot → slice_get (places noted) at ≢ Some place) → (get_or noted spot d).place ≢ place
    → (at : ℕ) → at < spot + 1 → slice_get (places noted) at ≢ Some place
apart_next noted spot place d before not at less is = elim (at == spot) as (λ b. at == spot ≡ b → ⊥) [
  | true ↦ λ t. not (sym (get_or-map (λ (n : Noted). n.place) noted spot d) ∙ get_or_from_slice_get (places noted) spot place d.place (subst (λ (k : ℕ). slice_get (places noted) k ≡ Some place) (eqb-true at spot t) is))
  | false ↦ λ f. before at (grind (arith, nat_tests, less, f)) is
] refl

-- a place that isn't among the first so many isn't among all
pub apart_all : (noted : List Noted) (spot place : ℕ) → length noted ≤ spot → ((at : ℕ) → at < spot → slice_get (places noted) at ≢ Some place) → IsAmong (places noted) place → ⊥
apart_all noted spot place all apart is =
    let within = slice_get_within (places noted) is.0 place is.1 in
    let long = length-map noted (λ (n : Noted). n.place) in
    apart is.0 (omega (arith, within, long, all)) is.1
