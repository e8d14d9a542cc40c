-- For callers: what follows where bundles come back, one at a time.
use Rattle.std.proofs.Common.{◌≡◌, ℕ, ◌+◌, ◌-◌, ◌^◌, ◌<◌, ◌==◌, ◌||◌, min, nat_lt, Bool, true, false, cond, not, List, [], ◌∷◌, length, filter, refl, sym, ap, subst, ◌∙◌, arith}
use Prim.Native.Nat.{suc}
use Rattle.std.specs.List.{list_any, count_by}
use Rattle.std.proofs.lemmas.Bool.Decides.{nat_tests}
use Rattle.std.proofs.lemmas.Cmp.{nat_eq_equiv}
use Rattle.std.proofs.lemmas.List.Sums.{length-filter}
use Rattle.std.proofs.lemmas.List.Sorted.{sum_by_pushed, IsPermutation-refl, IsPermutation-trans}
use Rattle.std.specs.List.Sorted.{IsPermutation}
use Rattle.nob_ids.specs.Names.{is_same}
use Rattle.nob_ids.specs.declared.wire_rep.WireRep.{WireRep}
use Rattle.nob_pins.specs.Bundles.{Pinned, bundle_of, times, count_of, Adds, of_peer, of_others, KeepsOthers, TakesOutAll}

same_turned : (a b : WireRep) → is_same a b ≡ is_same b a
same_turned a b = rw (nat_eq_equiv.symm a.owner b.owner, nat_eq_equiv.symm a.index b.index) refl

-- a reference is among others where it stands there at least once
pub among : (rep : WireRep) (reps : List WireRep) → list_any (is_same rep) reps ≡ nat_lt 0 (times rep reps)
among rep [] = refl
among rep (one ∷ reps) =
    let some : true ≡ nat_lt 0 (suc (times rep reps)) = grind (arith, nat_tests) in
    ap (λ b. b || list_any (is_same rep) reps) (same_turned rep one)
    ∙ elim (is_same one rep) as (λ b. (b || list_any (is_same rep) reps) ≡ nat_lt 0 (length (cond b (one ∷ filter (λ other. is_same other rep) reps) (filter (λ other. is_same other rep) reps)))) [ true ↦ some | false ↦ among rep reps ]

-- what a bundle that came back counted, and what is counted still
pub count_taken : (old new : List Pinned) (peer item : ℕ) (reps : List WireRep) → Adds new old (bundle_of peer item reps) → (rep : WireRep) → count_of old rep ≡ times rep reps + count_of new rep
count_taken old new peer item reps adds rep = sum_by_pushed (λ (b : Pinned). times rep b.reps) (bundle_of peer item reps) new old adds

-- a reference that was in transit, and that isn't among those of the bundle that came back, is in transit still
pub count_left : (old new : List Pinned) (peer item : ℕ) (reps : List WireRep) → Adds new old (bundle_of peer item reps) → (rep : WireRep) → list_any (is_same rep) reps ≡ false → 0 < count_of old rep → 0 < count_of new rep
count_left old new peer item reps adds rep other some =
    let taken = count_taken old new peer item reps adds rep in
    let none : nat_lt 0 (times rep reps) ≡ false = sym (among rep reps) ∙ other in
    grind (arith, nat_tests, taken, none, some)

-- a reference whose count is 0 is in transit no longer
pub no_count : (bundles : List Pinned) (rep : WireRep) → min (count_of bundles rep) (2 ^ 64 - 1) ≡ 0 → count_of bundles rep ≡ 0
no_count bundles rep none = omega (arith, none)

-- a peer whose bundle came back has one fewer
pub one_fewer : (peer : ℕ) (old new : List Pinned) (b : Pinned) → b.peer ≡ peer → Adds new old b → length (of_peer peer old) ≡ length (of_peer peer new) + 1
one_fewer peer old new b is adds =
    let p : Pinned → Bool = λ x. x.peer == peer in
    let here : p b ≡ true = rw is (nat_eq_equiv.refl peer) in
    let sum : count_by p old ≡ cond (p b) 1 0 + count_by p new = sum_by_pushed (λ (x : Pinned). cond (p x) 1 0) b new old adds in
    let value : Bool → ℕ = λ t. cond t 1 0 in
    let one : value (p b) ≡ value true = ap value here in
    omega (arith, sum, one, length-filter p old, length-filter p new)

-- where no bundle of the peer is left, the others are all
others_all : (peer : ℕ) (bundles : List Pinned) → of_peer peer bundles ≡ [] → of_others peer bundles ≡ bundles
others_all peer [] none = refl
others_all peer (b ∷ bundles) none =
    elim (b.peer == peer) as (λ t. cond t (b ∷ of_peer peer bundles) (of_peer peer bundles) ≡ [] → cond (not t) (b ∷ of_others peer bundles) (of_others peer bundles) ≡ b ∷ bundles) [
      | true ↦ λ e. cc
      | false ↦ λ e. ap (λ (bs : List Pinned). b ∷ bs) (others_all peer bundles e)
    ] none

-- a loop of `pop` has started, goes on, and is at its end: the peer's bundles are taken out
pub others_start : (peer : ℕ) (bundles : List Pinned) → KeepsOthers bundles bundles peer
others_start peer bundles = IsPermutation-refl (of_others peer bundles)

pub others_step : (peer : ℕ) (first old new : List Pinned) → KeepsOthers first old peer → KeepsOthers old new peer → KeepsOthers first new peer
others_step peer first old new = IsPermutation-trans (of_others peer first) (of_others peer old) (of_others peer new)

pub all_taken : (peer : ℕ) (old new : List Pinned) → KeepsOthers old new peer → of_peer peer new ≡ [] → TakesOutAll old new peer
all_taken peer old new kept none = subst (λ (bs : List Pinned). IsPermutation (of_others peer old) bs) (others_all peer new none) kept
