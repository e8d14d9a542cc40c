-- The word of a reference is parted at its point, since no number has one.
use Prim.Native.Nat.{zero}
use Rattle.std.proofs.Common.{Option, Bor, ◌≡◌, ◌≢◌, ℕ, suc, ◌+◌, ◌^◌, ◌<◌, ◌%◌, List, [], ◌∷◌, ◌++◌, length, get_or, arith}
use Rattle.std.specs.Prelude.{MatchOption}
use Rattle.std.specs.List.{AllByRecursion}
use Rattle.std.specs.Fmt.{decimal}
use Rattle.std.proofs.lemmas.Fmt.{decimal_by_steps}
use Rattle.std.proofs.lemmas.Str.Pattern.{IsSplitOnceResult, split_after}
use Rattle.nob_ids.specs.declared.wire_rep.WireRep.{WireRep}

-- no point is among the bytes
abbrev HasNoPoint : List ℕ → Type 0
HasNoPoint bytes = AllByRecursion (λ byte. byte ≢ 46) bytes

none_behind : (front : List ℕ) (b : ℕ) → HasNoPoint front → b ≢ 46 → HasNoPoint (front ++ b ∷ [])
none_behind [] b none one = (one, tt)
none_behind (x ∷ front) b none one = (none.0, none_behind front b none.1 one)

digit : (d : ℕ) → 48 + d ≢ 46
digit d same = absurd (omega (arith, same))

-- a number has none
without_point : (n : ℕ) → n < 2 ^ 64 → HasNoPoint (decimal n)
without_point n small =
    decimal_by_steps (λ (m : ℕ) (ds : List ℕ). HasNoPoint ds) (λ m less. (digit m, tt)) (λ m ds above none. none_behind ds (48 + m % 10) none (digit (m % 10))) n small

-- nor is there one at any place
no_point_at : (bytes : List ℕ) (i : ℕ) → HasNoPoint bytes → i < length bytes → get_or bytes i 0 ≢ 46
no_point_at [] i none inside = absurd (omega (arith, inside))
no_point_at (b ∷ bytes) zero none inside = none.0
no_point_at (b ∷ bytes) (suc i) none inside = no_point_at bytes i none.1 (omega (arith, inside))

-- what stands before and behind the point of a reference
pub parted : (word : List ℕ) (owner index : ℕ) (r : Option (Bor (List ℕ) × Bor (List ℕ))) → owner < 2 ^ 64 → word ≡ decimal owner ++ 46 ∷ decimal index → IsSplitOnceResult 46 word r
    → MatchOption r ⊥ (λ x. (x.0.now ≡ decimal owner) × (x.1.now ≡ decimal index))
parted word owner index r small spelt split = split_after 46 word (decimal owner) (decimal index) r split (omega arith) spelt (λ i inside. no_point_at (decimal owner) i (without_point owner small) inside)

-- a reference is its owner and its index
pub same_reference : (owner index : ℕ) (rep : WireRep) → owner ≡ rep.owner → index ≡ rep.index → record { owner = owner; index = index } ≡ rep
same_reference owner index rep one other i = record { owner = one i; index = other i }
