-- One parcel more among those that came.
use Prim.Native.Nat.{zero}
use Rattle.std.proofs.Common.{◌≡◌, ◌≢◌, ◌≤◌, ◌+◌, ℕ, suc, List, [], ◌∷◌, inl, inr, subst, arith}
use Rattle.nob_link.specs.declared.parcel.Parcel.{Parcel}
use Rattle.bench_parts.specs.Counting.{IsOf, CameInOrder, AreInOrder}

-- among none there is none
none_longer : (more : ℕ) → CameInOrder more [] → more ≤ 0
none_longer zero came = omega arith
none_longer (suc number) came = absurd came

pub none_came : AreInOrder 0 []
none_came = record { came = tt; most = none_longer }

-- with one parcel more there is one number more at most
one_longer : (count : ℕ) (parcel : Parcel) (before : List Parcel) → AreInOrder count before → (more : ℕ) → CameInOrder more (parcel ∷ before) → more ≤ count + 1
one_longer count parcel before are zero came = omega arith
one_longer count parcel before are (suc number) (inl last) = let few : number ≤ count = are.most number last.1 in omega (arith, few)
one_longer count parcel before are (suc number) (inr came) = let few : suc number ≤ count = are.most (suc number) came in omega (arith, few)

-- a parcel of the next number has come in order
pub counted : (count : ℕ) (parcel : Parcel) (before : List Parcel) → IsOf count parcel → AreInOrder count before → AreInOrder (count + 1) (parcel ∷ before)
counted count parcel before is are = record {
  came = let whole : CameInOrder (suc count) (parcel ∷ before) = inl (is, are.came) in
      let next : suc count ≡ count + 1 = omega arith in
      subst (λ (k : ℕ). CameInOrder k (parcel ∷ before)) next whole;
  most = one_longer count parcel before are;
}

-- a parcel behind others leaves what came in order
still_came : (count : ℕ) (parcel : Parcel) (before : List Parcel) → CameInOrder count before → CameInOrder count (parcel ∷ before)
still_came zero parcel before came = tt
still_came (suc number) parcel before came = inr came

-- one that isn't of the next number makes none longer
none_more : (count : ℕ) (parcel : Parcel) (before : List Parcel) → (IsOf count parcel → ⊥) → AreInOrder count before → (more : ℕ) → CameInOrder more (parcel ∷ before) → more ≤ count
none_more count parcel before other are zero came = omega arith
none_more count parcel before other are (suc number) (inl last) =
    let apart : number ≢ count = λ same. other (subst (λ (k : ℕ). IsOf k parcel) same last.0) in
    let few : number ≤ count = are.most number last.1 in
    grind (arith, apart, few)
none_more count parcel before other are (suc number) (inr came) = are.most (suc number) came

-- a parcel of another number has not
pub passed_over : (count : ℕ) (parcel : Parcel) (before : List Parcel) → (IsOf count parcel → ⊥) → AreInOrder count before → AreInOrder count (parcel ∷ before)
passed_over count parcel before other are = record {
  came = still_came count parcel before are.came;
  most = none_more count parcel before other are;
}
