-- How many references of a list pass a test, counted from the front.
use Rattle.std.proofs.Common.{◌≡◌, ◌+◌, ◌≤◌, ℕ, Bool, true, false, List, [], ◌∷◌, length, filter, drop, Some, slice_get, refl, arith}
use Prim.Native.Nat.{zero, suc}
use Rattle.std.proofs.lemmas.Option.{none-some, same_Some}
use Rattle.nob_ids.specs.declared.wire_rep.WireRep.{WireRep}

-- how many references of a list pass the test, from a place on
abbrev pub passing_from : (WireRep → Bool) → List WireRep → ℕ → ℕ
passing_from test reps at = length (filter test (drop at reps))

module _ (test : WireRep → Bool) where
  one_at : (reps : List WireRep) (at : ℕ) (rep : WireRep) → slice_get reps at ≡ Some rep → test rep ≡ true → passing_from test reps at ≡ suc (passing_from test reps (suc at))
  one_at [] at rep there is = absurd (none-some rep there)
  one_at (x ∷ xs) zero rep there is = rw (same_Some x rep there, is) refl
  one_at (x ∷ xs) (suc at) rep there is = one_at xs at rep there is

  none_at : (reps : List WireRep) (at : ℕ) (rep : WireRep) → slice_get reps at ≡ Some rep → test rep ≡ false → passing_from test reps at ≡ passing_from test reps (suc at)
  none_at [] at rep there is = absurd (none-some rep there)
  none_at (x ∷ xs) zero rep there is = rw (same_Some x rep there, is) refl
  none_at (x ∷ xs) (suc at) rep there is = none_at xs at rep there is

  -- one that passes counts
  pub one_counts : (reps : List WireRep) (count next at : ℕ) (rep : WireRep) → slice_get reps at ≡ Some rep → test rep ≡ true → next ≡ count + 1
      → count + passing_from test reps at ≡ passing_from test reps 0 → next + passing_from test reps (at + 1) ≡ passing_from test reps 0
  one_counts reps count next at rep there is more sum =
      let one = one_at reps at rep there is in
      let step : suc at ≡ at + 1 = omega arith in
      rw (← step) (omega (arith, one, more, sum))

  -- one that doesn't pass leaves the count
  pub none_counts : (reps : List WireRep) (count next at : ℕ) (rep : WireRep) → slice_get reps at ≡ Some rep → test rep ≡ false → next ≡ count
      → count + passing_from test reps at ≡ passing_from test reps 0 → next + passing_from test reps (at + 1) ≡ passing_from test reps 0
  none_counts reps count next at rep there is same sum =
      let none = none_at reps at rep there is in
      let step : suc at ≡ at + 1 = omega arith in
      rw (← step) (omega (arith, none, same, sum))
