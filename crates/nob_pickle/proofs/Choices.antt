-- What an answer tells of the choices before it.
use Rattle.std.proofs.Common.{◌≡◌, ℕ, ◌<◌, Bool, true, false, cond, eqb, Result, Ok, Err, refl, arith, ◌⊎◌, inl, inr}
use Rattle.std.proofs.lemmas.Bool.{eqb-false, ne_eqb, cond-false}
use Rattle.nob_pickle.specs.declared.fault.PickleFault.{PickleFault}
use Rattle.nob_pickle.specs.declared.fault.PickleFault.TheVariants.{Depth}
use Rattle.nob_pickle.specs.Writing.{◌>>=◌, within}

-- the value of a step that did not fail
pub bind_ok : {A B : Type 0} (r : Result A PickleFault) (f : A → Result B PickleFault) (y : B) → (r >>= f) ≡ Ok y → (x : A) × (r ≡ Ok x) × (f x ≡ Ok y)
bind_ok (Ok x) f y e = (x, refl, e)
bind_ok (Err d) f y e = absurd cc

-- a test that did not fail
pub guard_ok : {A E : Type 0} (b : Bool) (d : E) (r : Result A E) (y : A) → cond b (Err d) r ≡ Ok y → (b ≡ false) × (r ≡ Ok y)
guard_ok true d r y e = absurd cc
guard_ok false d r y e = (refl, e)

-- a test that had to hold
pub ended_ok : {A E : Type 0} (b : Bool) (d : E) (x y : A) → cond b (Ok x) (Err d) ≡ Ok y → (b ≡ true) × (x ≡ y)
ended_ok true d x y e = (refl, cc)
ended_ok false d x y e = absurd cc

-- which of two it was
pub choice : {A E : Type 0} (b : Bool) (r s : Result A E) (y : A) → cond b r s ≡ Ok y → ((b ≡ true) × (r ≡ Ok y)) ⊎ (s ≡ Ok y)
choice true r s y e = inl (refl, e)
choice false r s y e = inr e

abbrev done : {A : Type 0} → A → Result A PickleFault
done x = Ok x

pub ok_is : {A : Type 0} (x y : A) → done x ≡ done y → x ≡ y
ok_is x y e = cc

pub within_ok : {A : Type 0} (levels : ℕ) (r : Result A PickleFault) (y : A) → within levels r ≡ Ok y → (0 < levels) × (r ≡ Ok y)
within_ok levels r y e =
    let g = guard_ok (eqb levels 0) Depth r y e in
    let above : levels ≡ 0 → ⊥ = eqb-false levels 0 g.0 in
    (grind (arith, above), g.1)

pub within_some : {A : Type 0} (levels : ℕ) (r : Result A PickleFault) → 0 < levels → within levels r ≡ r
within_some levels r h = cond-false (eqb levels 0) (Err Depth) r (ne_eqb levels 0 (λ e. omega (arith, e, h)))
