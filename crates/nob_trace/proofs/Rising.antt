-- Stamps that rise, with one more behind them.
use Prim.Native.Nat.{zero}
use Rattle.std.proofs.Common.{◌≡◌, ℕ, ◌+◌, ◌<◌, suc, List, [], ◌∷◌, ◌++◌, length, get_or, refl, ap, arith}
use Rattle.nob_trace.specs.declared.stamped.Stamped.{Stamped}
use Rattle.nob_trace.specs.Stamps.{Rise, last_stamp}

pub rise_push : (last : ℕ) (es : List Stamped) (e : Stamped) → Rise last es → last_stamp last es < e.stamp → Rise last (es ++ e ∷ [])
rise_push last [] e rise above = (above, tt)
rise_push last (x ∷ es) e rise above = (rise.0, rise_push x.stamp es e rise.1 above)

pub last_push : (last : ℕ) (es : List Stamped) (e : Stamped) → last_stamp last (es ++ e ∷ []) ≡ e.stamp
last_push last [] e = refl
last_push last (x ∷ es) e = last_push x.stamp es e

-- the last stamp is the last entry's
pub last_at : (last : ℕ) (es : List Stamped) (e d : Stamped) (i : ℕ) → i + 1 ≡ length es → e ≡ get_or es i d → e.stamp ≡ last_stamp last es
last_at last [] e d i end is = absurd (omega (arith, end))
last_at last (x ∷ []) e d zero end is = ap (λ (y : Stamped). y.stamp) is
last_at last (x ∷ []) e d (suc i) end is = absurd (omega (arith, end))
last_at last (x ∷ y ∷ es) e d zero end is = absurd (omega (arith, end))
last_at last (x ∷ y ∷ es) e d (suc i) end is = last_at x.stamp (y ∷ es) e d i (omega (arith, end)) is
