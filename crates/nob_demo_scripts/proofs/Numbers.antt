-- The numbers of frames, one after the other.
use Rattle.std.proofs.Common.{◌≡◌, ℕ, suc, ◌+◌, ◌-◌, ◌<◌, List, ◌∷◌, ◌++◌, arith, ap, sym, ◌∙◌, append_assoc}
use Rattle.std.specs.Fmt.{decimal}
use Rattle.nob_demo_scripts.specs.Run.{numbers_text}

-- one number more
pub one_more : (text new : List ℕ) (before count i : ℕ) (all : List ℕ) → i < count → new ≡ text ++ 32 ∷ decimal (before + i + 1)
    → text ++ numbers_text (before + i + 1) (count - i) ≡ all → new ++ numbers_text (before + (i + 1) + 1) (count - (i + 1)) ≡ all
one_more text new before count i all less is so_far =
    let k : count - i ≡ suc (count - (i + 1)) = omega arith in
    let n : before + (i + 1) + 1 ≡ before + i + 1 + 1 = omega arith in
    ap (λ (xs : List ℕ). xs ++ numbers_text (before + (i + 1) + 1) (count - (i + 1))) is
    ∙ append_assoc text (32 ∷ decimal (before + i + 1)) (numbers_text (before + (i + 1) + 1) (count - (i + 1)))
    ∙ ap (λ (m : ℕ). text ++ ((32 ∷ decimal (before + i + 1)) ++ numbers_text m (count - (i + 1)))) n
    ∙ ap (λ (m : ℕ). text ++ numbers_text (before + i + 1) m) (sym k)
    ∙ so_far
