-- The numbers of frames, one after the other.
use Rattle.std.proofs.Common.{◌≡◌, ℕ, ◌+◌, ◌<◌, List, ◌∷◌, ◌++◌, length, drop, get_or, sym, ap, arith, ◌∙◌, append_assoc}
use Rattle.std.specs.Fmt.{decimal}
use Rattle.nob_frame.specs.declared.frame.Frame.{Frame}
use Rattle.nob_model_text.proofs.Ahead.{first_ahead}
use Rattle.nob_script_text.specs.Worlds.{numbers_text}

-- one more number is written
pub number_next : (before : ℕ) (fs : List Frame) (i : ℕ) (f : Frame) (now next all : List ℕ) → i < length fs → f ≡ get_or fs i f → next ≡ now ++ 32 ∷ decimal (before + i + 1) → now ++ numbers_text (before + i) (drop i fs) ≡ all → next ++ numbers_text (before + (i + 1)) (drop (i + 1) fs) ≡ all
number_next before fs i f now next all less same one so_far =
    let count : before + (i + 1) ≡ before + i + 1 = omega arith in
    let left : List ℕ = numbers_text (before + i + 1) (drop (i + 1) fs) in
    ap (λ (n : ℕ). next ++ numbers_text n (drop (i + 1) fs)) count ∙ ap (λ (bs : List ℕ). bs ++ left) one ∙ append_assoc now (32 ∷ decimal (before + i + 1)) left
    ∙ ap (λ (gs : List Frame). now ++ numbers_text (before + i) gs) (sym (first_ahead fs i f less same)) ∙ so_far
