-- The frames that a transmit gives: the highest number among them, and how many they are.
use Rattle.std.proofs.Common.{◌≡◌, ℕ, suc, ◌+◌, ◌-◌, ◌<◌, ◌≤◌, max, if◌then◌else◌, Bool, true, false, List, [], ◌∷◌, length, drop, arith, refl, ap, sym, ◌∙◌}
use Rattle.std.proofs.lemmas.List.{length-drop}
use Rattle.nob_model_session.specs.End.{greatest_seq}
use Rattle.nob_model_session.specs.Right.{data_frames, open_frames}
use Rattle.std.proofs.lemmas.Bool.Decides.{nat_tests}
use Rattle.nob_session.specs.Dues.{due_of, due_up_to}
use Rattle.nob_session.specs.declared.due.Due.TheVariants.{New, Again}

-- the last of the frames has the greatest number
greatest_of : (me peer session ack n : ℕ) (payloads : List (List ℕ)) → 0 < length payloads → greatest_seq (data_frames me peer session ack n payloads) + 1 ≡ n + length payloads
greatest_of me peer session ack n [] some = absurd (omega (arith, some))
greatest_of me peer session ack n (payload ∷ []) some = omega arith
greatest_of me peer session ack n (payload ∷ next ∷ others) some = omega (arith, greatest_of me peer session ack (n + 1) (next ∷ others) (omega arith))

greatest_new : (me peer session ack n t count : ℕ) (new : List (List ℕ)) → length new ≡ count - (t - n) → max t (max n (greatest_seq (data_frames me peer session ack (max n t + 1) new))) ≡ max t (n + count)
greatest_new me peer session ack n t count [] len = omega (arith, len)
greatest_new me peer session ack n t count (payload ∷ payloads) len = omega (arith, len, greatest_of me peer session ack (max n t + 1) (payload ∷ payloads) (omega arith))

-- with the highest number that was given before, that of the lowest item and of the new ones behind it is that of the last in the window
greatest_open : (me peer session ack n t : ℕ) (due : Bool) (payload : List ℕ) (payloads : List (List ℕ)) → max t (greatest_seq (open_frames me peer session ack n t due (payload ∷ payloads))) ≡ max t (n + length payloads)
greatest_open me peer session ack n t due payload payloads = greatest_new me peer session ack n t (length payloads) (drop (t - n) payloads) (length-drop (t - n) payloads)

-- the highest number that is transmitted once so many payloads are in the window
pub highest_given : (me peer session ack n t count : ℕ) (due : Bool) (payloads : List (List ℕ)) → length payloads ≡ count → 1 ≤ n → n ≤ t + 1 → max t (n - 1 + count) ≡ max t (greatest_seq (open_frames me peer session ack n t due payloads))
highest_given me peer session ack n t count true [] same low out = omega (arith, same)
highest_given me peer session ack n t count false [] same low out = omega (arith, same)
highest_given me peer session ack n t count due (payload ∷ payloads) same low out =
    let last : n - 1 + count ≡ n + length payloads = omega (arith, same, low) in
    ap (max t) last ∙ sym (greatest_open me peer session ack n t due payload payloads)

-- items are new by how they compare with the highest number that was given before
due_by_greatest : (t last greatest : ℕ) → max t last ≡ max t greatest → due_up_to t last ≡ due_up_to t greatest
due_by_greatest t last greatest same = ap (λ (b : Bool). if b then New else Again) (grind (arith, nat_tests, same))

-- what is due where so many payloads are in the window: the last of them is behind the first by the number of the others
pub due_of_some : (me peer session ack n t count : ℕ) (due : Bool) (payloads : List (List ℕ)) → length payloads ≡ count → 0 < count → due_up_to t (n + (count - 1)) ≡ due_of t (open_frames me peer session ack n t due payloads)
due_of_some me peer session ack n t count due [] same some = absurd (omega (arith, same, some))
due_of_some me peer session ack n t count due (payload ∷ payloads) same some =
    let last : n + (count - 1) ≡ n + length payloads = omega (arith, same) in
    due_by_greatest t (n + (count - 1)) (greatest_seq (open_frames me peer session ack n t due (payload ∷ payloads))) (ap (max t) last ∙ sym (greatest_open me peer session ack n t due payload payloads))

-- a Data frame for each payload
frames_of_payloads : (me peer session ack n : ℕ) (payloads : List (List ℕ)) → length (data_frames me peer session ack n payloads) ≡ length payloads
frames_of_payloads me peer session ack n [] = refl
frames_of_payloads me peer session ack n (payload ∷ payloads) = ap suc (frames_of_payloads me peer session ack (n + 1) payloads)

-- no more frames than payloads in the window
pub few_given : (me peer session ack n t count : ℕ) (due : Bool) (payloads : List (List ℕ)) → length payloads ≡ count → 0 < count → length (open_frames me peer session ack n t due payloads) ≤ count
few_given me peer session ack n t count due [] same some = absurd (omega (arith, same, some))
few_given me peer session ack n t count due (payload ∷ payloads) same some =
    let new = drop (t - n) payloads in
    let each = frames_of_payloads me peer session ack (max n t + 1) new in
    let left = length-drop (t - n) payloads in
    omega (arith, same, each, left)
