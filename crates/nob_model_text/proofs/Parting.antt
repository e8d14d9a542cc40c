-- A text is parted at its first mark, and no mark is in a number or in bytes.
use Prim.Native.Nat.{zero}
use Rattle.std.proofs.Common.{rules, Option, Some, None, Result, Ok, Err, ◌≡◌, ℕ, suc, ◌+◌, ◌^◌, ◌<◌, ◌≤◌, ◌/◌, ◌%◌, Bool, true, false, cond, List, [], ◌∷◌, ◌++◌, length, take, drop, slice_index, arith, refl, sym, ap, subst, ◌∙◌}
use Rattle.std.specs.Prelude.{◌==◌, ◌||◌, ℤ, pos, negsuc}
use Rattle.std.specs.List.{AllByRecursion}
use Rattle.std.specs.Int.{w64, cast_signed, cast_unsigned}
use Rattle.std.proofs.lemmas.Int.{to_z-of_z}
use Rattle.std.specs.Global.{Vec}
use Rattle.nob_model_text.specs.Bytes.{IsSomeOf}
use Rattle.std.specs.Int.RustNames.{FitsSigned}
use Rattle.std.specs.Fmt.{decimal, signed_decimal}
use Rattle.std.proofs.lemmas.Fmt.{decimal_by_steps}
use Rattle.std.proofs.lemmas.List.{take_at, drop_at}
use Rattle.std.proofs.lemmas.Bool.Decides.{nat_tests}
use lib.Signed.{mag}
use Rattle.hex.specs.Hex.{encode_lower, encode_with, lower_digits, IsBytes}
use Rattle.nob_model_text.specs.Fronts.{is_mark, HasNoMark, Stops, length_of_front}

-- ---- parting

length_before : (front rest : List ℕ) → HasNoMark front → Stops rest → length_of_front (front ++ rest) ≡ length front
length_before [] [] none stops = refl
length_before [] (b ∷ rest) none stops = rw stops refl
length_before (b ∷ front) rest none stops = rw none.0 (ap suc (length_before front rest none.1 stops))

-- the two parts
pub parted : (text front rest : List ℕ) (n : ℕ) → n ≡ length_of_front text → HasNoMark front → Stops rest → text ≡ front ++ rest → (take n text ≡ front) × (drop n text ≡ rest)
parted text front rest n is none stops spelt =
    let len : n ≡ length front = is ∙ ap length_of_front spelt ∙ length_before front rest none stops in (
      ap (λ (k : ℕ). take k text) len ∙ ap (take (length front)) spelt ∙ take_at front rest (length front) refl,
      ap (λ (k : ℕ). drop k text) len ∙ ap (drop (length front)) spelt ∙ drop_at front rest (length front) refl,
    )

-- ---- no marks

-- an i64 is small
pub small_signed : (z : ℤ) → FitsSigned w64 z → mag z < 2 ^ 63
small_signed z fits = grind (arith, fits)

none_behind : (front : List ℕ) (b : ℕ) → HasNoMark front → is_mark b ≡ false → HasNoMark (front ++ b ∷ [])
none_behind [] b none one = (one, tt)
none_behind (x ∷ front) b none one = (none.0, none_behind front b none.1 one)

digit_no_mark : (d : ℕ) → d < 10 → is_mark (48 + d) ≡ false
digit_no_mark d less = grind (arith, nat_tests)

-- a number has none
pub decimal_no_mark : (n : ℕ) → n < 2 ^ 64 → HasNoMark (decimal n)
decimal_no_mark n small =
    decimal_by_steps (λ (m : ℕ) (ds : List ℕ). HasNoMark ds) (λ m less. (digit_no_mark m less, tt)) (λ m ds above none. none_behind ds (48 + m % 10) none (digit_no_mark (m % 10) (omega arith))) n small

-- a signed number has none
pub signed_no_mark : (z : ℤ) → FitsSigned w64 z → HasNoMark (signed_decimal z)
signed_no_mark (pos n) fits = decimal_no_mark n (let small = small_signed (pos n) fits in omega (arith, small))
signed_no_mark (negsuc n) fits = (refl, decimal_no_mark (suc n) (let small = small_signed (negsuc n) fits in omega (arith, small)))

-- no byte of such a table is a mark, nor is what stands behind its end
table_no_mark : (table : List ℕ) (d : ℕ) → HasNoMark table → is_mark (slice_index table d) ≡ false
table_no_mark [] d none = refl
table_no_mark (b ∷ table) zero none = none.0
table_no_mark (b ∷ table) (suc d) none = table_no_mark table d none.1

digits_no_mark : HasNoMark lower_digits
digits_no_mark = search rules

-- bytes have none
pub hex_no_mark : (bytes : List ℕ) → HasNoMark (encode_lower bytes)
unfolding encode_with
hex_no_mark [] = tt
hex_no_mark (b ∷ bytes) = (table_no_mark lower_digits (b / 16) digits_no_mark, (table_no_mark lower_digits (b % 16) digits_no_mark, hex_no_mark bytes))

-- ---- results

pub same_ok : {A E : Type 0} (r : Result A E) (a b : A) → r ≡ Ok a → r ≡ Ok b → a ≡ b
same_ok r a b one other = cc

pub no_err : {A E : Type 0} (r : Result A E) (a : A) (e : E) → r ≡ Ok a → r ≡ Err e → ⊥
no_err r a e one other = cc

pub same_found : {A : Type 0} (r : Option A) (a b : A) → r ≡ Some a → r ≡ Some b → a ≡ b
same_found r a b one other = cc

pub not_none : {A : Type 0} (r : Option A) (a : A) → r ≡ None → r ≡ Some a → ⊥
not_none r a one other = cc

pub bytes_found : (r : Option (Vec ℕ)) (found : Vec ℕ) (bytes : List ℕ) → r ≡ Some found → IsSomeOf r bytes → found.items ≡ bytes
bytes_found r found bytes is some = subst (λ (o : Option (Vec ℕ)). IsSomeOf o bytes) is some

pub bytes_not_none : (r : Option (Vec ℕ)) (bytes : List ℕ) → r ≡ None → IsSomeOf r bytes → ⊥
bytes_not_none r bytes is some = subst (λ (o : Option (Vec ℕ)). IsSomeOf o bytes) is some

-- an i64 is kept as its bits
pub signed_back : (z n : ℤ) → FitsSigned w64 n → z ≡ n → cast_signed w64 (cast_unsigned w64 z) ≡ n
signed_back z n fits same = rw same (to_z-of_z w64 n fits)
