-- The last digit of a number, and those before it.
use Rattle.std.proofs.Common.{◌≡◌, ◌⊎◌, inl, inr, ℕ, ◌+◌, ◌^◌, ◌<◌, ◌≤◌, ◌/◌, ◌%◌, List, [], ◌∷◌, ◌++◌, length, false, sym, ap, ◌∙◌, arith}
use Rattle.std.specs.Prelude.{◌==◌}
use Rattle.std.specs.Fmt.{decimal}
use Rattle.std.proofs.lemmas.Fmt.{decimal_digit, decimal_step, decimal_nonempty}
use Rattle.std.proofs.lemmas.Bool.{cases_lt}
use Rattle.std.proofs.lemmas.Bool.Decides.{nat_tests}
use Rattle.nob_model_text.specs.Fronts.{HasNoMark, is_mark}
use Rattle.nob_model_text.proofs.Parting.{decimal_no_mark}
use Rattle.nob_trace.specs.Reading.{Lacks}
use Rattle.nob_trace.proofs.Sides.{last_same}

-- a text has digits
pub no_digits : (text : List ℕ) (n : ℕ) → n < 2 ^ 64 → text ≡ [] → text ≡ decimal n → ⊥
no_digits text n small empty spelt = let some = decimal_nonempty n small in let none = ap length (sym empty ∙ spelt) in omega (arith, some, none)

one_digit : (front : List ℕ) (last n : ℕ) → n < 10 → front ++ last ∷ [] ≡ decimal n → (front ≡ []) × (last ≡ 48 + n)
one_digit front last n less spelt = last_same front [] last (48 + n) (spelt ∙ decimal_digit n less)

more_digits : (front : List ℕ) (last n : ℕ) → 10 ≤ n → n < 2 ^ 64 → front ++ last ∷ [] ≡ decimal n → (front ≡ decimal (n / 10)) × (last ≡ 48 + n % 10)
more_digits front last n more small spelt = last_same front (decimal (n / 10)) last (48 + n % 10) (spelt ∙ decimal_step n more small)

by_size : (front : List ℕ) (last n : ℕ) → n < 2 ^ 64 → (n < 10) ⊎ (10 ≤ n) → front ++ last ∷ [] ≡ decimal n → last ≡ 48 + n % 10
by_size front last n small (inl less) spelt = let same = (one_digit front last n less spelt).1 in omega (arith, same, less)
by_size front last n small (inr more) spelt = (more_digits front last n more small spelt).1

pub last_digit : (text front : List ℕ) (last n : ℕ) → n < 2 ^ 64 → text ≡ front ++ last ∷ [] → text ≡ decimal n → last ≡ 48 + n % 10
last_digit text front last n small is spelt = by_size front last n small (cases_lt n 10) (sym is ∙ spelt)

pub no_front : (text front : List ℕ) (last n : ℕ) → n < 10 → text ≡ front ++ last ∷ [] → text ≡ decimal n → front ≡ []
no_front text front last n less is spelt = (one_digit front last n less (sym is ∙ spelt)).0

pub front_is : (text front : List ℕ) (last n : ℕ) → 10 ≤ n → n < 2 ^ 64 → text ≡ front ++ last ∷ [] → text ≡ decimal n → front ≡ decimal (n / 10)
front_is text front last n more small is spelt = (more_digits front last n more small (sym is ∙ spelt)).0

-- a text of these digits spells the number
pub is_digit : (text front : List ℕ) (last n : ℕ) → n < 10 → text ≡ front ++ last ∷ [] → last ≡ 48 + n % 10 → front ≡ [] → text ≡ decimal n
is_digit text front last n less is same empty =
    let digit : last ≡ 48 + n = omega (arith, same, less) in
    is ∙ ap (λ (bs : List ℕ). bs ++ last ∷ []) empty ∙ ap (λ (b : ℕ). b ∷ []) digit ∙ sym (decimal_digit n less)

pub are_digits : (text front : List ℕ) (last n : ℕ) → 10 ≤ n → n < 2 ^ 64 → text ≡ front ++ last ∷ [] → last ≡ 48 + n % 10 → front ≡ decimal (n / 10) → text ≡ decimal n
are_digits text front last n more small is same digits =
    is ∙ ap (λ (bs : List ℕ). bs ++ last ∷ []) digits ∙ ap (λ (b : ℕ). decimal (n / 10) ++ b ∷ []) same ∙ sym (decimal_step n more small)

no_space : (b : ℕ) → is_mark b ≡ false → (b == 32) ≡ false
no_space b none = grind (arith, nat_tests, none)

all_lack : (bs : List ℕ) → HasNoMark bs → Lacks 32 bs
all_lack [] none = tt
all_lack (b ∷ bs) none = (no_space b none.0, all_lack bs none.1)

-- no space stands in a number
pub lacks_space : (n : ℕ) → n < 2 ^ 64 → Lacks 32 (decimal n)
lacks_space n small = all_lack (decimal n) (decimal_no_mark n small)
