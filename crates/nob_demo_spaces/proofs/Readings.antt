-- What the typed getters make of an option's text.
use Rattle.std.proofs.Common.{◌≡◌, ◌∙◌, ◌<◌, ◌^◌, ℕ, Bool, true, false, Option, Some, None, Result, codes, refl, sym, ap, subst, arith}
use Rattle.std.specs.Prelude.{unwrap_or}
use Rattle.std.specs.Str.{bytes_eq}
use Rattle.std.specs.Str.Parse.{ParsesUnsigned, ExplainsUnsignedError, HasUnsignedDigitsIfOk, ParsesBool, digits_value, without_leading_plus}
use Rattle.std.specs.declared.str.ParseBoolError.{ParseBoolError}
use Rattle.std.specs.declared.num.ParseIntError.{ParseIntError}
use Rattle.std.proofs.lemmas.Slice.Eq.{bytes_eq-Decides}
use Rattle.clap.specs.Words.{ReadsOne, Text, one_of, one_text, rows_of}
use Rattle.clap.specs.declared.parser.matches.Found.{Found}
use Rattle.clap.proofs.WalkLemmas.{one_text-rows}
use Rattle.nob_demo_spaces.specs.Options.{number_said, number_if, is_said, IsWithin}
use Rattle.nob_demo_spaces.specs.Scenes.{IsBetween}

-- what std's parse of a number of k bits gives
abbrev pub Gives : ℕ → Text → Result ℕ ParseIntError → Type 0
Gives k t r = ParsesUnsigned k 10 t r × ExplainsUnsignedError 10 t r × HasUnsignedDigitsIfOk t r

module _ (k lowest highest default : ℕ) (wide : highest < 2 ^ k) where
  read : (text : Option Text) (r : Option ℕ) → IsWithin lowest highest text → (text ≡ None → r ≡ None) → ((t : Text) → text ≡ Some t → ReadsOne (Gives k) t r)
      → unwrap_or r default ≡ number_said default text
  read None r within none value = rw (none refl) refl
  read (Some t) r within none value = go r (value t refl)
    where
      go : (r : Option ℕ) → ReadsOne (Gives k) t r → unwrap_or r default ≡ digits_value 10 (without_leading_plus t)
      go (Some v) h = h.0.1
      go None h = absurd (h.1.0 (within.0, omega (arith, within.3)))

  number_read : (f : Found) (name : Text) (r : Option ℕ) → IsWithin lowest highest (one_of name (rows_of f)) → (one_text f name ≡ None → r ≡ None)
      → ((t : Text) → one_text f name ≡ Some t → ReadsOne (Gives k) t r)
      → unwrap_or r default ≡ number_said default (one_of name (rows_of f))
  number_read f name r within none value = read _ r within (λ e. none (one_text-rows f name ∙ e)) (λ t e. value t (one_text-rows f name ∙ e))

  -- it is in range, as its default is
  between : (text : Option Text) → IsWithin lowest highest text → IsBetween lowest highest default → IsBetween lowest highest (number_said default text)
  between None within here = here
  between (Some t) within here = (within.2, within.3)

  pub number_got : (f : Found) (name : Text) (r : Option ℕ) (n : ℕ) → n ≡ unwrap_or r default → IsWithin lowest highest (one_of name (rows_of f)) → IsBetween lowest highest default
      → (one_text f name ≡ None → r ≡ None) → ((t : Text) → one_text f name ≡ Some t → ReadsOne (Gives k) t r)
      → (n ≡ number_said default (one_of name (rows_of f))) × IsBetween lowest highest n
  number_got f name r n is within here none value =
      let said : n ≡ number_said default (one_of name (rows_of f)) = is ∙ number_read f name r within none value in
      (said, subst (IsBetween lowest highest) (sym said) (between _ within here))

  -- it is there where its text is
  pub number_there : (f : Found) (name : Text) (r : Option ℕ) → IsWithin lowest highest (one_of name (rows_of f)) → (one_text f name ≡ None → r ≡ None)
      → ((t : Text) → one_text f name ≡ Some t → ReadsOne (Gives k) t r)
      → r ≡ number_if (one_of name (rows_of f))
  number_there f name r within none value = by (one_of name (rows_of f)) r within (λ e. none (one_text-rows f name ∙ e)) (λ t e. value t (one_text-rows f name ∙ e))
    where
      by : (text : Option Text) (r : Option ℕ) → IsWithin lowest highest text → (text ≡ None → r ≡ None) → ((t : Text) → text ≡ Some t → ReadsOne (Gives k) t r) → r ≡ number_if text
      by None r within none value = none refl
      by (Some t) r within none value = go r (value t refl)
        where
          go : (r : Option ℕ) → ReadsOne (Gives k) t r → r ≡ Some (digits_value 10 (without_leading_plus t))
          go (Some v) h = ap Some h.0.1
          go None h = absurd (h.1.0 (within.0, omega (arith, within.3)))

told : (text : Option Text) (r : Option Bool) → (text ≡ None → r ≡ None) → ((t : Text) → text ≡ Some t → ReadsOne {T = Bool} {E = ParseBoolError} ParsesBool t r)
    → unwrap_or r false ≡ is_said text
told None r none value = rw (none refl) refl
told (Some t) r none value = go r (value t refl)
  where
    go : (r : Option Bool) → ReadsOne {T = Bool} {E = ParseBoolError} ParsesBool t r → unwrap_or r false ≡ bytes_eq t (codes "true")
    go (Some true) h = rw h refl
    go (Some false) h = rw h refl
    go None h = refused (bytes_eq t (codes "true")) refl
      where
        refused : (b : Bool) → bytes_eq t (codes "true") ≡ b → false ≡ b
        refused false e = refl
        refused true e = absurd (h.1.0 ((bytes_eq-Decides t (codes "true")).0 e))

pub flag_read : (f : Found) (name : Text) (r : Option Bool) → (one_text f name ≡ None → r ≡ None)
    → ((t : Text) → one_text f name ≡ Some t → ReadsOne {T = Bool} {E = ParseBoolError} ParsesBool t r)
    → unwrap_or r false ≡ is_said (one_of name (rows_of f))
flag_read f name r none value = told _ r (λ e. none (one_text-rows f name ∙ e)) (λ t e. value t (one_text-rows f name ∙ e))
