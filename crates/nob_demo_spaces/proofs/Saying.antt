-- What a word more makes of what was said.
use Rattle.std.proofs.Common.{◌≡◌, ◌∙◌, ◌+◌, ◌<◌, ℕ, Bool, true, false, List, ◌∷◌, length, drop, get_or, map, codes, sym, ap}
use Rattle.std.specs.Prelude.{if◌then◌else◌}
use Rattle.std.specs.Str.{bytes_eq}
use Rattle.std.proofs.lemmas.List.{at_drop_more}
use Rattle.nob_demo_spaces.specs.Words.{say_nothing, says_nothing}

module _ {X : Type 0} (text : X → List ℕ) (words : List X) (i : ℕ) (word : X) (after_keep : Bool) (below : i < length words) (is : word ≡ get_or words i word) where
  abbrev rest : Bool
  rest = say_nothing (bytes_eq (text word) (codes "--keep")) (map text (drop (i + 1) words))

  one_more : say_nothing after_keep (map text (drop i words)) ≡ (if says_nothing after_keep (text word) then true else rest)
  one_more =
      at_drop_more (λ (words : List X). say_nothing after_keep (map text words)) words i word below
      ∙ ap (λ (first : X). say_nothing after_keep (map text (first ∷ drop (i + 1) words))) (sym is)

  pub goes_on : says_nothing after_keep (text word) ≡ false → rest ≡ say_nothing after_keep (map text (drop i words))
  goes_on unsaid = sym (one_more ∙ ap (λ (b : Bool). if b then true else rest) unsaid)

  pub says_so : says_nothing after_keep (text word) ≡ true → true ≡ say_nothing after_keep (map text (drop i words))
  says_so said = sym (one_more ∙ ap (λ (b : Bool). if b then true else rest) said)
