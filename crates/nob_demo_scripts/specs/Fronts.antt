-- The answer that a look at the front of an end makes.
use Rattle.std.specs.Prelude.{◌≡◌, ℕ, ◌+◌, List, [], ◌∷◌, Option, Some, None}
use Rattle.nob_session.specs.Stands.{End}
use Rattle.nob_demo_scripts.specs.declared.answer.Answer.{Answer}
use Rattle.nob_demo_scripts.specs.declared.answer.Answer.TheVariants as answer

-- the item of this number, if it is there
abbrev pub is_front : ℕ → List (List ℕ) → Option Answer
is_front n [] = None
is_front n (item ∷ items) = Some (answer.Got n item)

-- the first item that waits at an end
abbrev pub IsFront : Option Answer → End → Type 0
IsFront front e = front ≡ is_front (e.taken + 1) e.waiting
