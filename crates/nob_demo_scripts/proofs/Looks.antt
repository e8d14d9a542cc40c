-- A look at the front, and the front.
use Rattle.std.proofs.Common.{◌≡◌, ℕ, ◌+◌, Option, List, [], ◌∷◌, Some, None, refl}
use Rattle.nob_ids.specs.declared.limits.Limits.{Limits}
use Rattle.nob_model_session.specs.declared.entry.EndEntry.{EndEntry}
use Rattle.nob_model_session.specs.declared.entry.EndEntry.TheVariants.{Front}
use Rattle.nob_model_session.specs.End.{accepted_count, reach}
use Rattle.nob_model_session.specs.Right.{first_of}
use Rattle.nob_session.specs.Stands.{End, Stands}
use Rattle.nob_session.proofs.Kept.{same_places}
use Rattle.nob_demo_scripts.specs.declared.answer.Answer.{Answer}
use Rattle.nob_demo_scripts.specs.declared.answer.Answer.TheVariants as answer
use Rattle.nob_demo_scripts.specs.Fronts.{is_front}

pub front_none : (n : ℕ) (xs : List (List ℕ)) → is_front n xs ≡ None → first_of n xs ≡ None
front_none n [] e = refl
front_none n (x ∷ xs) e = absurd cc

pub front_some : (n : ℕ) (xs : List (List ℕ)) (a : Answer) → is_front n xs ≡ Some a → (item : List ℕ) × (first_of n xs ≡ Some (n, item)) × (a ≡ answer.Got n item)
front_some n [] a e = absurd cc
front_some n (x ∷ xs) a e = (x, refl, cc)

-- an end stands for the same calls with a look more
pub stands_look : (me peer : ℕ) (limits : Limits) (answer : Option (ℕ × List ℕ)) (e : End) (L : List EndEntry) → Stands me peer limits e L → Stands me peer limits e (Front answer ∷ L)
stands_look me peer limits answer e L st = rw (same_places (accepted_count L + 1) reach (Front answer ∷ L) L (λ m. refl)) st
