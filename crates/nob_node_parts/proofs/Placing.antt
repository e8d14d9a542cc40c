-- A place on a shelf that was just given: it is there, and a place that is given anew takes its stand.
use Rattle.std.proofs.Common.{◌≡◌, ℕ, List, [], ◌∷◌, Some, Ordering, refl, ap}
use Rattle.std.proofs.lemmas.Cmp.{nat_cmp_total, tied_itself}
use Rattle.std.proofs.Common.{Less, Equal, Greater}
use Rattle.std.specs.Ordering.{nat_cmp, is_eq, match_ordering}
use Rattle.std.specs.Map.{lookup}
use Rattle.std.specs.BTreeMap.{insert_entry}

-- the place that an index was given is its place
pub place_given : {X : Type 0} (index : ℕ) (place : X) (shelf : List (ℕ × X)) → lookup (λ other. is_eq (nat_cmp index other)) (insert_entry nat_cmp shelf index place) ≡ Some place
place_given index place [] = rw (tied_itself nat_cmp_total index) refl
place_given {X = X} index place (first ∷ rest) = by (nat_cmp index first.0) refl (place_given index place rest)
  where
    by : (r : Ordering) → nat_cmp index first.0 ≡ r → lookup (λ other. is_eq (nat_cmp index other)) (insert_entry nat_cmp rest index place) ≡ Some place → lookup (λ other. is_eq (nat_cmp index other)) (match_ordering r ((index, place) ∷ first ∷ rest) ((first.0, place) ∷ rest) (first ∷ insert_entry nat_cmp rest index place)) ≡ Some place
    by Less is later = rw (tied_itself nat_cmp_total index) refl
    by Equal is later = rw (is) refl
    by Greater is later = rw (is) later

-- of two places that an index was given the last one stands
pub last_given : {X : Type 0} (index : ℕ) (place last : X) (shelf : List (ℕ × X)) → insert_entry nat_cmp (insert_entry nat_cmp shelf index place) index last ≡ insert_entry nat_cmp shelf index last
last_given index place last [] = rw (tied_itself nat_cmp_total index) refl
last_given {X = X} index place last (first ∷ rest) = by (nat_cmp index first.0) refl (last_given index place last rest)
  where
    by : (r : Ordering) → nat_cmp index first.0 ≡ r → insert_entry nat_cmp (insert_entry nat_cmp rest index place) index last ≡ insert_entry nat_cmp rest index last → insert_entry nat_cmp (match_ordering r ((index, place) ∷ first ∷ rest) ((first.0, place) ∷ rest) (first ∷ insert_entry nat_cmp rest index place)) index last ≡ match_ordering r ((index, last) ∷ first ∷ rest) ((first.0, last) ∷ rest) (first ∷ insert_entry nat_cmp rest index last)
    by Less is later = rw (tied_itself nat_cmp_total index) refl
    by Equal is later = rw (is) refl
    by Greater is later = rw (is) (ap (λ (s : List (ℕ × X)). first ∷ s) later)
