-- A place on a shelf that was just given: it is there, a place that is given anew takes its stand, and an object that is put back is where it was.
use Rattle.std.proofs.Common.{◌≡◌, ℕ, List, [], ◌∷◌, Option, Some, Ordering, Less, Equal, Greater, cond, refl, ap, sym, subst, ◌∙◌}
use Rattle.std.proofs.lemmas.Cmp.{nat_cmp_total, tied_itself, ranked}
use Rattle.std.specs.Ordering.{nat_cmp, is_eq, match_ordering}
use Rattle.std.specs.Map.{lookup}
use Rattle.std.specs.BTreeMap.{insert_entry}
use Rattle.nob_dispatch.specs.Shelves.{place_of, with_place}
use Rattle.nob_dispatch.specs.declared.shelf.Place.{Place}
use Rattle.nob_dispatch.specs.declared.shelf.Place.TheVariants.{Here, Away}

-- the place that an index was given is its place
pub place_given : {X : Type 0} (index : ℕ) (place : X) (shelf : List (ℕ × X)) → lookup (λ other. is_eq (nat_cmp index other)) (insert_entry nat_cmp shelf index place) ≡ Some place
place_given index place [] = rw (tied_itself nat_cmp_total index) refl
place_given {X = X} index place (first ∷ rest) = by (nat_cmp index first.0) refl (place_given index place rest)
  where
    by : (r : Ordering) → nat_cmp index first.0 ≡ r → lookup (λ other. is_eq (nat_cmp index other)) (insert_entry nat_cmp rest index place) ≡ Some place → lookup (λ other. is_eq (nat_cmp index other)) (match_ordering r ((index, place) ∷ first ∷ rest) ((first.0, place) ∷ rest) (first ∷ insert_entry nat_cmp rest index place)) ≡ Some place
    by Less is later = rw (tied_itself nat_cmp_total index) refl
    by Equal is later = rw (is) refl
    by Greater is later = rw (is) later

-- of two places that an index was given the last one stands
pub last_given : {X : Type 0} (index : ℕ) (place last : X) (shelf : List (ℕ × X)) → insert_entry nat_cmp (insert_entry nat_cmp shelf index place) index last ≡ insert_entry nat_cmp shelf index last
last_given index place last [] = rw (tied_itself nat_cmp_total index) refl
last_given {X = X} index place last (first ∷ rest) = by (nat_cmp index first.0) refl (last_given index place last rest)
  where
    by : (r : Ordering) → nat_cmp index first.0 ≡ r → insert_entry nat_cmp (insert_entry nat_cmp rest index place) index last ≡ insert_entry nat_cmp rest index last → insert_entry nat_cmp (match_ordering r ((index, place) ∷ first ∷ rest) ((first.0, place) ∷ rest) (first ∷ insert_entry nat_cmp rest index place)) index last ≡ match_ordering r ((index, last) ∷ first ∷ rest) ((first.0, last) ∷ rest) (first ∷ insert_entry nat_cmp rest index last)
    by Less is later = rw (tied_itself nat_cmp_total index) refl
    by Equal is later = rw (is) refl
    by Greater is later = rw (is) (ap (λ (s : List (ℕ × X)). first ∷ s) later)

-- where an index is given the place that it has, each has the place that it had
same_places : {X : Type 0} (index : ℕ) (place : X) (shelf : List (ℕ × X)) (other : ℕ) → lookup (λ q. is_eq (nat_cmp index q)) shelf ≡ Some place → lookup (λ q. is_eq (nat_cmp other q)) (insert_entry nat_cmp shelf index place) ≡ lookup (λ q. is_eq (nat_cmp other q)) shelf
same_places index place [] other has = absurd cc
same_places {X = X} index place (first ∷ rest) other has = by (nat_cmp index first.0) refl has (same_places index place rest other)
  where
    at : ℕ → List (ℕ × X) → Option X
    at i s = lookup (λ q. is_eq (nat_cmp i q)) s

    of : (r : Ordering) → nat_cmp other index ≡ r → at index (first ∷ rest) ≡ Some place → cond (is_eq r) (Some place) (at other (first ∷ rest)) ≡ at other (first ∷ rest)
    of Less is had = refl
    of Equal is had = sym (subst (λ (i : ℕ). at i (first ∷ rest) ≡ Some place) (sym (ranked other index Equal (sym is))) had)
    of Greater is had = refl

    by : (r : Ordering) → nat_cmp index first.0 ≡ r → cond (is_eq r) (Some first.1) (at index rest) ≡ Some place → (at index rest ≡ Some place → at other (insert_entry nat_cmp rest index place) ≡ at other rest) → at other (match_ordering r ((index, place) ∷ first ∷ rest) ((first.0, place) ∷ rest) (first ∷ insert_entry nat_cmp rest index place)) ≡ at other (first ∷ rest)
    by Less is had later = of (nat_cmp other index) refl (rw (is) had)
    by Equal is had later = ap (λ (p : Option X). cond (is_eq (nat_cmp other first.0)) p (at other rest)) (sym had)
    by Greater is had later = ap (λ (p : Option X). cond (is_eq (nat_cmp other first.0)) (Some first.1) p) (later had)

-- an object that was taken away and is put back: each index has the place that it had
pub put_back : {O : Type 0} (index : ℕ) (object : O) (before between after : List (ℕ × Place O)) → place_of index before ≡ Some (Here object) → between ≡ with_place index Away before → (place_of index between ≡ Some Away → after ≡ with_place index (Here object) between) → (other : ℕ) → place_of other after ≡ place_of other before
put_back {O} index object before between after was taken put other =
    let down : after ≡ with_place index (Here object) between = put (ap (place_of index) taken ∙ place_given index Away before) in
    let again = ap (λ (s : List (ℕ × Place O)). with_place index (Here object) s) taken ∙ last_given index Away (Here object) before in
    ap (place_of other) (down ∙ again) ∙ same_places index (Here object) before other was
