-- Lists of slices, as the lists that they point to.
use Rattle.std.proofs.Common.{◌≡◌, ◌≤◌, ℕ, List, [], length, drop, take, sym, subst, Bor}
use Rattle.std.specs.List.{drop-map, take-map}
use Rattle.std.proofs.lemmas.List.{length-map, drop_all, take_all}
use Rattle.nob_model_session.specs.Texts.{texts}

-- what is left of the slices points to what is left of the lists
pub drop_texts : (count : ℕ) (slices : List (Bor (List ℕ))) → texts (drop count slices) ≡ drop count (texts slices)
drop_texts count slices = sym (drop-map (λ (s : Bor (List ℕ)). s.now) count slices)

-- nothing is left of no more than so many
pub none_left : (count : ℕ) (slices : List (Bor (List ℕ))) → length slices ≤ count → [] ≡ drop count (texts slices)
none_left count slices few = sym (drop_all count (texts slices) (subst (λ (n : ℕ). n ≤ count) (sym (length-map slices (λ (s : Bor (List ℕ)). s.now))) few))

-- the first of the slices point to the first of the lists
pub take_texts : (count : ℕ) (slices : List (Bor (List ℕ))) → texts (take count slices) ≡ take count (texts slices)
take_texts count slices = sym (take-map (λ (s : Bor (List ℕ)). s.now) count slices)

-- all of no more than so many
pub all_taken : (count : ℕ) (slices : List (Bor (List ℕ))) → length slices ≤ count → texts slices ≡ take count (texts slices)
all_taken count slices few = sym (take_all count (texts slices) (subst (λ (n : ℕ). n ≤ count) (sym (length-map slices (λ (s : Bor (List ℕ)). s.now))) few))
