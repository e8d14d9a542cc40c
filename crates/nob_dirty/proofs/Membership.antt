-- Where no listing has an index, no client is listed there, and the other way round.
use Rattle.std.proofs.Common.{◌≡◌, ◌↔◌, ℕ, ◌==◌, ◌&&◌, ◌||◌, not, true, false, List, [], ◌∷◌, refl, sym, ◌∙◌}
use mathlib.Core.Bool.{true≢false}
use Rattle.std.proofs.lemmas.Cmp.{nat_eq_equiv}
use Rattle.std.specs.List.{list_any}
use Rattle.nob_dirty.specs.declared.sets.Listing.{Listing}
use Rattle.nob_dirty.specs.Sets.{has_index, lists, IsEmptyAt}

-- where no listing has the index no client is listed there
none_there : (index : ℕ) (set : List Listing) → list_any (has_index index) set ≡ false → IsEmptyAt set index
none_there index [] none client = refl
none_there index (l ∷ set) none client =
    elim (l.index == index) as (λ b. (b || list_any (has_index index) set) ≡ false → ((b && l.client == client) || lists set index client) ≡ false) [
      | true ↦ λ t. absurd (true≢false t)
      | false ↦ λ rest. none_there index set rest client
    ] none

-- where one has, one client is
some_there : (index : ℕ) (set : List Listing) → list_any (has_index index) set ≡ true → (client : ℕ) × (lists set index client ≡ true)
some_there index [] some = absurd (true≢false (sym some))
some_there index (l ∷ set) some =
    elim (l.index == index) as (λ b. (b || list_any (has_index index) set) ≡ true → (client : ℕ) × (((b && l.client == client) || lists set index client) ≡ true)) [
      | true ↦ λ _. (l.client, rw (nat_eq_equiv.refl l.client) refl)
      | false ↦ λ rest. let found = some_there index set rest in
          (found.0, elim (l.index == index && l.client == found.0) as (λ b. lists set index found.0 ≡ true → lists set index found.0 ≡ true) [ true ↦ λ h. h | false ↦ λ h. h ] found.1)
    ] some

pub empty_there : (index : ℕ) (set : List Listing) → (not (list_any (has_index index) set) ≡ true) ↔ IsEmptyAt set index
empty_there index set = (
  λ none. none_there index set (elim (list_any (has_index index) set) as (λ b. not b ≡ true → b ≡ false) [ true ↦ λ t. absurd (true≢false (sym t)) | false ↦ λ _. refl ] none),
  λ empty. elim (list_any (has_index index) set) as (λ b. list_any (has_index index) set ≡ b → not b ≡ true) [
    | true ↦ λ some. let found = some_there index set some in absurd (true≢false (sym found.1 ∙ empty found.0))
    | false ↦ λ _. refl
  ] refl,
)
