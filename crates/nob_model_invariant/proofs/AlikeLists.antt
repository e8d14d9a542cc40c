-- Lists that are made by two functions that agree on all elements.
use Rattle.std.proofs.Common.{◌≡◌, ◌||◌, Bool, cond, List, [], ◌∷◌, map, filter, refl, ap, ◌∙◌}
use Rattle.std.specs.List.{AllByRecursion, list_any}

pub map_same : {X Y : Type 0} (f g : X → Y) → ((x : X) → f x ≡ g x) → (xs : List X) → map f xs ≡ map g xs
map_same f g same [] = refl
map_same f g same (x ∷ xs) = ap (λ y. y ∷ map f xs) (same x) ∙ ap (λ ys. g x ∷ ys) (map_same f g same xs)

module _ {X : Type 0} (P : X → Type 0) where
  pub map_alike : {Y : Type 0} (f g : X → Y) → ((x : X) → P x → f x ≡ g x) → (xs : List X) → AllByRecursion P xs → map f xs ≡ map g xs
  map_alike f g same [] all = refl
  map_alike f g same (x ∷ xs) all = ap (λ y. y ∷ map f xs) (same x all.0) ∙ ap (λ ys. g x ∷ ys) (map_alike f g same xs all.1)

  pub any_alike : (f g : X → Bool) → ((x : X) → P x → f x ≡ g x) → (xs : List X) → AllByRecursion P xs → list_any f xs ≡ list_any g xs
  any_alike f g same [] all = refl
  any_alike f g same (x ∷ xs) all = ap (λ b. b || list_any f xs) (same x all.0) ∙ ap (λ b. g x || b) (any_alike f g same xs all.1)

  pub filter_alike : (f g : X → Bool) → ((x : X) → P x → f x ≡ g x) → (xs : List X) → AllByRecursion P xs → filter f xs ≡ filter g xs
  filter_alike f g same [] all = refl
  filter_alike f g same (x ∷ xs) all = ap (λ b. cond b (x ∷ filter f xs) (filter f xs)) (same x all.0) ∙ ap (λ ys. cond (g x) (x ∷ ys) ys) (filter_alike f g same xs all.1)
