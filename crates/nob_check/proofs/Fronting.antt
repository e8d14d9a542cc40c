-- What was acted on and what was sent, passed item by item.
use Rattle.std.proofs.Common.{◌≡◌, ◌&&◌, ℕ, ◌+◌, ◌<◌, ◌≤◌, Bool, true, false, cond, List, [], ◌∷◌, ◌++◌, Option, Some, None, length, drop, get_or, map, filter, refl, sym, ap, ◌∙◌, append_assoc, append-nil}
use Rattle.std.specs.Prelude.{◌==◌}
use Rattle.std.proofs.lemmas.List.{drop_more, drop_all}
use Rattle.nob_item.specs.declared.item.Item.{Item}
use Rattle.nob_model_history.specs.Transit.{is_sent_to}
use Rattle.nob_model_history.specs.declared.transit.SentItem.{SentItem}
use Rattle.nob_model_journal.specs.Tests.{is_front, same_item}
use Rattle.nob_check_ledgers.specs.declared.lists.ActedItem.{ActedItem}
use Rattle.nob_check.specs.Checks.{is_acted_in, acted_from_by, items_to, behind}

-- ---- a list that is made of another, part by part

-- one more is passed
pub more_passed : {A B : Type 0} (F : List A → List B) (parts : (x : A) (xs : List A) → F (x ∷ xs) ≡ F (x ∷ []) ++ F xs) (xs : List A) (i : ℕ) (x : A) (now next all : List B) → i < length xs → x ≡ get_or xs i x → next ≡ now ++ F (x ∷ []) → now ++ F (drop i xs) ≡ all → next ++ F (drop (i + 1) xs) ≡ all
more_passed F parts xs i x now next all less same one so_far =
    let ahead : drop i xs ≡ x ∷ drop (i + 1) xs = drop_more xs i x less ∙ ap (λ y. y ∷ drop (i + 1) xs) (sym same) in
    ap (λ ys. ys ++ F (drop (i + 1) xs)) one
    ∙ append_assoc now (F (x ∷ [])) (F (drop (i + 1) xs))
    ∙ ap (λ ys. now ++ ys) (sym (parts x (drop (i + 1) xs)))
    ∙ ap (λ ys. now ++ F ys) (sym ahead)
    ∙ so_far

-- all are passed
pub all_passed : {A B : Type 0} (F : List A → List B) (xs : List A) (i : ℕ) (now all : List B) → length xs ≤ i → F [] ≡ [] → now ++ F (drop i xs) ≡ all → now ≡ all
all_passed F xs i now all end none so_far = sym (append-nil now) ∙ ap (λ ys. now ++ ys) (sym none) ∙ ap (λ ys. now ++ F ys) (sym (drop_all i xs end)) ∙ so_far

-- what was acted on from a space in a session
pub acted_parts : (a k : ℕ) (x : ActedItem) (xs : List ActedItem) → acted_from_by a k (x ∷ xs) ≡ acted_from_by a k (x ∷ []) ++ acted_from_by a k xs
acted_parts a k x xs =
    let pair : ActedItem → ℕ × Option Item = λ y. (y.number, y.item) in
    elim (is_acted_in a k x) as (λ b. map pair (cond b (x ∷ filter (is_acted_in a k) xs) (filter (is_acted_in a k) xs)) ≡ map pair (cond b (x ∷ []) []) ++ acted_from_by a k xs) [
      | true ↦ refl
      | false ↦ refl
    ]

-- what was sent to a space in a session
pub sent_parts : (b k : ℕ) (x : SentItem) (xs : List SentItem) → items_to b k (x ∷ xs) ≡ items_to b k (x ∷ []) ++ items_to b k xs
sent_parts b k x xs =
    let item : SentItem → Item = λ y. y.item in
    elim (is_sent_to b k x) as (λ t. map item (cond t (x ∷ filter (is_sent_to b k) xs) (filter (is_sent_to b k) xs)) ≡ map item (cond t (x ∷ []) []) ++ items_to b k xs) [
      | true ↦ refl
      | false ↦ refl
    ]

-- ---- a front, item by item

by_test : (same : Bool) (items later : List Item) (whole : Bool) → cond same (Some items) None ≡ Some later → (items ≡ later) × (same ≡ true)
by_test true items later whole is = (cc, refl)
by_test false items later whole is = absurd cc

joined : (a b c : Bool) → (a && b && c) ≡ ((a && b) && c)
joined true b c = refl
joined false b c = refl

-- where the first is the one that was acted on
pub front_more : (k : ℕ) (one : ℕ × Option Item) (acted_on : List (ℕ × Option Item)) (items later : List Item) → behind k one items ≡ Some later → is_front k (one ∷ acted_on) items ≡ is_front (k + 1) acted_on later
front_more k (number, None) acted_on items later is = absurd cc
front_more k (number, Some item) acted_on [] later is = absurd cc
front_more k (number, Some item) acted_on (sent_item ∷ items) later is =
    let parts = by_test (number == k && same_item item sent_item) items later true is in
    joined (number == k) (same_item item sent_item) (is_front (k + 1) acted_on items)
    ∙ ap (λ b. b && is_front (k + 1) acted_on items) parts.1
    ∙ ap (is_front (k + 1) acted_on) parts.0

no_test : (same : Bool) (items : List Item) (whole : Bool) → cond same (Some items) None ≡ None → (same && whole) ≡ false
no_test true items whole is = absurd cc
no_test false items whole is = refl

-- where it isn't
pub front_ends : (k : ℕ) (one : ℕ × Option Item) (acted_on : List (ℕ × Option Item)) (items : List Item) → behind k one items ≡ None → is_front k (one ∷ acted_on) items ≡ false
front_ends k (number, None) acted_on items is = refl
front_ends k (number, Some item) acted_on [] is = refl
front_ends k (number, Some item) acted_on (sent_item ∷ items) is =
    joined (number == k) (same_item item sent_item) (is_front (k + 1) acted_on items)
    ∙ no_test (number == k && same_item item sent_item) items (is_front (k + 1) acted_on items) is
