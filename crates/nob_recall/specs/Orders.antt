-- What was passed, beside the next entries: in the order of stamps, ties by space. The first stands first.
use Rattle.std.specs.Prelude.{◌≡◌, ◌≤◌, ⊤, ℕ, Bool, true, false, List, [], ◌∷◌, slice_get, Option, Some, None}
use Rattle.std.specs.List.{AllByRecursion}
use Rattle.nob_model_traces.specs.Merged.{is_earlier}
use Rattle.nob_recall.specs.declared.dated.Dated.{Dated}
use Rattle.nob_recall.specs.declared.head.Upcoming.{Upcoming}
use Rattle.nob_recall.specs.Dues.{dated_moment}

-- each entry is earlier than all that stand behind it
abbrev pub InOrder : List Dated → Type 0
InOrder [] = ⊤
InOrder (one ∷ others) = AllByRecursion (λ other. is_earlier (dated_moment one) (dated_moment other) ≡ true) others × InOrder others

-- all that was passed is earlier than the next entry of a space, which is the last one that was told of it; or no later than the last one that was told, where more may come
abbrev pub IsAheadBy : List Dated → Option Dated → ℕ → Bool → Type 0
IsAheadBy passed (Some next) last ended = (next.stamp ≡ last) × AllByRecursion (λ dated. is_earlier (dated_moment dated) (dated_moment next) ≡ true) passed
IsAheadBy passed None last true = ⊤
IsAheadBy passed None last false = AllByRecursion (λ dated. dated.stamp ≤ last) passed

-- the same of what is known of a space
abbrev pub IsAhead : List Dated → Upcoming → Type 0
IsAhead passed head = IsAheadBy passed head.next head.last head.ended

-- the same of each space
abbrev pub AreAhead : List Dated → List Upcoming → Type 0
AreAhead passed heads = (place : ℕ) (head : Upcoming) → slice_get heads place ≡ Some head → IsAhead passed head
