-- What was let go of a list.
use Rattle.std.specs.Prelude.{◌<◌, ◌++◌, ◌∷◌, List, [], length}
use Rattle.nob_past.specs.declared.past.Link.{Link}
use Rattle.nob_past.specs.declared.past.Link.TheVariants as links

-- the items that were let go
abbrev pub items : {T : Type 0} → Link T → List T
items links.Nothing = []
items (links.List earlier) = earlier.value.items
items (links.Item earlier one) = earlier.value.items ++ one.value ∷ []

-- where a list was let go, items are there behind it
abbrev pub IsFollowed : {T : Type 0} → Link T → List T → Type 0
IsFollowed links.Nothing kept = Unit {0}
IsFollowed (links.List earlier) kept = 0 < length kept
IsFollowed (links.Item earlier one) kept = Unit {0}
