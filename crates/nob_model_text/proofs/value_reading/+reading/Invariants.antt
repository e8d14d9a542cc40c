use Rattle.std.proofs.Common.{◌≡◌, ◌+◌, ◌*◌, ◌++◌, ◌≤◌, List, ℕ, length}
use Rattle.nob_pickle.specs.Trees.{Trees}
use Rattle.nob_pickle.specs.Shape.{forest}
use Rattle.nob_model_text.specs.Values.{most_nested, AreTyped}
use Rattle.nob_model_text.proofs.Read.{FoundSoFar, OnlySoFar}
use Rattle.nob_model_text.proofs.value_reading.+reading.Given as goal

abbrev pub decreases-value_at : goal.decreases-value_at
decreases-value_at l = 5 * l.lists + 2

abbrev pub decreases-value_by : goal.decreases-value_by
decreases-value_by l = 5 * l.lists + 1

abbrev pub decreases-list_value : goal.decreases-list_value
decreases-list_value l = 5 * l.lists

abbrev pub decreases-elements_at : goal.decreases-elements_at
decreases-elements_at l = 5 * l.lists + 4

abbrev pub decreases-some_elements_at : goal.decreases-some_elements_at
decreases-some_elements_at l = 5 * l.lists + 3

-- what was read and what is left are all, and what the whole spells is what was read and what the rest spells
abbrev pub invariant-some_elements_at-loop-next : goal.invariant-some_elements_at-loop-next
invariant-some_elements_at-loop-next l = FoundSoFar l.text (forest l.values.items) l.left × OnlySoFar l.lists l.text (forest l.values.items) l.left × (most_nested (forest l.values.items) ≤ l.lists) × AreTyped (forest l.values.items)

abbrev pub decreases-some_elements_at-loop-next : goal.decreases-some_elements_at-loop-next
decreases-some_elements_at-loop-next l = length l.left
