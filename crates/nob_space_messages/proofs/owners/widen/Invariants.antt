use Rattle.std.proofs.Common.{◌≡◌, ℕ, ◌≤◌, ◌<◌, length, slice_get, Some}
use Rattle.nob_space_messages.specs.Lines.{HaveRoom, OwnerList}
use Rattle.nob_space_messages.proofs.Kept.{all_lines}
use Rattle.nob_space_messages.proofs.owners.widen.Given as goal

abbrev pub invariant-loop-place : goal.invariant-loop-place
invariant-loop-place l =
    (all_lines l.owners.items ≡ all_lines l.initial.owners.items)
    × (length l.owners.items ≡ length l.initial.owners.items)
    × ((room : ℕ) → HaveRoom l.initial.owners.items room → HaveRoom l.owners.items room)
    × ((at : ℕ) (owner : OwnerList) → at < l.place → slice_get l.owners.items at ≡ Some owner → l.additional ≤ owner.room)
