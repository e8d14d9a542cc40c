use Rattle.std.proofs.Common.{◌≡◌, ℕ, ◌≤◌, length}
use Rattle.nob_space_messages.specs.Lines.{reps_in}
use Rattle.nob_space_messages.proofs.Kept.{all_lines, lines_at}
use Rattle.nob_space_messages.proofs.owners.make_owners.Given as goal

abbrev pub invariant-loop-made : goal.invariant-loop-made
invariant-loop-made l =
    ((owner : ℕ) → lines_at l.owners.items owner ≡ lines_at l.initial.owners.items owner)
    × (reps_in (all_lines l.owners.items) ≡ reps_in (all_lines l.initial.owners.items))
    × (length l.initial.owners.items ≤ l._made) × (l._made ≤ length l.owners.items)
    × (33 ≤ length l.initial.owners.items → l.owners.items ≡ l.initial.owners.items)
