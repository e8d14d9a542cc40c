use Rattle.std.proofs.Common.{◌≡◌, ◌==◌, ◌+◌, ◌≤◌, ℕ, length, filter, take, if◌then◌else◌}
use Rattle.nob_ids.specs.declared.wire_rep.WireRep.{WireRep}
use Rattle.nob_space_messages.specs.Waiting.{is_due, waits_for}
use Rattle.nob_space_messages.specs.Lines.{AreAwaited, places_for, times_in}
use Rattle.nob_space_messages.proofs.waits.line_up.Given as goal

abbrev pub invariant-loop-copy : goal.invariant-loop-copy
invariant-loop-copy l = (l.waits ≡ length (filter (λ copy. is_due copy.loan) (take l.copy-index l.copies)))
    × ((rep : WireRep) → places_for l.lines rep ≡ places_for l.fn.lines rep + length (filter (waits_for rep) (take l.copy-index l.copies)))
    × ((rep : WireRep) (other : ℕ) → times_in l.lines rep other ≡ times_in l.fn.lines rep other + (if l.stamp == other then length (filter (waits_for rep) (take l.copy-index l.copies)) else 0))
    × (length l.copies ≤ l.lines.room + l.copy-index)
    × AreAwaited l.lines
