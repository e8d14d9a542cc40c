use Rattle.std.proofs.Common.{◌≡◌, ◌+◌, ℕ, length, filter, take}
use Rattle.nob_space_messages.specs.Copies.{count_at}
use Rattle.nob_space_messages.specs.Waiting.{is_copy_of}
use Rattle.nob_space_messages.proofs.copies.count_all.Given as goal

abbrev pub invariant-loop-copy : goal.invariant-loop-copy
invariant-loop-copy l = (owner : ℕ) → count_at l.counts owner ≡ count_at l.fn.counts owner + length (filter (is_copy_of owner) (take l.copy-index l.copies))
