-- What queues end as, where a `&mut` to one of their items is returned.
use Rattle.std.specs.Prelude.{ℕ}
use Rattle.std.specs.Borrow.{Lends, Fml, RattleType, MutBor}
use Rattle.nob_queues.specs.Queues.{QueueLists, writes_item}
use Rattle.nob_queues.specs.contracts.queues.Queues.{the_row}

-- once the borrow r ends, the number of the queue has the last item written through r
abbrev pub lends_item : (T : RattleType) → MutBor (QueueLists T.Denot) → (queue number : ℕ) → MutBor T.Denot → Fml
lends_item T lists queue number r = Lends (the_row T) T lists r (writes_item lists.now queue number)
