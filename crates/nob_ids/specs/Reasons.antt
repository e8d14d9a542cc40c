-- The numbers of the close reasons.
use Rattle.std.specs.Prelude.{ℕ}
use Rattle.nob_ids.specs.declared.reason.Reason.{Reason}
use Rattle.nob_ids.specs.declared.reason.Reason.TheVariants.{Asked, PeerClosed, RetriesUsedUp, BadItem, BadReference, OutOfPlace}

-- the number that stands for a reason in a frame and in a text
abbrev pub reason_number : Reason → ℕ
reason_number Asked = 1
reason_number PeerClosed = 2
reason_number RetriesUsedUp = 3
reason_number BadItem = 4
reason_number BadReference = 5
reason_number OutOfPlace = 6
