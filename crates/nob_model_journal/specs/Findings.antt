-- Every reference is found: no session is closed for a fault in what came over it (a Close of the peer closes it
-- too). So each Call that is acted on names a live object or the agent, and each own counted reference that comes to its owner is live.
use Rattle.std.specs.Prelude.{◌≡◌, Bool, true, false, List, Result, Ok}
use Rattle.std.specs.List.{AllByRecursion}
use Rattle.nob_ids.specs.declared.reason.Reason.{Reason}
use Rattle.nob_ids.specs.declared.reason.Reason.TheVariants.{PeerClosed, Asked, RetriesUsedUp, BadItem, BadReference, OutOfPlace}
use Rattle.nob_model_types.specs.declared.answer.Answer.{Answer}
use Rattle.nob_model_types.specs.declared.answer.Answer.TheVariants.{Closed}
use Rattle.nob_model_types.specs.declared.refusal.Refusal.{Refusal}
use Rattle.nob_model_types.specs.declared.entry.Entry.{Entry}

-- whether this reason to close is a fault in what came over the session
abbrev pub is_fault : Reason → Bool
is_fault Asked = false
is_fault PeerClosed = false
is_fault RetriesUsedUp = false
is_fault BadItem = true
is_fault BadReference = true
is_fault OutOfPlace = true

-- whether a result is such a close
abbrev pub is_fault_found : Result Answer Refusal → Bool
is_fault_found (Ok (Closed reason)) = is_fault reason
is_fault_found _ = false

-- no entry is answered so, whatever its event
abbrev pub Found : List Entry → Type 0
Found J = AllByRecursion (λ entry. is_fault_found entry.result ≡ false) J
