-- The item at the front of the inbox of a session.
use Rattle.std.specs.Prelude.{◌≡◌, ℕ, true, false, List, Some, None}
use Rattle.nob_item.specs.declared.item.Item.{Item}
use Rattle.nob_model_session.specs.Right.{right_front}
use Rattle.nob_model_types.specs.declared.deed.Deed.{Deed}
use Rattle.nob_model_types.specs.Sessions.{is_peer, closed, item_spelt}
use Rattle.nob_model_history.specs.Histories.{history_of}
use Rattle.nob_model_history.specs.Ends.{calls_at}
use Rattle.nob_model_acting.specs.Acting.{fault_of}

-- the front of the inbox from peer p is item k: the session is open, the bytes spell the item, and it has no fault
pub record IsFront (s n p k : ℕ) (item : Item) (D : List Deed) : Type 0 where
  pub peer : is_peer s n p ≡ true
  pub is_open : closed p D ≡ false
  pub bytes : List ℕ
  pub front : right_front (calls_at p (history_of s n D)) ≡ Some (k, bytes)
  pub spelt : item_spelt bytes ≡ Some item
  pub sound : fault_of s n p item (history_of s n D) ≡ None
