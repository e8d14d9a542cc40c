-- Copies in open transit, by the places that their reference was sent to.
use Rattle.std.proofs.Common.{◌≡◌, ◌&&◌, ℕ, Bool, true, false, List, refl}
use Rattle.std.specs.Prelude.{not}
use Rattle.std.specs.List.{list_any}
use Rattle.nob_ids.specs.declared.wire_rep.WireRep.{WireRep}
use Rattle.nob_model_types.specs.Turns.{carries}
use Rattle.nob_model_types.specs.declared.deed.Deed.{Deed}
use Rattle.nob_model_history.specs.Transit.{is_settled}
use Rattle.nob_model_history.specs.declared.transit.SentItem.{SentItem}
use Rattle.nob_check_ledgers.specs.Sent.{place_of}
use Rattle.nob_check_ledgers.specs.declared.ledger.Ledger.{Ledger}
use Rattle.nob_check.specs.Checks.{is_open_for_by, is_open_place_by, is_open_copy_by}

regroup : (a b c : Bool) → (a && (b && c)) ≡ (a && b && c)
regroup true b c = refl
regroup false b c = refl

pub open_copies : (did : ℕ → List Deed) (rep : WireRep) (ledger : Ledger) (sent_items : List SentItem) → list_any (λ sent_item. carries rep sent_item.item && is_open_place_by did rep ledger (place_of rep sent_item)) sent_items ≡ list_any (is_open_copy_by did rep ledger) sent_items
open_copies did rep ledger sent_items = λ i. list_any (λ (sent_item : SentItem). regroup (carries rep sent_item.item) (not (is_settled sent_item.to sent_item.number ledger.index.deeds)) (is_open_for_by did ledger.index.here.space rep (place_of rep sent_item)) i) sent_items
