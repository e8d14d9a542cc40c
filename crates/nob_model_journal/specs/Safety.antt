-- No object is withdrawn too early: not while a space on an open session can use it, nor while its reference is in
-- open transit.
use Rattle.std.specs.Prelude.{◌≡◌, ℕ, Bool, false, ◌&&◌, ◌||◌, not, ◌==◌, List, Some}
use Rattle.std.specs.List.{list_any}
use Rattle.nob_ids.specs.declared.wire_rep.WireRep.{WireRep}
use Rattle.nob_model_types.specs.declared.entry.Entry.{Entry}
use Rattle.nob_model_types.specs.Deeds.{deed_in}
use Rattle.nob_model_types.specs.Turns.{is_own, carries}
use Rattle.nob_model_types.specs.declared.deed.Deed.TheVariants.{Withdraw}
use Rattle.nob_model_history.specs.Holds.{is_held}
use Rattle.nob_model_history.specs.Transit.{sent, is_settled, is_of_present, owner_session}
use Rattle.nob_model_history.specs.declared.transit.SentItem.{SentItem}
use Rattle.nob_model.specs.Right.{own_ref}
use Rattle.nob_model_journal.specs.Journals.{deeds_at, history_at, number_at, both_open, Each}

-- whether space c is the owner of a reference, or its session with the owner is open at both ends
abbrev pub reaches_owner : ℕ → WireRep → List Entry → Bool
reaches_owner c rep J = is_own c rep || both_open c rep.owner J

-- whether space c can use a reference: it holds it, and reaches its owner
abbrev pub can_use : (n c : ℕ) → WireRep → List Entry → Bool
can_use n c rep J = is_held c rep (history_at c n J) && reaches_owner c rep J

-- whether what space a sent is in transit: its Settle wasn't acted on
abbrev pub is_in_transit : ℕ → SentItem → List Entry → Bool
is_in_transit a sent_item J = not (is_settled sent_item.to sent_item.number (deeds_at a J))

-- whether space a is the owner of a reference, or still in the session with the owner in which it sent an item with it
abbrev pub is_with_owner : ℕ → WireRep → List Entry → SentItem → Bool
is_with_owner a rep J sent_item = is_own a rep || owner_session rep sent_item == number_at a rep.owner J

-- whether the session in which space a sent an item is open, and so is the one with the owner of a reference in which it did, if a isn't the owner
abbrev pub is_open_for : ℕ → WireRep → List Entry → SentItem → Bool
is_open_for a rep J sent_item = (is_of_present (deeds_at a J) sent_item && both_open a sent_item.to J) && (is_with_owner a rep J sent_item && reaches_owner a rep J)

-- whether what space a sent carries a reference in open transit: its Settle wasn't acted on, its session is open, and a is the owner or still on its session with it
abbrev pub is_open_copy : ℕ → WireRep → List Entry → SentItem → Bool
is_open_copy a rep J sent_item = carries rep sent_item.item && is_in_transit a sent_item J && is_open_for a rep J sent_item

-- whether a copy of a reference that space a sent is in open transit
abbrev pub has_open_copy : (n a : ℕ) → WireRep → List Entry → Bool
has_open_copy n a rep J = list_any (is_open_copy a rep J) (sent (history_at a n J))

-- no space needs a reference: none can use it, and no copy that one sent is in open transit
abbrev pub NoneNeeds : ℕ → WireRep → List Entry → Type 0
NoneNeeds n rep J = (s : ℕ) → (can_use n s rep J ≡ false) × (has_open_copy n s rep J ≡ false)

-- an entry isn't the withdrawal of an object that a space needs
abbrev pub WithdrawsUnneeded : ℕ → Entry → List Entry → Type 0
WithdrawsUnneeded n entry J = (index : ℕ) → deed_in entry ≡ Some (Withdraw index) → NoneNeeds n (own_ref entry.space index) J

-- no object is withdrawn while a space needs it
abbrev pub SafeWithdraw : ℕ → List Entry → Type 0
SafeWithdraw n J = Each (WithdrawsUnneeded n) J
