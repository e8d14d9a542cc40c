-- What is tested of an entry by the ledgers of all spaces before it, and of all fronts at the end.
use Rattle.std.specs.Prelude.{ℕ, Bool, true, ◌&&◌, ◌||◌, not, ◌==◌, List, [], ◌∷◌, Option, Some, None, map, filter, find, if◌then◌else◌}
use Rattle.std.specs.List.{list_any, list_all}
use Rattle.nob_ids.specs.declared.wire_rep.WireRep.{WireRep}
use Rattle.nob_item.specs.declared.item.Item.{Item}
use Rattle.nob_model_types.specs.Sessions.{item_at}
use Rattle.nob_model_types.specs.Turns.{is_own, carries}
use Rattle.nob_model_types.specs.declared.deed.Deed.{Deed}
use Rattle.nob_model_types.specs.declared.deed.Deed.TheVariants.{Act, Withdraw}
use Rattle.nob_model_history.specs.Transit.{is_settled, is_sent_to, owner_session}
use Rattle.nob_model_history.specs.declared.transit.SentItem.{SentItem}
use Rattle.nob_model.specs.Right.{own_ref}
use Rattle.nob_model_journal.specs.Losses.{is_loss, is_source, sources}
use Rattle.nob_model_journal.specs.Tests.{reps_at_risk, sessions_in, same_item, is_front}
use Rattle.nob_model_journal.specs.declared.losses.Source.{Source}
use Rattle.nob_check_ledgers.specs.Ledgers.{is_held_by}
use Rattle.nob_check_ledgers.specs.Sent.{place_of}
use Rattle.nob_check_ledgers.specs.declared.sent.Place.{Place}
use Rattle.nob_check_ledgers.specs.declared.lists.ActedItem.{ActedItem}
use Rattle.nob_check_ledgers.specs.declared.ledger.Ledger.{Ledger}
use Rattle.nob_check.specs.Books.{find_ledger, did_by, sent_by, number_by, both_open_by, reaches_owner_by, is_with_owner_by}

-- ---- withdrawals

-- whether the space of a ledger can use a reference
abbrev pub can_use_by : (ℕ → List Deed) → WireRep → Ledger → Bool
can_use_by did rep ledger = is_held_by rep ledger && reaches_owner_by did ledger.index.here.space rep

-- whether the session of a place is the present one and open at both ends, and so is the one with the owner of a reference in which it was sent there, if space a isn't the owner
abbrev pub is_open_for_by : (ℕ → List Deed) → ℕ → WireRep → Place → Bool
is_open_for_by did a rep place = (place.session == number_by did a place.to && both_open_by did a place.to) && (is_with_owner_by did a rep place.with_owner && reaches_owner_by did a rep)

-- whether what a ledger's space sent to a place isn't settled, and its sessions are open
abbrev pub is_open_place_by : (ℕ → List Deed) → WireRep → Ledger → Place → Bool
is_open_place_by did rep ledger place = not (is_settled place.to place.number ledger.index.deeds) && is_open_for_by did ledger.index.here.space rep place

-- whether what the space of a ledger sent carries a reference in open transit
abbrev pub is_open_copy_by : (ℕ → List Deed) → WireRep → Ledger → SentItem → Bool
is_open_copy_by did rep ledger sent_item = carries rep sent_item.item && not (is_settled sent_item.to sent_item.number ledger.index.deeds) && is_open_for_by did ledger.index.here.space rep (place_of rep sent_item)

-- whether the space of a ledger needs a reference
abbrev pub needs_by : (ℕ → List Deed) → WireRep → Ledger → Bool
needs_by did rep ledger = can_use_by did rep ledger || list_any (is_open_copy_by did rep ledger) ledger.sent_items

-- whether a deed of space s isn't the withdrawal of an object that a space needs
abbrev pub is_unneeded_by : ℕ → Option Deed → List Ledger → Bool
is_unneeded_by s (Some (Withdraw index)) books = list_all (λ ledger. not (needs_by (did_by books) (own_ref s index) ledger)) books
is_unneeded_by s _ books = true

-- ---- losses

-- whether the sender of a copy is still in the session with the owner in which it sent it, by the item that it sent, if it sent it
abbrev pub was_with_owner_by : (ℕ → List Deed) → ℕ → WireRep → Option SentItem → Bool
was_with_owner_by did a rep None = true
was_with_owner_by did a rep (Some sent_item) = is_with_owner_by did a rep (owner_session rep sent_item)

-- whether the session in which a copy came to space s is open, and so is the one with the owner in which it was sent, by what each space did and sent
abbrev pub is_open_source_by : (ℕ → List Deed) → (ℕ → List SentItem) → ℕ → WireRep → Source → Bool
is_open_source_by did sent s rep source = (source.session == number_by did source.from s && both_open_by did source.from s) && (was_with_owner_by did source.from rep (find (is_source s source) (sent source.from)) && both_open_by did source.from rep.owner)

-- whether the loss of a reference at s is excused by a copy that came
abbrev pub is_excuse_by : (ℕ → List Deed) → (ℕ → List SentItem) → ℕ → WireRep → Source → Bool
is_excuse_by did sent s rep source = not (is_own source.from rep) && not (is_open_source_by did sent s rep source)

-- whether a reference isn't lost where space s acts on item k from p after these deeds, or is with an excuse for each copy
abbrev pub is_excused_by : (ℕ → List Deed) → (ℕ → List SentItem) → (n s p k : ℕ) → List Deed → WireRep → Bool
is_excused_by did sent n s p k D rep = not (is_loss s n p rep (item_at p k D) D) || list_all (is_excuse_by did sent s rep) (sources s n rep (Act p k ∷ D))

-- whether each reference that is lost there is excused
abbrev pub is_act_excused_by : (ℕ → List Deed) → (ℕ → List SentItem) → (n s p k : ℕ) → List Deed → Bool
is_act_excused_by did sent n s p k D = list_all (is_excused_by did sent n s p k D) (reps_at_risk p (item_at p k D))

-- whether each reference that is lost where the space of a ledger acts on item k from p is excused; without a ledger no item came
abbrev pub is_lossless_in : (ℕ → List Deed) → (ℕ → List SentItem) → (p k : ℕ) → Option Ledger → Bool
is_lossless_in did sent p k None = true
is_lossless_in did sent p k (Some ledger) = is_act_excused_by did sent ledger.index.here.n ledger.index.here.space p k ledger.index.deeds

-- whether each reference that is lost by a deed of space s is excused
abbrev pub is_lossless_by : ℕ → Option Deed → List Ledger → Bool
is_lossless_by s (Some (Act p k)) books = is_lossless_in (did_by books) (sent_by books) p k (find_ledger s books)
is_lossless_by s _ books = true

-- ---- fronts

-- whether an item that was acted on came from a space in session k
abbrev pub is_acted_in : (a k : ℕ) → ActedItem → Bool
is_acted_in a k acted_item = acted_item.from == a && acted_item.session == k

-- the items from a space among these that were acted on in session k, with the numbers that were answered
abbrev pub acted_from_by : (a k : ℕ) → List ActedItem → List (ℕ × Option Item)
acted_from_by a k items = map (λ acted_item. (acted_item.number, acted_item.item)) (filter (is_acted_in a k) items)

-- the items among these that went to a space in session k
abbrev pub items_to : (b k : ℕ) → List SentItem → List Item
items_to b k sent_items = map (λ sent_item. sent_item.item) (filter (is_sent_to b k) sent_items)

-- what is left of these items behind the first, where that is the one that was acted on and has its number
abbrev pub behind : ℕ → ℕ × Option Item → List Item → Option (List Item)
behind k (number, None) items = None
behind k (number, Some item) [] = None
behind k (number, Some item) (sent_item ∷ items) = if number == k && same_item item sent_item then Some items else None

-- whether what the space of a ledger acted on in a session is a front of what was sent to it in that session
abbrev pub is_in_order_by : (ℕ → List SentItem) → Ledger → ℕ × ℕ → Bool
is_in_order_by sent ledger session = is_front 1 (acted_from_by session.0 session.1 ledger.acted_items) (items_to ledger.index.here.space session.1 (sent session.0))

-- whether the fronts of the space of a ledger are as they should be
abbrev pub has_fronts_by : (ℕ → List SentItem) → Ledger → Bool
has_fronts_by sent ledger = list_all (is_in_order_by sent ledger) (sessions_in ledger.index.deeds) && ledger.acts_open && ledger.sends_open

-- whether all fronts are
abbrev pub keeps_fronts_by : List Ledger → Bool
keeps_fronts_by books = list_all (has_fronts_by (sent_by books)) books
