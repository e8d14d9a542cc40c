-- What was sent, which of it has pins here, and the order of the Dirties.
use Rattle.std.specs.Prelude.{ℕ, ◌+◌, Bool, true, false, ◌&&◌, ◌||◌, ◌==◌, not, List, [], ◌∷◌, ◌++◌, length, map, filter, find, filter_map, flat_map, Option, Some, None, if◌then◌else◌}
use Rattle.std.specs.List.{list_any}
use Rattle.nob_ids.specs.Names.{is_same}
use Rattle.nob_ids.specs.declared.wire_rep.WireRep.{WireRep}
use Rattle.nob_item.specs.Kinds.{counted_in}
use Rattle.nob_item.specs.declared.item.Item.{Item}
use Rattle.nob_item.specs.declared.item.Item.TheVariants as items
use Rattle.nob_model_types.specs.declared.deed.Deed.{Deed}
use Rattle.nob_model_types.specs.declared.deed.Deed.TheVariants.{Act, Open}
use Rattle.nob_model_types.specs.Sessions.{closed, number, item_at}
use Rattle.nob_model_types.specs.Turns.{turns, is_standing, is_usable}
use Rattle.nob_model_work.specs.declared.gifts.Gift.{Gift}
use Rattle.nob_model_history.specs.declared.history.History.{History}
use Rattle.nob_model_history.specs.declared.transit.SentItem.{SentItem}
use Rattle.nob_model_history.specs.Holds.{times, is_held}

-- whether an item was sent to p in session k
abbrev pub is_sent_to : (p k : ℕ) → SentItem → Bool
is_sent_to p k sent_item = sent_item.to == p && sent_item.session == k

-- how many items were sent to p in session k
abbrev pub count_to : (p k : ℕ) → List SentItem → ℕ
count_to p k sent_items = length (filter (is_sent_to p k) sent_items)

-- the numbers of the sessions with the owners of some references
abbrev pub owner_sessions : List Deed → List WireRep → List ℕ
owner_sessions D reps = map (λ rep. number rep.owner D) reps

-- what is sent next as a gift after what was done: in the present sessions with the peer and with the owners of its references, with the next number of that session
abbrev pub next_sent : List Deed → List SentItem → Gift → SentItem
next_sent D sent_items gift = record {
  to = gift.to;
  session = number gift.to D;
  number = count_to gift.to (number gift.to D) sent_items + 1;
  item = gift.item;
  owners = owner_sessions D (counted_in gift.item);
}

-- gifts are sent one after the other
abbrev pub with_gifts : List Deed → List SentItem → List Gift → List SentItem
with_gifts D sent_items [] = sent_items
with_gifts D sent_items (gift ∷ gifts) = with_gifts D (sent_items ++ next_sent D sent_items gift ∷ []) gifts

-- all that was sent, to all peers, the first first, by what each deed gave: it is sent before the deed is done
abbrev pub sent_of : List Deed → List (List Gift) → List SentItem
sent_of [] G = []
sent_of (deed ∷ D) [] = sent_of D []
sent_of (deed ∷ D) (gifts ∷ G) = with_gifts D (sent_of D G) gifts

-- all that was sent in a history
abbrev pub sent : History → List SentItem
sent h = sent_of h.deeds h.all_gifts

-- whether an item is the Settle of item k
abbrev pub is_settle_of : ℕ → Option Item → Bool
is_settle_of k None = false
is_settle_of k (Some (items.Call call target method value)) = false
is_settle_of k (Some (items.Reply call status value)) = false
is_settle_of k (Some (items.Settle item)) = item == k
is_settle_of k (Some (items.Dirty index)) = false
is_settle_of k (Some (items.DirtyOk index)) = false
is_settle_of k (Some (items.DirtyNo index)) = false
is_settle_of k (Some (items.Clean index)) = false

-- whether the Settle of item k from p was acted on in the session with p
abbrev pub is_settled : (p k : ℕ) → List Deed → Bool
is_settled p k [] = false
is_settled p k (Open q j ∷ D) = if q == p then false else is_settled p k D
is_settled p k (Act q j ∷ D) = (q == p && is_settle_of k (item_at q j D)) || is_settled p k D
is_settled p k (_ ∷ D) = is_settled p k D

-- whether something stands in a list
abbrev pub is_some_of : {A : Type 0} → List A → Bool
is_some_of [] = false
is_some_of (x ∷ xs) = true

-- whether what was sent was sent in the present session with its receiver
abbrev pub is_of_present : List Deed → SentItem → Bool
is_of_present D sent_item = sent_item.session == number sent_item.to D

-- the number that stands at the place of a reference, 0 where it has none
abbrev pub number_at_place : WireRep → List WireRep → List ℕ → ℕ
number_at_place rep [] numbers = 0
number_at_place rep (other ∷ reps) [] = 0
number_at_place rep (other ∷ reps) (k ∷ numbers) = if is_same rep other then k else number_at_place rep reps numbers

-- the number of the session with the owner of a reference in which an item with it was sent
abbrev pub owner_session : WireRep → SentItem → ℕ
owner_session rep sent_item = number_at_place rep (counted_in sent_item.item) sent_item.owners

-- whether what was sent has pins here: it carries counted references, it was sent in the present session, its Settle wasn't acted on, and the session hasn't closed here
abbrev pub is_pinned : List Deed → SentItem → Bool
is_pinned D sent_item = is_some_of (counted_in sent_item.item) && is_of_present D sent_item && not (is_settled sent_item.to sent_item.number D) && not (closed sent_item.to D)

-- the bundles of pins: what was sent and has pins here
abbrev pub bundles : History → List SentItem
bundles h = filter (is_pinned h.deeds) (sent h)

-- whether there is a bundle of item k to p
abbrev pub has_bundle : (p k : ℕ) → History → Bool
has_bundle p k h = is_some_of (filter (λ sent_item. sent_item.to == p && sent_item.number == k) (bundles h))

-- the references with a pin, each as often as it has one
abbrev pub pinned : History → List WireRep
pinned h = flat_map (λ sent_item. counted_in sent_item.item) (bundles h)

-- how many pins a reference has here
abbrev pub pins : WireRep → History → ℕ
pins rep h = times rep (pinned h)

-- the reference that a Dirty to p asks for
abbrev pub asks_for : ℕ → Item → Option WireRep
asks_for p (items.Call call target method value) = None
asks_for p (items.Reply call status value) = None
asks_for p (items.Settle item) = None
asks_for p (items.Dirty index) = Some (record { owner = p; index = index })
asks_for p (items.DirtyOk index) = None
asks_for p (items.DirtyNo index) = None
asks_for p (items.Clean index) = None

-- the references of all Dirties that were sent, the first first
abbrev pub dirties : History → List WireRep
dirties h = filter_map (λ sent_item. asks_for sent_item.to sent_item.item) (sent h)

-- each reference once, where it stands last
abbrev pub once_last : List WireRep → List WireRep
once_last [] = []
once_last (rep ∷ reps) = if list_any (is_same rep) reps then once_last reps else rep ∷ once_last reps

-- the references that were ever asked for, in order of their last Dirties
abbrev pub by_last_dirty : History → List WireRep
by_last_dirty h = once_last (dirties h)

-- one place further, or the first place where there is no further one
abbrev pub later_place : Option ℕ → Bool → Option ℕ
later_place (Some place) here = Some (place + 1)
later_place None here = if here then Some 0 else None

-- the place of the last of these that is a reference, counted from 0
abbrev pub last_place : WireRep → List WireRep → Option ℕ
last_place rep [] = None
last_place rep (other ∷ reps) = later_place (last_place rep reps) (is_same rep other)

-- the place of a reference: how many Dirties were sent before its last one
abbrev pub place : WireRep → History → Option ℕ
place rep h = last_place rep (dirties h)

-- the surrogates on sessions that are open here
abbrev pub surrogates : (s n : ℕ) → History → List WireRep
surrogates s n h = filter (λ rep. is_standing (turns s n rep h.deeds) && not (closed rep.owner h.deeds)) (by_last_dirty h)

-- whether a surrogate can be given up: granted, on a session that is open here, without holds and without pins
abbrev pub is_idle : (s n : ℕ) → History → WireRep → Bool
is_idle s n h rep = is_usable s n rep h.deeds && not (is_held s rep h) && pins rep h == 0

-- the first surrogate, in order of last Dirties, that can be given up
abbrev pub first_idle : (s n : ℕ) → History → Option WireRep
first_idle s n h = find (is_idle s n h) (by_last_dirty h)
