-- What holds at a space after what it did, so that a drawing has a bar for it as long as it holds: an object is live, a
-- client is listed for one, a reference is pinned. These are the words of a space's history.
use Rattle.std.specs.Prelude.{ℕ, Bool, false, ◌&&◌, ◌==◌, List, [], ◌∷◌, ◌++◌, map, filter, flat_map, true, false, Option, Some, None}
use Rattle.nob_ids.specs.Names.{is_same}
use Rattle.nob_ids.specs.declared.wire_rep.WireRep.{WireRep}
use Rattle.nob_item.specs.Kinds.{counted_in}
use Rattle.nob_model_types.specs.declared.entry.Entry.{Entry}
use Rattle.nob_model_types.specs.Objects.{exports, live}
use Rattle.nob_model_types.specs.declared.deed.Deed.{Deed}
use Rattle.nob_model_types.specs.declared.deed.Deed.TheVariants as did
use Rattle.nob_model_work.specs.Gifts.{once}
use Rattle.nob_model_history.specs.Listing.{is_listed}
use Rattle.nob_model_history.specs.Transit.{bundles}
use Rattle.nob_model_history.specs.declared.history.History.{History}
use Rattle.nob_model_history.specs.declared.transit.SentItem.{SentItem}
use Rattle.nob_model_journal.specs.Journals.{history_at}
use Rattle.nob_model_journal.specs.Tests.{with_space}
use Rattle.nob_drawing_plan.specs.declared.mark.Mark.{Mark}
use Rattle.nob_drawing_plan.specs.declared.mark.Mark.TheVariants as marks

-- whether two marks are the same
abbrev pub same_mark : Mark → Mark → Bool
same_mark (marks.Live rep) (marks.Live other) = is_same rep other
same_mark (marks.Listed rep client) (marks.Listed other twin) = is_same rep other && client == twin
same_mark (marks.Pinned rep peer session item) (marks.Pinned other twin number place) = is_same rep other && peer == twin && session == number && item == place
same_mark _ _ = false

-- each live object of space s is
abbrev pub live_marks : ℕ → List Deed → List Mark
live_marks s D = map marks.Live (live s D)

-- the spaces whose items were acted on, each once
abbrev pub senders_in : List Deed → List ℕ
senders_in [] = []
senders_in (did.Act p k ∷ D) = with_space p (senders_in D)
senders_in (_ ∷ D) = senders_in D

-- each client that is listed for an object of space s, of those whose items were acted on
abbrev pub clients_of : ℕ → List Deed → WireRep → List Mark
clients_of s D rep = map (marks.Listed rep) (filter (λ client. is_listed s rep.index client D) (senders_in D))

-- all that are listed for any object that was ever exported
abbrev pub listed_marks : ℕ → List Deed → List Mark
listed_marks s D = flat_map (clients_of s D) (exports D)

-- each reference that an item was sent with, once
abbrev pub pins_of : SentItem → List Mark
pins_of sent_item = map (λ rep. marks.Pinned rep sent_item.to sent_item.session sent_item.number) (once (counted_in sent_item.item))

-- all that are pinned
abbrev pub pinned_marks : History → List Mark
pinned_marks h = flat_map pins_of (bundles h)

-- all that holds in a history of space s
abbrev pub marks_of : ℕ → History → List Mark
marks_of s h = live_marks s h.deeds ++ (listed_marks s h.deeds ++ pinned_marks h)

-- all that holds at space s among n after a journal
abbrev pub marks_at : (n s : ℕ) → List Entry → List Mark
marks_at n s J = marks_of s (history_at s n J)

-- whether a deed changes no mark of its space, whatever was done before
abbrev pub is_quiet_deed : Deed → Bool
is_quiet_deed (did.Dup rep) = true
is_quiet_deed (did.Release rep) = true
is_quiet_deed (did.TakeReply call status value) = true
is_quiet_deed (did.TakeEnd call) = true
is_quiet_deed (did.Claim job) = true
is_quiet_deed (did.Transmit peer frames) = true
is_quiet_deed (did.Arrive frame count) = true
is_quiet_deed (did.Tick peer) = true
is_quiet_deed _ = false

-- whether an entry that did this, or nothing, changes none
abbrev pub is_quiet : Option Deed → Bool
is_quiet None = true
is_quiet (Some deed) = is_quiet_deed deed
