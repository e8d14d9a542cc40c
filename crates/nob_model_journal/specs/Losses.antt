-- No reference is lost without a cause: where an owner refuses one, each copy that came was sent by another space that
-- had lost touch with the receiver or with the owner: it isn't any more in the session in which it sent the copy, or that isn't open.
use Rattle.std.specs.Prelude.{◌≡◌, ℕ, Bool, true, false, ◌&&◌, not, ◌==◌, List, [], ◌∷◌, find, Option, Some, None, if◌then◌else◌}
use Rattle.std.specs.List.{AllByRecursion}
use Rattle.nob_ids.specs.Names.{is_same}
use Rattle.nob_ids.specs.declared.wire_rep.WireRep.{WireRep}
use Rattle.nob_item.specs.declared.item.Item.{Item}
use Rattle.nob_item.specs.declared.item.Item.TheVariants as items
use Rattle.nob_model_types.specs.declared.entry.Entry.{Entry}
use Rattle.nob_model_types.specs.Deeds.{deed_in}
use Rattle.nob_model_types.specs.Sessions.{number, item_at}
use Rattle.nob_model_types.specs.Turns.{turns, is_refused, is_own, carries, names}
use Rattle.nob_model_types.specs.declared.deed.Deed.{Deed}
use Rattle.nob_model_types.specs.declared.deed.Deed.TheVariants.{Act, Clean, Open}
use Rattle.nob_model_history.specs.Transit.{is_sent_to, sent}
use Rattle.nob_model_history.specs.declared.transit.SentItem.{SentItem}
use Rattle.nob_model_journal.specs.declared.losses.Source.{Source}
use Rattle.nob_model_journal.specs.Journals.{deeds_at, history_at, number_at, both_open, Each}
use Rattle.nob_model_journal.specs.Safety.{is_with_owner}

-- whether an item, where there is one, carries a reference
abbrev pub is_carried : WireRep → Option Item → Bool
is_carried rep None = false
is_carried rep (Some item) = carries rep item

-- the copies of a reference that space s acted on since it last sent a Clean for it or opened the session with its owner, the newest first: who sent each, in which session, and in which item
abbrev pub sources : (s n : ℕ) → WireRep → List Deed → List Source
sources s n rep [] = []
sources s n rep (Open q k ∷ D) = if q == rep.owner then [] else sources s n rep D
sources s n rep (Act p k ∷ D) = if is_carried rep (item_at p k D) then record { from = p; session = number p D; number = k } ∷ sources s n rep D else sources s n rep D
sources s n rep (Clean other ∷ D) = if is_same rep other && (turns s n rep D).asks then [] else sources s n rep D
sources s n rep (_ ∷ D) = sources s n rep D

-- whether a reference is lost where space s acts on this item from p: the owner says no, or the item carries it and the owner said no before
abbrev pub is_loss : (s n p : ℕ) → WireRep → Option Item → List Deed → Bool
is_loss s n p rep None D = false
is_loss s n p rep (Some (items.Call call target method value)) D = carries rep (items.Call call target method value) && is_refused (turns s n rep D)
is_loss s n p rep (Some (items.Reply call status value)) D = carries rep (items.Reply call status value) && is_refused (turns s n rep D)
is_loss s n p rep (Some (items.Settle item)) D = false
is_loss s n p rep (Some (items.Dirty index)) D = false
is_loss s n p rep (Some (items.DirtyOk index)) D = false
is_loss s n p rep (Some (items.DirtyNo index)) D = names rep p index
is_loss s n p rep (Some (items.Clean index)) D = false

-- whether an item that was sent is the one in which a copy came to space s
abbrev pub is_source : ℕ → Source → SentItem → Bool
is_source s source sent_item = is_sent_to s source.session sent_item && sent_item.number == source.number

-- whether the sender of a copy is still in the session with the owner in which it sent it, by the item that it sent, if it sent it
abbrev pub was_with_owner : ℕ → WireRep → List Entry → Option SentItem → Bool
was_with_owner a rep J None = true
was_with_owner a rep J (Some sent_item) = is_with_owner a rep J sent_item

-- whether the session in which a copy came to space s is open, and so is the one with the owner in which it was sent
abbrev pub is_open_source : (n s : ℕ) → WireRep → List Entry → Source → Bool
is_open_source n s rep J source = (source.session == number_at source.from s J && both_open source.from s J) && (was_with_owner source.from rep J (find (is_source s source) (sent (history_at source.from n J))) && both_open source.from rep.owner J)

-- whether a copy that came excuses that s lost it: its sender isn't the owner, and one of the two sessions isn't open
abbrev pub is_excuse : (n s : ℕ) → WireRep → List Entry → Source → Bool
is_excuse n s rep J source = not (is_own source.from rep) && not (is_open_source n s rep J source)

-- each reference that an entry loses is excused by all copies that came, its own item's too; which sessions are open is read before the entry
abbrev pub LosesExcused : ℕ → Entry → List Entry → Type 0
LosesExcused n entry J = (p k : ℕ) (rep : WireRep) → deed_in entry ≡ Some (Act p k) → is_loss entry.space n p rep (item_at p k (deeds_at entry.space J)) (deeds_at entry.space J) ≡ true → AllByRecursion (λ source. is_excuse n entry.space rep J source ≡ true) (sources entry.space n rep (Act p k ∷ deeds_at entry.space J))

-- no reference is lost without a cause
abbrev pub NoFalseLoss : ℕ → List Entry → Type 0
NoFalseLoss n J = Each (LosesExcused n) J
