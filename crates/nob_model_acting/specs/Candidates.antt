-- What stands next to be settled, given up and carried out: the one message or reference that an event takes.
use Rattle.std.specs.Prelude.{ℕ, Bool, ◌==◌, not, find, Option}
use Rattle.std.specs.List.{list_any, list_all}
use Rattle.nob_ids.specs.declared.wire_rep.WireRep.{WireRep}
use Rattle.nob_item.specs.declared.item.Item.{Item}
use Rattle.nob_item.specs.declared.item.Item.TheVariants as items
use Rattle.nob_model_types.specs.Turns.{is_resolved}
use Rattle.nob_model_types.specs.declared.message.Message.{Message}
use Rattle.nob_model_history.specs.Outstanding.{Outstanding}
use Rattle.nob_model_history.specs.declared.history.History.{History}
use Rattle.nob_model_history.specs.Transit.{first_idle}

-- whether all references of a message are resolved
abbrev pub is_all_resolved : (s n : ℕ) → History → Message → Bool
is_all_resolved s n h message = list_all (λ copy. is_resolved s n copy.rep h.deeds) message.copies

-- the message that Settle takes: the first, in order of acting, whose references are all resolved
abbrev pub to_settle : (s n : ℕ) → History → Option Message
to_settle s n h = find (is_all_resolved s n h) h.work.waiting

-- the reference that Clean takes: the first surrogate, in order of last Dirties, that can be given up
abbrev pub to_clean : (s n : ℕ) → History → Option WireRep
to_clean s n h = first_idle s n h

-- the index that an item calls
abbrev pub target_of : Item → ℕ
target_of (items.Call call target method value) = target
target_of (items.Reply call status value) = 0
target_of (items.Settle item) = 0
target_of (items.Dirty index) = 0
target_of (items.DirtyOk index) = 0
target_of (items.DirtyNo index) = 0
target_of (items.Clean index) = 0

-- whether no job that runs has the target of a message
abbrev pub is_free : Outstanding → Message → Bool
is_free W message = not (list_any (λ run. target_of run.message.item == target_of message.item) W.running)

-- the message that Claim takes: the first ready job, in order of becoming ready, whose target isn't running
abbrev pub to_claim : History → Option Message
to_claim h = find (is_free h.work) h.work.ready
