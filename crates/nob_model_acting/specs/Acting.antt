-- Acting on an item: its faults, which close the session, and then what keeps it in the inbox.
use Rattle.std.specs.Prelude.{ℕ, ◌+◌, ◌^◌, Bool, true, false, ◌&&◌, ◌||◌, ◌==◌, not, nat_le, nat_lt, List, [], ◌∷◌, length, map, filter, Option, Some, None, Result, Ok, Err, if◌then◌else◌}
use Rattle.std.specs.List.{list_any, list_all}
use Rattle.nob_ids.specs.declared.reason.Reason.{Reason}
use Rattle.nob_ids.specs.declared.reason.Reason.TheVariants.{BadItem, BadReference, OutOfPlace}
use Rattle.nob_ids.specs.declared.wire_rep.WireRep.{WireRep}
use Rattle.nob_item.specs.Kinds.{counted_in}
use Rattle.nob_item.specs.declared.item.Item.{Item}
use Rattle.nob_item.specs.declared.item.Item.TheVariants as items
use Rattle.nob_model_types.specs.declared.answer.Answer.{Answer}
use Rattle.nob_model_types.specs.declared.answer.Answer.TheVariants as answers
use Rattle.nob_model_types.specs.declared.refusal.Refusal.{Refusal}
use Rattle.nob_model_types.specs.declared.refusal.Refusal.TheVariants as refusals
use Rattle.nob_model_types.specs.Objects.{is_exported, is_live}
use Rattle.nob_model_types.specs.Turns.{is_pending, turns, is_own}
use Rattle.nob_model_history.specs.Stage.{Stage}
use Rattle.nob_model_history.specs.Stage.TheVariants as stages
use Rattle.nob_model_history.specs.OwnCall.{OwnCall}
use Rattle.nob_model_history.specs.Outstanding.{Outstanding}
use Rattle.nob_model_history.specs.Gift.{Gift}
use Rattle.nob_model_history.specs.Gifts.{dirties_for}
use Rattle.nob_model_history.specs.declared.history.History.{History}
use Rattle.nob_model_history.specs.Ends.{items_to}
use Rattle.nob_model_history.specs.Transit.{has_bundle, surrogates}
use Rattle.nob_model_acting.specs.Sending.{is_gone, has_numbers}

-- a fault where a test holds
abbrev pub fault_if : Bool → Reason → Option Reason
fault_if test reason = if test then Some reason else None

-- the first of two faults
abbrev pub first_fault : Option Reason → Option Reason → Option Reason
first_fault (Some reason) later = Some reason
first_fault None later = later

-- whether an own counted reference of an item isn't live
abbrev pub names_not_live : ℕ → Item → History → Bool
names_not_live s item h = list_any (λ rep. is_gone s rep h) (counted_in item)

-- whether a call was made, no Reply to it was acted on, and it hasn't ended
abbrev pub is_sent : Stage → Bool
is_sent stages.Sent = true
is_sent stages.Answered = false
is_sent stages.Ended = false

-- whether call k was made to p, no Reply to it was acted on, and it hasn't ended
abbrev pub awaits_reply : (p k : ℕ) → OwnCall → Bool
awaits_reply p k own = own.call == k && own.to == p && is_sent own.stage

-- whether an index names no object that was ever exported
abbrev pub is_unknown : (s index : ℕ) → History → Bool
is_unknown s index h = index == 0 || not (is_exported s index h.deeds)

-- whether the Dirty for an object of p waits for its answer
abbrev pub awaits_answer : (s n p index : ℕ) → History → Bool
awaits_answer s n p index h = is_pending (turns s n (record { owner = p; index = index }) h.deeds)

-- the first fault of an item from p
unfoldable pub fault_of : (s n p : ℕ) → Item → History → Option Reason
fault_of s n p (items.Call call target method value) h = first_fault (fault_if (not (target == 0) && not (is_live s target h.deeds)) BadReference) (fault_if (names_not_live s (items.Call call target method value) h) BadReference)
fault_of s n p (items.Reply call status value) h = first_fault (fault_if (not (list_any (awaits_reply p call) h.work.calls)) OutOfPlace) (fault_if (names_not_live s (items.Reply call status value) h) BadReference)
fault_of s n p (items.Settle item) h = fault_if (not (has_bundle p item h)) OutOfPlace
fault_of s n p (items.Dirty index) h = fault_if (is_unknown s index h) BadReference
fault_of s n p (items.DirtyOk index) h = fault_if (not (awaits_answer s n p index h)) OutOfPlace
fault_of s n p (items.DirtyNo index) h = fault_if (not (awaits_answer s n p index h)) OutOfPlace
fault_of s n p (items.Clean index) h = fault_if (is_unknown s index h) BadReference

-- how many messages there are: those that wait, ready and running jobs, and ready replies
abbrev pub messages : Outstanding → ℕ
messages W = length W.waiting + length W.ready + length W.running + length W.replies

-- so many messages and no more
abbrev pub most_messages : ℕ
most_messages = 2 ^ 16

-- so many surrogates on open sessions and no more
abbrev pub most_surrogates : ℕ
most_surrogates = 2 ^ 16

-- the Dirties that a Call or a Reply wants
abbrev pub new_dirties : (s n : ℕ) → Item → History → List Gift
new_dirties s n item h = dirties_for s n h.deeds (counted_in item)

-- whether one message more, or the surrogates that it wants, would pass a limit
unfoldable pub is_too_much : (s n : ℕ) → Item → History → Bool
is_too_much s n item h = nat_le most_messages (messages h.work) || nat_lt most_surrogates (length (surrogates s n h) + length (new_dirties s n item h))

-- whether the peer of a gift has free numbers for all among some gifts that go to it
abbrev pub has_numbers_among : List Gift → History → Gift → Bool
has_numbers_among gifts h gift = has_numbers gift.to (length (items_to gift.to gifts)) h

-- whether each peer among some gifts has free numbers for those to it
abbrev pub all_have_numbers : List Gift → History → Bool
all_have_numbers gifts h = list_all (has_numbers_among gifts h) gifts

-- why a Call or a Reply without a fault stays in the inbox: a limit, then free numbers
unfoldable pub message_refusal : (s n : ℕ) → Item → History → Option Refusal
message_refusal s n item h = if is_too_much s n item h then Some refusals.Limit else if not (all_have_numbers (new_dirties s n item h) h) then Some refusals.SeqEnd else None

-- why an item from p without a fault stays in the inbox
unfoldable pub act_refusal : (s n p : ℕ) → Item → History → Option Refusal
act_refusal s n p (items.Call call target method value) h = message_refusal s n (items.Call call target method value) h
act_refusal s n p (items.Reply call status value) h = message_refusal s n (items.Reply call status value) h
act_refusal s n p (items.Settle item) h = None
act_refusal s n p (items.Dirty index) h = if not (has_numbers p 1 h) then Some refusals.SeqEnd else None
act_refusal s n p (items.DirtyOk index) h = None
act_refusal s n p (items.DirtyNo index) h = None
act_refusal s n p (items.Clean index) h = None

-- what is answered to acting on item k, once its fault and what keeps it are known
abbrev pub answer_of_act : ℕ → Option Reason → Option Refusal → Result Answer Refusal
answer_of_act k (Some reason) kept = Ok (answers.Closed reason)
answer_of_act k None (Some refusal) = Err refusal
answer_of_act k None None = Ok (answers.Acted k)

-- what is answered to acting on item k from p, if it can be read
unfoldable pub act_on : (s n p k : ℕ) → Option Item → History → Result Answer Refusal
act_on s n p k None h = Ok (answers.Closed BadItem)
act_on s n p k (Some item) h = answer_of_act k (fault_of s n p item h) (act_refusal s n p item h)
