-- Messages: Calls and Replies that were acted on, with the references that came in them.
use Rattle.std.specs.Prelude.{ℕ, Bool, true, false, ◌&&◌, ◌||◌, not, ◌==◌, List, [], ◌∷◌, map, if◌then◌else◌}
use Rattle.std.specs.List.{list_any}
use Rattle.nob_ids.specs.declared.wire_rep.WireRep.{WireRep}
use Rattle.nob_item.specs.Kinds.{counted_in}
use Rattle.nob_item.specs.declared.item.Item.{Item}
use Rattle.nob_item.specs.declared.item.Item.TheVariants as items
use Rattle.nob_model_types.specs.declared.answer.Job.{Job}
use Rattle.nob_model_types.specs.declared.deed.Deed.{Deed}
use Rattle.nob_model_types.specs.Sessions.{number}
use Rattle.nob_model_types.specs.Turns.{is_own, is_usable, is_lost, is_resolved}
use Rattle.nob_model_types.specs.Same.{same_value}
use Rattle.nob_model_types.specs.declared.message.Loan.{Loan}
use Rattle.nob_model_types.specs.declared.message.Loan.TheVariants as loans
use Rattle.nob_model_types.specs.declared.message.RefCopy.{RefCopy}
use Rattle.nob_model_types.specs.declared.message.Message.{Message}

-- a reference as it comes in a message: never lent where it is lost from the start
unfoldable pub new_copy : (s n : ℕ) → List Deed → WireRep → RefCopy
new_copy s n D rep = record { rep = rep; loan = if is_lost s n rep D then loans.Never else loans.Due }

-- the message that came from p in item k, in the session that is there now
abbrev pub new_message : (s n p k : ℕ) → Item → List Deed → Message
new_message s n p k item D = record { from = p; session = number p D; number = k; item = item; copies = map (λ rep. new_copy s n D rep) (counted_in item) }

-- a loan that is due is made once the reference is own or usable; what is lent stays lent
abbrev pub loan_after : Bool → Loan → Loan
loan_after usable loans.Due = if usable then loans.Lent else loans.Due
loan_after usable loans.Lent = loans.Lent
loan_after usable loans.Never = loans.Never

-- a copy after a deed
unfoldable pub copy_after : (s n : ℕ) → List Deed → RefCopy → RefCopy
copy_after s n D copy = record { rep = copy.rep; loan = loan_after (is_own s copy.rep || is_usable s n copy.rep D) copy.loan }

-- a message after a deed
unfoldable pub message_after : (s n : ℕ) → List Deed → Message → Message
message_after s n D message = record { from = message.from; session = message.session; number = message.number; item = message.item; copies = map (λ copy. copy_after s n D copy) message.copies }

-- whether a message came from p in item k
abbrev pub is_of : (p k : ℕ) → Message → Bool
is_of p k message = message.from == p && message.number == k

-- whether a message came from another space than p
abbrev pub is_not_from : ℕ → Message → Bool
is_not_from p message = not (message.from == p)

-- whether an item is the Reply to a call
abbrev pub replies_to : ℕ → Item → Bool
replies_to k (items.Reply call status value) = call == k
replies_to k (items.Call call target method value) = false
replies_to k (items.Settle item) = false
replies_to k (items.Dirty index) = false
replies_to k (items.DirtyOk index) = false
replies_to k (items.DirtyNo index) = false
replies_to k (items.Clean index) = false

-- whether an item is the Call of a job
abbrev pub is_call_of : Job → Item → Bool
is_call_of job (items.Call call target method value) = call == job.call && target == job.target && method == job.method && same_value value job.value
is_call_of job (items.Reply call status value) = false
is_call_of job (items.Settle item) = false
is_call_of job (items.Dirty index) = false
is_call_of job (items.DirtyOk index) = false
is_call_of job (items.DirtyNo index) = false
is_call_of job (items.Clean index) = false

-- whether a message has exactly the contents of a job
abbrev pub is_job : Job → Message → Bool
is_job job message = message.from == job.client && is_call_of job message.item

-- whether a message carries a reference that is lost
abbrev pub is_lost_message : (s n : ℕ) → List Deed → Message → Bool
is_lost_message s n D message = list_any (λ copy. is_lost s n copy.rep D) message.copies
