-- A deed by two steps: what it makes of what is outstanding where it is no Act, and then the item that it acts on, which is
-- looked at once the deed is done.
use Rattle.std.specs.Prelude.{ℕ, Bool, true, false, List, [], Option, Some, None, find}
use Rattle.nob_item.specs.declared.item.Item.{Item}
use Rattle.nob_model_types.specs.declared.deed.Deed.{Deed}
use Rattle.nob_model_types.specs.declared.deed.Deed.TheVariants.{Call, TakeReply, TakeEnd, Claim, Finish, DropReply, Act, Settle, Closing}
use Rattle.nob_model_types.specs.declared.message.Loan.{Loan}
use Rattle.nob_model_types.specs.declared.message.Loan.TheVariants as loans
use Rattle.nob_model_types.specs.declared.message.RefCopy.{RefCopy}
use Rattle.nob_model_types.specs.declared.message.Message.{Message}
use Rattle.nob_model_types.specs.Sessions.{number, item_at}
use Rattle.nob_model_types.specs.Messages.{is_of, is_job, new_message, message_after}
use Rattle.nob_model_work.specs.Work.{after_call, after_take, after_end, after_claim, after_finish, after_settle, after_close, after_message}
use Rattle.nob_model_work.specs.declared.work.Outstanding.{Outstanding}

-- whether a loan isn't made yet
abbrev pub is_due_loan : Loan → Bool
is_due_loan loans.Due = true
is_due_loan loans.Lent = false
is_due_loan loans.Never = false

-- whether the loan of a copy isn't made yet
abbrev pub is_due : RefCopy → Bool
is_due copy = is_due_loan copy.loan

-- an item from p that came in a session as a message of which no reference is looked at yet
abbrev pub fresh_message : (p session k : ℕ) → Option Item → Option Message
fresh_message p session k None = None
fresh_message p session k (Some item) = Some (record { from = p; session = session; number = k; item = item; copies = [] })

-- the item that a deed acts on, as such a message
abbrev pub acted_on : Deed → List Deed → Option Message
acted_on (Act p k) D = fresh_message p (number p D) k (item_at p k D)
acted_on (_) D = None

-- what is outstanding once it is a message, by what was done
unfoldable pub after_acted : (s n : ℕ) → List Deed → Option Message → Outstanding → Outstanding
after_acted s n D None work = work
after_acted s n D (Some message) work = after_message (new_message s n message.from message.number message.item D) message.item work

-- what is outstanding once it is a message whose own loans are made
unfoldable pub after_lent : (s n : ℕ) → List Deed → Option Message → Outstanding → Outstanding
after_lent s n D None work = work
after_lent s n D (Some message) work = after_message (message_after s n D (new_message s n message.from message.number message.item D)) message.item work

-- what is outstanding after a deed that is no Act, the loans aside
unfoldable pub after_other : (s n : ℕ) → Deed → List Deed → Outstanding → Outstanding
after_other s n (Call target method value call) D work = after_call target.owner call work
after_other s n (TakeReply call status value) D work = after_take call work
after_other s n (TakeEnd call) D work = after_end call work
after_other s n (Claim job) D work = after_claim job (find (is_job job) work.ready) work
after_other s n (Finish job outcome) D work = after_finish job work
after_other s n (DropReply job) D work = after_finish job work
after_other s n (Settle p k) D work = after_settle s n p k D (find (is_of p k) work.waiting) work
after_other s n (Closing p reason cause) D work = after_close p work
after_other s n (_) D work = work
