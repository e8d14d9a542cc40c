-- The messages of a space that wait for their references, as a contract sees them.
use Rattle.std.specs.Prelude.{◌≡◌, ℕ, ◌+◌, nat_lt, Bool, true, false, ◌&&◌, ◌==◌, not, List, [], ◌∷◌, length, map, filter}
use Rattle.std.specs.List.{list_any, list_all}
use Rattle.nob_ids.specs.Names.{is_counted, is_same}
use Rattle.nob_ids.specs.declared.wire_rep.WireRep.{WireRep}
use Rattle.nob_model_types.specs.declared.message.Loan.{Loan}
use Rattle.nob_model_types.specs.declared.message.Loan.TheVariants as loans
use Rattle.nob_model_types.specs.declared.message.Message.{Message}
use Rattle.nob_model_types.specs.declared.message.RefCopy.{RefCopy}
use Rattle.nob_model_types.specs.Messages.{loan_after}

-- the messages in order, the references whose owners' answers are to come, and below how many copies a message fits without memory
pub record WaitingList : Type 0 where
  pub items : List Message
  pub awaited : List WireRep
  pub room : ℕ

-- whether a copy is of a counted reference of this owner
abbrev pub is_copy_of : ℕ → RefCopy → Bool
is_copy_of owner copy = copy.rep.owner == owner && is_counted copy.rep

-- whether a message carries a counted reference of this owner
abbrev pub carries_any_of : ℕ → Message → Bool
carries_any_of owner message = list_any (is_copy_of owner) message.copies

-- whether a loan is due
abbrev pub is_due : Loan → Bool
is_due loans.Due = true
is_due loans.Lent = false
is_due loans.Never = false

-- whether a copy is of a reference, and its loan is due
abbrev pub waits_for : WireRep → RefCopy → Bool
waits_for rep copy = is_same rep copy.rep && is_due copy.loan

-- a copy once a reference is granted
abbrev pub granted_copy : WireRep → RefCopy → RefCopy
granted_copy rep copy = record { rep = copy.rep; loan = loan_after (is_same rep copy.rep) copy.loan }

-- a message once a reference is granted
abbrev pub granted_message : WireRep → Message → Message
granted_message rep message = record { from = message.from; session = message.session; number = message.number; item = message.item; copies = map (granted_copy rep) message.copies }

-- how many loans of a reference are due to a message
abbrev pub due_to : WireRep → Message → ℕ
due_to rep message = length (filter (waits_for rep) message.copies)

-- how many loans of a reference are due to some messages
abbrev pub due_to_all : WireRep → List Message → ℕ
due_to_all rep [] = 0
due_to_all rep (message ∷ messages) = due_to rep message + due_to_all rep messages

-- whether one of these messages has a copy of a reference whose loan is due
abbrev pub is_due_in : List Message → WireRep → Bool
is_due_in messages rep = nat_lt 0 (due_to_all rep messages)

-- whether a reference is awaited: its owner's answer is to come
abbrev pub is_awaited : List WireRep → WireRep → Bool
is_awaited awaited rep = list_any (is_same rep) awaited

-- whether a copy is due and its reference passes a test
abbrev pub is_due_where : (WireRep → Bool) → RefCopy → Bool
is_due_where test copy = is_due copy.loan && test copy.rep

-- whether a message may be settled: no copy whose loan is due is of a reference that is awaited
abbrev pub is_settleable_in : WaitingList → Message → Bool
is_settleable_in w message = list_all (λ copy. not (is_due_where (is_awaited w.awaited) copy)) message.copies

-- each reference that is due to a message and to others that wait is awaited
abbrev pub IsNew : WaitingList → Message → Type 0
IsNew w message = (rep : WireRep) → is_due_in (message ∷ []) rep ≡ true → is_due_in w.items rep ≡ true → is_awaited w.awaited rep ≡ true
