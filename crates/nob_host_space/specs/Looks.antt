-- What can be seen of a space, in numbers. The newest entry of a space stands FIRST.
use Rattle.std.specs.Prelude.{◌≡◌, ◌≤◌, ℕ, ◌-◌, false, List, Option, Some, None, is_some}
use Rattle.std.specs.Int.{bit_at}
use Rattle.nob_ids.specs.Reasons.{reason_number}
use Rattle.nob_ids.specs.declared.reason.Reason.{Reason}
use Rattle.nob_model_types.specs.declared.entry.Entry.{Entry}
use Rattle.nob_model_types.specs.declared.tally.Tally.{Tally as SessionTally}
use Rattle.nob_model_history.specs.declared.history.History.{History}
use Rattle.nob_model_history.specs.Histories.{history}
use Rattle.nob_model.specs.Next.{can_act, can_send, can_settle, can_clean, can_claim, to_withdraw}
use Rattle.nob_space.specs.Spaces.{Owner, StandsFor}
use Rattle.nob_host_space.specs.Bits.{bit_of}
use Rattle.nob_host_space.specs.declared.looks.Work.{Work}
use Rattle.nob_host_space.specs.declared.looks.Tally.{Tally}
use Rattle.nob_session.specs.declared.due.Due.{Due}
use Rattle.nob_session.specs.declared.due.Due.TheVariants as dues

-- a number, or 0 where there is none
abbrev pub or_zero : Option ℕ → ℕ
or_zero (Some number) = number
or_zero None = 0

-- the number of what a Transmit would give
abbrev pub due_number : Due → ℕ
due_number dues.Nothing = 0
due_number dues.Ack = 1
due_number dues.Again = 2
due_number dues.New = 3
due_number dues.Close = 4

-- the number of the reason why an end closed, or 0 where it is open
abbrev pub ending_number : Option Reason → ℕ
ending_number (Some reason) = reason_number reason
ending_number None = 0

-- the tally of a session in numbers
abbrev pub tally_in_numbers : SessionTally → Tally
tally_in_numbers tally = record { session = tally.session; closed = ending_number tally.closed; sent = tally.sent; acted = tally.acted }

-- the tally of no session
abbrev pub tally_of_none : Tally
tally_of_none = record { session = 0; closed = 0; sent = 0; acted = 0 }

-- there is nothing that could be done
abbrev pub no_work : Work
no_work = record { act = 0; send = 0; settle = false; clean = false; claim = false; withdraw = false; index = 0 }

-- what a space did that these entries tell
abbrev pub past_of : Owner → List Entry → History
past_of space L = history space.id space.n L

-- what a space could do next: a bit for each peer, tests, and the least index of an object to withdraw
pub record ShowsWork (space : Owner) (work : Work) : Type 0 where
  pub act : (L : List Entry) → StandsFor space L → (p : ℕ) → 1 ≤ p → p ≤ 32 → bit_at work.act (p - 1) ≡ bit_of (can_act space.id space.n p (past_of space L))
  pub send : (L : List Entry) → StandsFor space L → (p : ℕ) → 1 ≤ p → p ≤ 32 → bit_at work.send (p - 1) ≡ bit_of (can_send space.id space.n p space.limits.window (past_of space L))
  pub settle : (L : List Entry) → StandsFor space L → work.settle ≡ can_settle space.id space.n (past_of space L)
  pub clean : (L : List Entry) → StandsFor space L → work.clean ≡ can_clean space.id space.n (past_of space L)
  pub claim : (L : List Entry) → StandsFor space L → work.claim ≡ can_claim (past_of space L)
  pub withdraw : (L : List Entry) → StandsFor space L → work.withdraw ≡ is_some (to_withdraw space.id (past_of space L))
  pub index : (L : List Entry) → StandsFor space L → work.index ≡ or_zero (to_withdraw space.id (past_of space L))
