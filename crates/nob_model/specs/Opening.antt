-- Open: a session that closed opens anew once nothing of its peer's objects is left here.
use Rattle.std.specs.Prelude.{ℕ, ◌+◌, max, Bool, ◌&&◌, ◌||◌, ◌==◌, not, nat_lt, ◌++◌, Option, Result}
use Rattle.std.specs.List.{list_any}
use Rattle.nob_ids.specs.Names.{is_counted}
use Rattle.nob_ids.specs.declared.wire_rep.WireRep.{WireRep}
use Rattle.nob_model_session.specs.End.{last_session, seen}
use Rattle.nob_model_types.specs.declared.answer.Answer.{Answer}
use Rattle.nob_model_types.specs.declared.answer.Answer.TheVariants as answers
use Rattle.nob_model_types.specs.declared.refusal.Refusal.{Refusal}
use Rattle.nob_model_types.specs.declared.refusal.Refusal.TheVariants as refusals
use Rattle.nob_model_types.specs.declared.message.Message.{Message}
use Rattle.nob_model_types.specs.Sessions.{is_peer, closed, number}
use Rattle.nob_model_history.specs.declared.history.History.{History}
use Rattle.nob_model_history.specs.Ends.{calls_at}
use Rattle.nob_model_history.specs.Holds.{gains, lent_in, is_held}
use Rattle.nob_model_history.specs.Transit.{pinned}
use Rattle.nob_model_acting.specs.Sending.{◌or_else◌, refuse_if, unless}

-- whether a reference is counted and owned by p
abbrev pub is_owned_by : ℕ → WireRep → Bool
is_owned_by p rep = rep.owner == p && is_counted rep

-- whether space s holds a reference that p owns: one that came into the hand or is lent
abbrev pub holds_any_of : (s p : ℕ) → History → Bool
holds_any_of s p h = list_any (λ rep. is_owned_by p rep && is_held s rep h) (gains h.deeds ++ lent_in s h.work)

-- whether a message carries a counted reference that p owns
abbrev pub carries_any_of : ℕ → Message → Bool
carries_any_of p message = list_any (λ copy. is_owned_by p copy.rep) message.copies

-- whether a counted reference that p owns is held, is pinned, or stands in a message that waits
abbrev pub still_held : (s p : ℕ) → History → Bool
still_held s p h = holds_any_of s p h || list_any (is_owned_by p) (pinned h) || list_any (carries_any_of p) h.work.waiting

-- the number of the next session with p: above the present one, and none below what p's frames had
abbrev pub next_number : ℕ → History → ℕ
next_number p h = max (number p h.deeds + 1) (seen (calls_at p h))

-- why a session with p isn't opened: no such peer, it is open here, something of its peer's is held here, or no number is left
abbrev pub open_refused : (s n p : ℕ) → History → Option Refusal
open_refused s n p h = refuse_if (not (is_peer s n p)) refusals.NoPeer or_else refuse_if (not (closed p h.deeds)) refusals.StillOpen or_else refuse_if (still_held s p h) refusals.StillHeld or_else refuse_if (nat_lt last_session (next_number p h)) refusals.Limit

-- Open: the number under which the session with p is open now
unfoldable pub right_open : (s n p : ℕ) → History → Result Answer Refusal
right_open s n p h = unless (open_refused s n p h) (answers.Opened (next_number p h))
