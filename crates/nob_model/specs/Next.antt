-- What a space could do next, and whether a reply is ready: limits and free numbers aside.
use Rattle.std.specs.Prelude.{ℕ, Bool, true, false, ◌&&◌, not, min, List, [], ◌∷◌, map, filter, Option, Some, None, is_some, is_none, Result, Ok, Err}
use Rattle.nob_model_session.specs.Right.{right_transmit, right_front}
use Rattle.nob_model_types.specs.declared.answer.Answer.{Answer}
use Rattle.nob_model_types.specs.declared.refusal.Refusal.{Refusal}
use Rattle.nob_model_types.specs.declared.refusal.Refusal.TheVariants as refusals
use Rattle.nob_model_types.specs.Sessions.{is_peer, closed}
use Rattle.nob_model_types.specs.Objects.{live}
use Rattle.nob_model_history.specs.declared.history.History.{History}
use Rattle.nob_model_history.specs.Ends.{calls_at}
use Rattle.nob_model_history.specs.Transit.{is_some_of}
use Rattle.nob_model_acting.specs.Candidates.{to_settle, to_clean, to_claim}
use Rattle.nob_model.specs.Right.{withdraw_refused, right_take_reply}

-- whether there is an item from p to act on, also one whose fault closes the session
abbrev pub can_act : (s n p : ℕ) → History → Bool
can_act s n p h = is_peer s n p && not (closed p h.deeds) && is_some (right_front (calls_at p h))

-- whether a Transmit to p would give a frame
abbrev pub can_send : (s n p window : ℕ) → History → Bool
can_send s n p window h = is_peer s n p && is_some_of (right_transmit s p window (calls_at p h))

-- whether there is a message to settle
abbrev pub can_settle : (s n : ℕ) → History → Bool
can_settle s n h = is_some (to_settle s n h)

-- whether there is a surrogate to give up
abbrev pub can_clean : (s n : ℕ) → History → Bool
can_clean s n h = is_some (to_clean s n h)

-- whether there is a job to claim
abbrev pub can_claim : History → Bool
can_claim h = is_some (to_claim h)

-- whether an object can be withdrawn
abbrev pub can_withdraw : ℕ → History → ℕ → Bool
can_withdraw s h index = is_none (withdraw_refused s index h)

-- the lesser of a number and another, if there is another
abbrev pub lesser : ℕ → Option ℕ → Option ℕ
lesser x None = Some x
lesser x (Some y) = Some (min x y)

-- the least of some numbers
abbrev pub least : List ℕ → Option ℕ
least [] = None
least (x ∷ xs) = lesser x (least xs)

-- the least index of a live object that can be withdrawn
abbrev pub to_withdraw : ℕ → History → Option ℕ
to_withdraw s h = least (filter (can_withdraw s h) (map (λ rep. rep.index) (live s h.deeds)))

-- whether a call's answer is that its reply isn't ready
abbrev pub is_not_ready : Result Answer Refusal → Bool
is_not_ready (Err refusals.NotReady) = true
is_not_ready _ = false

-- whether TakeReply of call k would say anything but that the reply isn't ready: of a call that was never made or is taken too
abbrev pub reply_ready : ℕ → History → Bool
reply_ready k h = not (is_not_ready (right_take_reply k h))
