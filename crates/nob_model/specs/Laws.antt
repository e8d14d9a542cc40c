-- The laws of right lists, and of what a space could do next.
use Rattle.std.specs.Prelude.{◌+◌, ◌≡◌, ◌≢◌, ◌≤◌, ◌↔◌, ◌==◌, ℕ, Bool, true, false, List, [], ◌∷◌, ⊤, Option, MatchOption, Result, Ok, Err}
use Rattle.nob_ids.specs.declared.limits.Limits.{Limits}
use Rattle.nob_ids.specs.declared.wire_rep.WireRep.{WireRep}
use Rattle.nob_item.specs.declared.item.Item.{Item}
use Rattle.nob_model_session.specs.Right as end
use Rattle.nob_model_session.specs.declared.entry.EndEntry.{EndEntry}
use Rattle.nob_model_types.specs.declared.answer.Answer.{Answer}
use Rattle.nob_model_types.specs.declared.answer.Answer.TheVariants as answers
use Rattle.nob_model_types.specs.declared.refusal.Refusal.{Refusal}
use Rattle.nob_model_types.specs.declared.refusal.Refusal.TheVariants as refusals
use Rattle.nob_model_types.specs.declared.entry.Entry.{Entry}
use Rattle.nob_model_types.specs.declared.deed.Deed.{Deed}
use Rattle.nob_model_types.specs.Deeds.{deeds}
use Rattle.nob_model_types.specs.Sessions.{acted}
use Rattle.nob_model_types.specs.Objects.{is_live}
use Rattle.nob_model_history.specs.declared.history.History.{History}
use Rattle.nob_model_work.specs.Work.{work}
use Rattle.nob_model_history.specs.Histories.{history_of}
use Rattle.nob_model_history.specs.Ends.{calls_at}
use Rattle.nob_model_history.specs.Holds.{times, hand, lent_in, holds}
use Rattle.nob_model_history.specs.Listing.{is_listed}
use Rattle.nob_model_history.specs.Premises.{NumbersRise, InTurn, SettlesSent, TookTurns, ObjectsInTurn}
use Rattle.nob_model_history.specs.Transit.{is_some_of, pins}
use Rattle.nob_model.specs.Right.{own_ref, right_act, right_frames, right_settle, right_clean, right_claim, right_withdraw, right_take_reply}
use Rattle.nob_model.specs.Lists.{AreRight, AreRightDeeds}
use Rattle.nob_model.specs.Next.{can_act, can_send, can_settle, can_clean, can_claim, can_withdraw, to_withdraw, reply_ready}

-- what right entries did are right deeds
abbrev pub DeedsLaw : Type 0
DeedsLaw = (s n : ℕ) (limits : Limits) (L : List Entry) → AreRight s n limits L → AreRightDeeds s n limits (deeds L)

-- right deeds are what some right entries did
abbrev pub EntriesLaw : Type 0
EntriesLaw = (s n : ℕ) (limits : Limits) (D : List Deed) → AreRightDeeds s n limits D → (L : List Entry) × AreRight s n limits L × (deeds L ≡ D)

-- in a list of right deeds the number of the session with each peer rises with each Open of it
abbrev pub NumbersLaw : Type 0
NumbersLaw = (s n : ℕ) (limits : Limits) (D : List Deed) → AreRightDeeds s n limits D → NumbersRise D

-- in a list of right deeds each one accepted the next items or none
abbrev pub TurnLaw : Type 0
TurnLaw = (s n : ℕ) (limits : Limits) (D : List Deed) → AreRightDeeds s n limits D → InTurn s n D

-- in a list of right deeds each Settle that was acted on was of an item that was sent before
abbrev pub SettledLaw : Type 0
SettledLaw = (s n : ℕ) (limits : Limits) (D : List Deed) → AreRightDeeds s n limits D → SettlesSent s n D

-- in a list of right deeds client and owner took turns
abbrev pub TurnsLaw : Type 0
TurnsLaw = (s n : ℕ) (limits : Limits) (D : List Deed) → AreRightDeeds s n limits D → TookTurns s n D

-- in a list of right deeds objects were exported and withdrawn in turn
abbrev pub ObjectsLaw : Type 0
ObjectsLaw = (s n : ℕ) (limits : Limits) (D : List Deed) → AreRightDeeds s n limits D → ObjectsInTurn s D

-- after a list of right deeds whoever is listed is listed for a live object
abbrev pub ListedLaw : Type 0
ListedLaw = (s n : ℕ) (limits : Limits) (D : List Deed) → AreRightDeeds s n limits D → (index c : ℕ) → is_listed s index c D ≡ true → is_live s index D ≡ true

-- after a list of right deeds an object that has pins at its owner is live
abbrev pub PinnedLaw : Type 0
PinnedLaw = (s n : ℕ) (limits : Limits) (D : List Deed) → AreRightDeeds s n limits D → (index : ℕ) → (pins (own_ref s index) (history_of s n D) == 0) ≡ false → is_live s index D ≡ true

-- after a list of right deeds the holds of a reference are those in the hand and those that are lent
abbrev pub HoldsLaw : Type 0
HoldsLaw = (s n : ℕ) (limits : Limits) (D : List Deed) → AreRightDeeds s n limits D → (rep : WireRep) → holds s rep (history_of s n D) ≡ hand rep D + times rep (lent_in s (work s n D))

-- items have the numbers n, n + 1, .. in order
abbrev pub AreFrom : ℕ → List (ℕ × Option Item) → Type 0
AreFrom n [] = ⊤
AreFrom n (pair ∷ pairs) = (pair.0 ≡ n) × AreFrom (n + 1) pairs

-- in a list of right deeds the items from a peer that were acted on have the numbers 1, 2, .. in order
abbrev pub ActedLaw : Type 0
ActedLaw = (s n : ℕ) (limits : Limits) (D : List Deed) → AreRightDeeds s n limits D → (p : ℕ) → AreFrom 1 (acted p D)

-- each call on an end of a session is right after the calls before
abbrev pub AreRightCalls : (me peer : ℕ) → Limits → List EndEntry → Type 0
AreRightCalls me peer limits [] = ⊤
AreRightCalls me peer limits (call ∷ calls) = end.IsRight me peer limits call calls × AreRightCalls me peer limits calls

-- in a list of right deeds the calls on the end with each peer are right
abbrev pub CallsLaw : Type 0
CallsLaw = (s n : ℕ) (limits : Limits) (D : List Deed) → AreRightDeeds s n limits D → (p : ℕ) → AreRightCalls s p limits (calls_at p (history_of s n D))

-- whether a result is no refusal, limits and free numbers aside
abbrev pub is_possible : Result Answer Refusal → Bool
is_possible (Ok answer) = true
is_possible (Err refusals.Limit) = true
is_possible (Err refusals.SeqEnd) = true
is_possible (Err _) = false

-- whether a result is at least one frame
abbrev pub gives_frame : Result Answer Refusal → Bool
gives_frame (Ok (answers.Frames frames)) = is_some_of frames
gives_frame _ = false

-- there is an item from p to act on exactly where Act is no refusal, limits and free numbers aside
abbrev pub ActLaw : Type 0
ActLaw = (s n p : ℕ) (h : History) → can_act s n p h ≡ is_possible (right_act s n p h)

-- there is a frame for p exactly where Transmit gives one
abbrev pub SendLaw : Type 0
SendLaw = (s n p window : ℕ) (h : History) → can_send s n p window h ≡ gives_frame (right_frames s n p window h)

-- there is a message to settle exactly where Settle is no refusal, limits and free numbers aside
abbrev pub SettleLaw : Type 0
SettleLaw = (s n : ℕ) (h : History) → can_settle s n h ≡ is_possible (right_settle s n h)

-- there is a surrogate to give up exactly where Clean is no refusal, limits and free numbers aside
abbrev pub CleanLaw : Type 0
CleanLaw = (s n : ℕ) (h : History) → can_clean s n h ≡ is_possible (right_clean s n h)

-- there is a job to claim exactly where Claim is no refusal, limits and free numbers aside
abbrev pub ClaimLaw : Type 0
ClaimLaw = (s n : ℕ) (D : List Deed) → can_claim (history_of s n D) ≡ is_possible (right_claim (history_of s n D))

-- Withdraw of an object that can be withdrawn is no refusal
abbrev pub WithdrawLaw : Type 0
WithdrawLaw = (s index : ℕ) (h : History) → (can_withdraw s h index ≡ true) ↔ (right_withdraw s index h ≡ Ok answers.Withdrawn)

-- the object to withdraw next is the one of least index that Withdraw takes, and where there is none it takes none
abbrev pub LeastLaw : Type 0
LeastLaw = (s : ℕ) (h : History) → MatchOption (to_withdraw s h) ((other : ℕ) → right_withdraw s other h ≢ Ok answers.Withdrawn) (λ index. (right_withdraw s index h ≡ Ok answers.Withdrawn) × ((other : ℕ) → right_withdraw s other h ≡ Ok answers.Withdrawn → index ≤ other))

-- a reply isn't ready exactly where TakeReply says so
abbrev pub ReplyLaw : Type 0
ReplyLaw = (k : ℕ) (h : History) → (reply_ready k h ≡ false) ↔ (right_take_reply k h ≡ Err refusals.NotReady)
