-- What holds of every list that a state stands for, since each of its deeds was right; and when one deed more is.
use Rattle.std.proofs.Common.{◌≡◌, ℕ, ◌+◌, ◌≤◌, true, false, ◌&&◌, nat_le, List, [], ◌∷◌, length, Ok, ap}
use Rattle.std.specs.Prelude.{⊤}
use Rattle.std.specs.List.{IsDistinct}
use Rattle.nob_ids.specs.Names.{is_counted, is_same}
use Rattle.nob_ids.specs.declared.limits.Limits.{Limits}
use Rattle.nob_ids.specs.declared.reason.Reason.{Reason}
use Rattle.nob_ids.specs.declared.wire_rep.WireRep.{WireRep}
use Rattle.nob_frame.specs.declared.frame.Frame.{Frame}
use Rattle.nob_pickle.specs.declared.value.Value.{Value}
use Rattle.nob_model_types.specs.declared.answer.Answer.TheVariants as answers
use Rattle.nob_model_types.specs.declared.answer.Job.{Job}
use Rattle.nob_model_types.specs.declared.event.Event.TheVariants as events
use Rattle.nob_model_types.specs.declared.event.Outcome.{Outcome}
use Rattle.nob_model_types.specs.Deeds.{deed_by}
use Rattle.nob_model_types.specs.declared.deed.Cause.TheVariants as causes
use Rattle.nob_model_types.specs.declared.deed.Deed.{Deed}
use Rattle.nob_model_types.specs.declared.deed.Deed.TheVariants as did
use Rattle.nob_model_types.specs.declared.deed.Deed.TheVariants.{Act}
use Rattle.nob_model_types.specs.Objects as objects
use Rattle.nob_model_types.specs.Sessions.{is_peer, closed}
use Rattle.nob_model_history.specs.Histories.{history_of}
use Rattle.nob_model_history.specs.Holds.{times, gains, releases}
use Rattle.nob_model_history.specs.Premises.{SettlesSent, NumbersRise}
use Rattle.nob_model.specs.Opening.{right_open}
use Rattle.nob_model.specs.Right.{right_after, right_export, right_dup, right_release, right_withdraw, right_call, right_take_reply, right_claim, right_finish, right_frames, right_closing, right_ticks, right_arrival}
use Rattle.nob_model.specs.Lists.{IsRightDeed, AreRightDeeds}
use Rattle.nob_model.proofs.Accepted.{act_tells}
use Rattle.nob_model.proofs.Doing.{was_answered}
use Rattle.nob_model.proofs.Orderly as model
use Rattle.nob_model.proofs.Premises.{settles_sent}
use Rattle.nob_model.proofs.Reopening.{numbers_rise}
use Rattle.nob_space_state.specs.Parts.{State}
use Rattle.nob_space_state.specs.Stands.{Stands}

-- each item that was acted on came from a peer
abbrev pub ActsOnPeers : (s n : ℕ) → List Deed → Type 0
ActsOnPeers s n [] = ⊤
ActsOnPeers s n (Act p k ∷ D) = (is_peer s n p ≡ true) × ActsOnPeers s n D
ActsOnPeers s n (_ ∷ D) = ActsOnPeers s n D

-- what holds of every list of right deeds, and no state shows
pub record IsOrderly (s n : ℕ) (D : List Deed) : Type 0 where
  -- the indexes that were given are 1, 2, .. without a gap
  pub exported : (index : ℕ) → objects.is_exported s index D ≡ (nat_le 1 index && nat_le index (length (objects.exports D)))
  -- no index was given twice
  pub once : IsDistinct is_same (objects.exports D)
  -- no counted reference was released more often than it came into the hand
  pub released : (rep : WireRep) → is_counted rep ≡ true → times rep (releases D) ≤ times rep (gains D)
  -- what was withdrawn was exported
  pub withdrawn : (index : ℕ) → objects.is_withdrawn index D ≡ true → objects.is_exported s index D ≡ true
  -- no session with a space that is no peer closed
  pub strangers : (p : ℕ) → is_peer s n p ≡ false → closed p D ≡ false
  -- what was settled was sent
  pub settles : SettlesSent s n D
  -- sessions were opened anew under numbers that rise
  pub rises : NumbersRise D
  -- what was acted on came from peers
  pub acts : ActsOnPeers s n D

acted_peer : (s n : ℕ) (limits : Limits) (p k : ℕ) (D : List Deed) → IsRightDeed s n limits (Act p k) D → is_peer s n p ≡ true
unfolding right_after
acted_peer s n limits p k D right = (act_tells s n p k (history_of s n D) (was_answered s n limits (Act p k) D right)).0

acts_on_peers : (s n : ℕ) (limits : Limits) (D : List Deed) → AreRightDeeds s n limits D → ActsOnPeers s n D
acts_on_peers s n limits [] right = tt
acts_on_peers s n limits (Act p k ∷ D) right = (acted_peer s n limits p k D right.0, acts_on_peers s n limits D right.1)
acts_on_peers s n limits (deed ∷ D) right = acts_on_peers s n limits D right.1

-- a list that a state stands for is orderly
pub orderly : {s n : ℕ} {limits : Limits} {st : State} {D : List Deed} → Stands s n limits st D → IsOrderly s n D
orderly {s} {n} {limits} {st} {D} stands = record {
  exported = model.exported s n limits D stands.right;
  once = model.once s n limits D stands.right;
  released = model.released s n limits D stands.right;
  withdrawn = model.withdrawn s n limits D stands.right;
  strangers = model.strangers s n limits D stands.right;
  settles = settles_sent s n limits D stands.right;
  rises = numbers_rise s n limits D stands.right;
  acts = acts_on_peers s n limits D stands.right;
}

-- ---- one deed more

module _ (s n : ℕ) (limits : Limits) (D : List Deed) where
  pub export_is : (rep : WireRep) → right_export s (history_of s n D) ≡ Ok (answers.Exported rep) → IsRightDeed s n limits (did.Export rep) D
  unfolding right_after
  export_is rep is = (events.Export, ap (deed_by events.Export) is)

  pub dup_is : (rep : WireRep) → right_dup s rep (history_of s n D) ≡ Ok answers.Done → IsRightDeed s n limits (did.Dup rep) D
  unfolding right_after
  dup_is rep is = (events.Dup rep, ap (deed_by (events.Dup rep)) is)

  pub release_is : (rep : WireRep) → right_release s rep (history_of s n D) ≡ Ok answers.Done → IsRightDeed s n limits (did.Release rep) D
  unfolding right_after
  release_is rep is = (events.Release rep, ap (deed_by (events.Release rep)) is)

  pub withdraw_is : (index : ℕ) → right_withdraw s index (history_of s n D) ≡ Ok answers.Withdrawn → IsRightDeed s n limits (did.Withdraw index) D
  unfolding right_after
  withdraw_is index is = (events.Withdraw index, ap (deed_by (events.Withdraw index)) is)

  pub call_is : (target : WireRep) (method : ℕ) (value : Value) (call : ℕ) → right_call s n target value (history_of s n D) ≡ Ok (answers.Called call) → IsRightDeed s n limits (did.Call target method value call) D
  unfolding right_after
  call_is target method value call is = (events.Call target method value, ap (deed_by (events.Call target method value)) is)

  pub take_is : (call status : ℕ) (value : Value) → right_take_reply call (history_of s n D) ≡ Ok (answers.Replied status value) → IsRightDeed s n limits (did.TakeReply call status value) D
  unfolding right_after
  take_is call status value is = (events.TakeReply call, ap (deed_by (events.TakeReply call)) is)

  pub end_is : (call : ℕ) → right_take_reply call (history_of s n D) ≡ Ok answers.Ended → IsRightDeed s n limits (did.TakeEnd call) D
  unfolding right_after
  end_is call is = (events.TakeReply call, ap (deed_by (events.TakeReply call)) is)

  pub claim_is : (job : Job) → right_claim (history_of s n D) ≡ Ok (answers.Job job) → IsRightDeed s n limits (did.Claim job) D
  unfolding right_after
  claim_is job is = (events.Claim, ap (deed_by events.Claim) is)

  pub finish_is : (job : ℕ) (outcome : Outcome) → right_finish s job outcome (history_of s n D) ≡ Ok answers.Finished → IsRightDeed s n limits (did.Finish job outcome) D
  unfolding right_after
  finish_is job outcome is = (events.Finish job outcome, ap (deed_by (events.Finish job outcome)) is)

  pub drop_is : (job : ℕ) (outcome : Outcome) → right_finish s job outcome (history_of s n D) ≡ Ok answers.Dropped → IsRightDeed s n limits (did.DropReply job) D
  unfolding right_after
  drop_is job outcome is = (events.Finish job outcome, ap (deed_by (events.Finish job outcome)) is)

  pub transmit_is : (p : ℕ) (frames : List Frame) → right_frames s n p limits.window (history_of s n D) ≡ Ok (answers.Frames frames) → IsRightDeed s n limits (did.Transmit p frames) D
  unfolding right_after
  transmit_is p frames is = (events.Transmit p, ap (deed_by (events.Transmit p)) is)

  pub close_is : (p : ℕ) (reason : Reason) → right_closing s n p (history_of s n D) ≡ Ok (answers.Closed reason) → IsRightDeed s n limits (did.Closing p reason causes.Asked) D
  unfolding right_after
  close_is p reason is = (events.Close p, ap (deed_by (events.Close p)) is)

  pub tick_is : (p : ℕ) → right_ticks s n p limits.retry (history_of s n D) ≡ Ok answers.Done → IsRightDeed s n limits (did.Tick p) D
  unfolding right_after
  tick_is p is = (events.Tick p, ap (deed_by (events.Tick p)) is)

  pub ticks_close_is : (p : ℕ) (reason : Reason) → right_ticks s n p limits.retry (history_of s n D) ≡ Ok (answers.Closed reason) → IsRightDeed s n limits (did.Closing p reason causes.Ticks) D
  unfolding right_after
  ticks_close_is p reason is = (events.Tick p, ap (deed_by (events.Tick p)) is)

  pub arrive_is : (frame : Frame) (count : ℕ) → right_arrival s n frame (history_of s n D) ≡ Ok (answers.Took count) → IsRightDeed s n limits (did.Arrive frame count) D
  unfolding right_after
  arrive_is frame count is = (events.Arrive frame, ap (deed_by (events.Arrive frame)) is)

  pub arrive_close_is : (frame : Frame) (reason : Reason) → right_arrival s n frame (history_of s n D) ≡ Ok (answers.Closed reason) → IsRightDeed s n limits (did.Closing frame.from reason (causes.Frame frame)) D
  unfolding right_after
  arrive_close_is frame reason is = (events.Arrive frame, ap (deed_by (events.Arrive frame)) is)

  pub open_is : (p k : ℕ) → right_open s n p (history_of s n D) ≡ Ok (answers.Opened k) → IsRightDeed s n limits (did.Open p k) D
  unfolding right_after
  open_is p k is = (events.Open p, ap (deed_by (events.Open p)) is)
