-- Ends that are alike answer alike.
use Rattle.std.proofs.Common.{◌≡◌, ℕ, zero, suc, ◌+◌, ◌-◌, ◌&&◌, ◌||◌, not, cond, List, [], ◌∷◌, length, take, drop, Option, Some, None, Ok, Err, refl, ap, ◌∙◌}
use Rattle.std.specs.Prelude.{◌==◌, nat_lt, nat_le, is_none}
use Rattle.std.specs.Option.{option_or}
use Rattle.nob_ids.specs.declared.reason.Reason.{Reason}
use Rattle.nob_ids.specs.declared.reason.Reason.TheVariants.{PeerClosed, RetriesUsedUp, BadItem}
use Rattle.nob_frame.specs.declared.frame.Frame.{Frame}
use Rattle.nob_frame.specs.Kinds.{is_data, is_close}
use Rattle.nob_model_session.specs.declared.refusal.EndRefusal.TheVariants as refusal
use Rattle.nob_model_session.specs.declared.entry.Kind.{Kind}
use Rattle.nob_model_session.specs.declared.entry.Arrived.TheVariants as arrived
use Rattle.nob_model_session.specs.declared.entry.EndEntry.{EndEntry}
use Rattle.nob_model_session.specs.declared.entry.EndEntry.TheVariants as ends
use Rattle.nob_model_session.specs.End as end
use Rattle.nob_model_session.specs.Right.{queue_limit, inbox_limit, is_limited, right_send, open_frames, closed_frames, right_transmit, is_of_pair, in_a_row, taken_by, right_arrive, first_of, right_front, right_tick, right_close}
use Rattle.nob_model_jobs.specs.Alike.{AreEndsAlike}

module _ (a b : List EndEntry) (its : AreEndsAlike a b) where
  pub same_open : end.is_open a ≡ end.is_open b
  same_open = ap (λ (e : Option Reason). is_none e) its.endings

  same_unacknowledged : end.unacknowledged a ≡ end.unacknowledged b
  same_unacknowledged = λ i. cond (same_open i) (drop (its.lows i - 1) (its.sent i)) []

  same_waiting : end.waiting a ≡ end.waiting b
  same_waiting = λ i. cond (same_open i) (drop (its.taken i) (its.kept i)) []

  pub same_send : (kind : Kind) → right_send kind a ≡ right_send kind b
  same_send kind = λ i. cond (not (same_open i)) (Err refusal.Closed) (cond (is_limited kind && nat_le queue_limit (length (same_unacknowledged i))) (Err refusal.QueueFull) (cond (nat_le end.last_item (length (its.sent i))) (Err refusal.SeqEnd) (Ok (length (its.sent i) + 1))))

  pub same_transmit : (me peer window : ℕ) → right_transmit me peer window a ≡ right_transmit me peer window b
  same_transmit me peer window = λ i. cond (same_open i) (open_frames me peer (its.numbered i) (its.counts i + 1) (its.lows i) (its.highs i) (its.due i) (take window (same_unacknowledged i))) (closed_frames me peer (its.numbered i) (its.counts i + 1) (its.owing i) (its.endings i))

  pub same_front : right_front a ≡ right_front b
  same_front = λ i. first_of (its.taken i + 1) (same_waiting i)

  pub same_tick : (peer retry : ℕ) → right_tick peer retry a ≡ right_tick peer retry b
  same_tick peer retry = λ i. cond (not (same_open i)) (Err refusal.Closed) (cond (nat_le (its.lows i) (its.highs i) && nat_le retry (its.ticked i + 1)) (Ok (Some (record { peer = peer; reason = RetriesUsedUp }))) (Ok None))

  pub same_close : (peer : ℕ) (reason : Reason) → right_close peer reason a ≡ right_close peer reason b
  same_close peer reason = λ i. cond (not (same_open i)) (Err refusal.Closed) (Ok (record { peer = peer; reason = reason }))

  pub same_handed : length (end.handed a) ≡ length (end.handed b)
  same_handed = ap length its.sent

  -- ---- arrivals

  same_payload : (frame : Frame) (j : ℕ) → end.payload j (ends.Arrive frame (Ok (arrived.Took 0)) ∷ a) ≡ end.payload j (ends.Arrive frame (Ok (arrived.Took 0)) ∷ b)
  same_payload frame j = λ i. option_or (its.came j i) (cond ((frame.session == its.numbered i) && end.brings_at j frame (its.counts i)) (Some frame.payload) None)

  same_places : (frame : Frame) (n count : ℕ) → end.places n count (ends.Arrive frame (Ok (arrived.Took 0)) ∷ a) ≡ end.places n count (ends.Arrive frame (Ok (arrived.Took 0)) ∷ b)
  unfolding end.places
  same_places frame n zero = refl
  same_places frame n (suc count) = λ i. same_payload frame n i ∷ same_places frame (n + 1) count i

  same_count : (frame : Frame) → end.accepted_count (ends.Arrive frame (Ok (arrived.Took 0)) ∷ a) ≡ end.accepted_count (ends.Arrive frame (Ok (arrived.Took 0)) ∷ b)
  same_count frame = λ i. cond (frame.session == its.numbered i) (0 + its.counts i) (its.counts i)

  same_early : (frame : Frame) → end.early (ends.Arrive frame (Ok (arrived.Took 0)) ∷ a) ≡ end.early (ends.Arrive frame (Ok (arrived.Took 0)) ∷ b)
  same_early frame =
      ap (λ (m : ℕ). cond (end.is_open a) (end.places (m + 1) end.reach (ends.Arrive frame (Ok (arrived.Took 0)) ∷ a)) []) (same_count frame)
      ∙ (λ i. cond (same_open i) (same_places frame (end.accepted_count (ends.Arrive frame (Ok (arrived.Took 0)) ∷ b) + 1) end.reach i) [])

  same_taken : (frame : Frame) → taken_by frame a ≡ taken_by frame b
  same_taken frame = λ i. cond (is_data frame.kind) (in_a_row (inbox_limit - length (same_waiting i)) (same_early frame i)) 0

  pub same_arrive : (me peer : ℕ) (frame : Frame) → right_arrive me peer frame a ≡ right_arrive me peer frame b
  same_arrive me peer frame = λ i. cond (not (is_of_pair me peer frame)) (Err refusal.Strange) (Ok (cond (nat_lt frame.session (its.numbered i)) (arrived.Took 0) (cond (not (same_open i)) (arrived.Took 0) (cond (nat_lt (its.numbered i) frame.session || is_close frame.kind) (arrived.Closed (record { peer = peer; reason = PeerClosed })) (cond (nat_lt (its.highs i + 1) frame.ack) (arrived.Closed (record { peer = peer; reason = BadItem })) (arrived.Took (same_taken frame i)))))))
