-- Ends that are alike stay alike by the same call, and by sends of the same items.
use Rattle.std.proofs.Common.{◌≡◌, ℕ, ◌+◌, ◌-◌, ◌&&◌, ◌||◌, not, max, Bool, true, false, cond, List, [], ◌∷◌, ◌++◌, length, Some, None, Ok, refl, ap, ◌∙◌}
use Rattle.std.specs.Prelude.{◌==◌, nat_lt, nat_le, zero, suc}
use Rattle.std.specs.Option.{option_or}
use Rattle.nob_frame.specs.Kinds.{is_data, is_close}
use Rattle.nob_item.specs.declared.item.Item.{Item}
use Rattle.nob_model_session.specs.declared.entry.Kind.{Kind}
use Rattle.nob_model_session.specs.declared.entry.Arrived.TheVariants as arrived
use Rattle.nob_model_session.specs.declared.entry.EndEntry.{EndEntry}
use Rattle.nob_model_session.specs.declared.entry.EndEntry.TheVariants as ends
use Rattle.nob_model_session.specs.End as end
use Rattle.nob_model_history.specs.Ends.{kind_of, payload_of, with_sends}
use Rattle.nob_model_jobs.specs.Alike.{AreEndsAlike}
use Rattle.nob_model_jobs.proofs.Ends.{same_open}

module _ (a b : List EndEntry) (its : AreEndsAlike a b) where
  -- ---- one send, whatever its number

  pub send_ends : (payload : List ℕ) (kind : Kind) (j k : ℕ) → AreEndsAlike (ends.Send payload kind (Ok j) ∷ a) (ends.Send payload kind (Ok k) ∷ b)
  send_ends payload kind j k = record {
    numbered = its.numbered;
    endings = its.endings;
    sent = ap (λ (all : List (List ℕ)). all ++ payload ∷ []) its.sent;
    lows = its.lows;
    highs = its.highs;
    counts = its.counts;
    came = its.came;
    kept = its.kept;
    taken = its.taken;
    due = its.due;
    ticked = its.ticked;
    owing = its.owing;
  }

  -- ---- one call

  numbered_call : (entry : EndEntry) → end.number (entry ∷ a) ≡ end.number (entry ∷ b)
  numbered_call (ends.Reopen k (Ok done)) = refl
  numbered_call entry = its.numbered

  endings_call : (entry : EndEntry) → end.ending (entry ∷ a) ≡ end.ending (entry ∷ b)
  endings_call (ends.Reopen k (Ok done)) = refl
  endings_call (ends.Arrive frame (Ok (arrived.Closed e))) = refl
  endings_call (ends.Tick (Ok (Some e))) = refl
  endings_call (ends.Close reason (Ok e)) = refl
  endings_call entry = its.endings

  sent_call : (entry : EndEntry) → end.handed (entry ∷ a) ≡ end.handed (entry ∷ b)
  sent_call (ends.Reopen k (Ok done)) = refl
  sent_call (ends.Send payload kind (Ok k)) = ap (λ (all : List (List ℕ)). all ++ payload ∷ []) its.sent
  sent_call entry = its.sent

  lows_call : (entry : EndEntry) → end.lowest (entry ∷ a) ≡ end.lowest (entry ∷ b)
  lows_call (ends.Reopen k (Ok done)) = refl
  lows_call (ends.Arrive frame (Ok (arrived.Took k))) = λ i. cond ((frame.session == its.numbered i) && same_open a b its i && not (is_close frame.kind)) (max (its.lows i) frame.ack) (its.lows i)
  lows_call entry = its.lows

  highs_call : (entry : EndEntry) → end.transmitted (entry ∷ a) ≡ end.transmitted (entry ∷ b)
  highs_call (ends.Reopen k (Ok done)) = refl
  highs_call (ends.Transmit frames) = ap (λ (m : ℕ). max m (end.greatest_seq frames)) its.highs
  highs_call entry = its.highs

  counts_call : (entry : EndEntry) → end.accepted_count (entry ∷ a) ≡ end.accepted_count (entry ∷ b)
  counts_call (ends.Reopen k (Ok done)) = refl
  counts_call (ends.Arrive frame (Ok (arrived.Took k))) = λ i. cond (frame.session == its.numbered i) (k + its.counts i) (its.counts i)
  counts_call entry = its.counts

  came_call : (entry : EndEntry) (j : ℕ) → end.payload j (entry ∷ a) ≡ end.payload j (entry ∷ b)
  came_call (ends.Reopen k (Ok done)) j = refl
  came_call (ends.Arrive frame (Ok (arrived.Took k))) j = λ i. option_or (its.came j i) (cond ((frame.session == its.numbered i) && end.brings_at j frame (its.counts i)) (Some frame.payload) None)
  came_call entry j = its.came j

  places_call : (entry : EndEntry) (m count : ℕ) → end.places m count (entry ∷ a) ≡ end.places m count (entry ∷ b)
  unfolding end.places
  places_call entry m zero = refl
  places_call entry m (suc count) = λ i. came_call entry m i ∷ places_call entry (m + 1) count i

  kept_call : (entry : EndEntry) → end.accepted (entry ∷ a) ≡ end.accepted (entry ∷ b)
  kept_call (ends.Reopen k (Ok done)) = refl
  kept_call (ends.Arrive frame (Ok (arrived.Took k))) =
      ap (λ (m : ℕ). cond (frame.session == end.number a) (end.accepted a ++ end.filled (end.places (m + 1) k (ends.Arrive frame (Ok (arrived.Took k)) ∷ a))) (end.accepted a)) its.counts
      ∙ (λ i. cond (frame.session == its.numbered i) (its.kept i ++ end.filled (places_call (ends.Arrive frame (Ok (arrived.Took k))) (end.accepted_count b + 1) k i)) (its.kept i))
  kept_call entry = its.kept

  taken_call : (entry : EndEntry) → end.takes (entry ∷ a) ≡ end.takes (entry ∷ b)
  taken_call (ends.Reopen k (Ok done)) = refl
  taken_call ends.Take = ap (λ (m : ℕ). m + 1) its.taken
  taken_call entry = its.taken

  due_call : (entry : EndEntry) → end.data_arrived (entry ∷ a) ≡ end.data_arrived (entry ∷ b)
  due_call (ends.Reopen k (Ok done)) = refl
  due_call (ends.Arrive frame (Ok (arrived.Took k))) = λ i. its.due i || (nat_le frame.session (its.numbered i) && same_open a b its i && is_data frame.kind)
  due_call (ends.Transmit frames) = refl
  due_call entry = its.due

  ticked_call : (entry : EndEntry) → end.ticks (entry ∷ a) ≡ end.ticks (entry ∷ b)
  ticked_call (ends.Reopen k (Ok done)) = refl
  ticked_call (ends.Tick (Ok None)) = λ i. cond (nat_le (its.lows i) (its.highs i)) (its.ticked i + 1) (its.ticked i)
  ticked_call (ends.Arrive frame (Ok (arrived.Took k))) = λ i. cond ((frame.session == its.numbered i) && same_open a b its i && not (is_close frame.kind) && nat_lt (its.lows i) frame.ack) 0 (its.ticked i)
  ticked_call entry = its.ticked

  owing_call : (entry : EndEntry) → end.owes_close (entry ∷ a) ≡ end.owes_close (entry ∷ b)
  owing_call (ends.Reopen k (Ok done)) = refl
  owing_call (ends.Arrive frame (Ok (arrived.Took k))) = λ i. its.owing i || (nat_le frame.session (its.numbered i) && not (same_open a b its i) && not (is_close frame.kind))
  owing_call (ends.Arrive frame (Ok (arrived.Closed e))) = refl
  owing_call (ends.Tick (Ok (Some e))) = refl
  owing_call (ends.Close reason (Ok e)) = refl
  owing_call (ends.Transmit frames) = refl
  owing_call entry = its.owing

  pub call_ends : (entry : EndEntry) → AreEndsAlike (entry ∷ a) (entry ∷ b)
  call_ends entry = record {
    numbered = numbered_call entry;
    endings = endings_call entry;
    sent = sent_call entry;
    lows = lows_call entry;
    highs = highs_call entry;
    counts = counts_call entry;
    came = came_call entry;
    kept = kept_call entry;
    taken = taken_call entry;
    due = due_call entry;
    ticked = ticked_call entry;
    owing = owing_call entry;
  }

  -- a call that is made only where a test holds
  pub call_ends_if : (test : Bool) (entry : EndEntry) → AreEndsAlike (cond test (entry ∷ a) a) (cond test (entry ∷ b) b)
  call_ends_if true entry = call_ends entry
  call_ends_if false entry = its

-- sends of the same items
pub sends_ends : (sends : List Item) (a b : List EndEntry) → AreEndsAlike a b → AreEndsAlike (with_sends sends a) (with_sends sends b)
sends_ends [] a b its = its
sends_ends (item ∷ sends) a b its = sends_ends sends _ _ (send_ends a b its (payload_of item) (kind_of item) (length (end.handed a) + 1) (length (end.handed b) + 1))
