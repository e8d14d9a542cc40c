-- Lists of calls that are alike, and the ends that stand for them: each call that is right after the one is right
-- after the other, and they are alike with it.
use Rattle.std.proofs.Common.{◌≡◌, ℕ, zero, suc, ◌+◌, ◌-◌, ◌≤◌, max, true, false, not, ◌&&◌, ◌||◌, ◌==◌, Bool, nat_lt, nat_le, List, [], ◌∷◌, ◌++◌, length, take, drop, Option, Some, None, is_none, IsSome, Result, Ok, Err, if◌then◌else◌, refl, sym, ap, subst, ◌∙◌, arith}
use Rattle.std.specs.Option.{option_or}
use Rattle.std.proofs.Math.Nat.{zero-max}
use Rattle.std.proofs.lemmas.Bool.Decides.{nat_tests}
use Rattle.nob_ids.specs.declared.limits.Limits.{Limits}
use Rattle.nob_ids.specs.declared.reason.Reason.{Reason}
use Rattle.nob_ids.specs.declared.reason.Reason.TheVariants.{PeerClosed, RetriesUsedUp, BadItem}
use Rattle.nob_frame.specs.declared.frame.Frame.{Frame}
use Rattle.nob_frame.specs.declared.frame.FrameKind.TheVariants as kinds
use Rattle.nob_frame.specs.Kinds.{is_data, is_close}
use Rattle.nob_model_session.specs.declared.refusal.EndRefusal.{EndRefusal}
use Rattle.nob_model_session.specs.declared.refusal.EndRefusal.TheVariants as refusal
use Rattle.nob_model_session.specs.declared.entry.Kind.{Kind}
use Rattle.nob_model_session.specs.declared.entry.Ending.{Ending}
use Rattle.nob_model_session.specs.declared.entry.Arrived.{Arrived}
use Rattle.nob_model_session.specs.declared.entry.Arrived.TheVariants as arrived
use Rattle.nob_model_session.specs.declared.entry.EndEntry.{EndEntry}
use Rattle.nob_model_session.specs.declared.entry.EndEntry.TheVariants.{Send, Transmit, Arrive, Front, Take, IsOpen, Tick, Close, Reopen}
use Rattle.nob_model_session.specs.End.{number, seen, ending, is_open, is_present, handed, lowest, unacknowledged, transmitted, accepted_count, payload, places, accepted, early, takes, waiting, data_arrived, ticks, owes_close, reach, filled, brings_at, greatest_seq, last_item, last_session, owes_after}
use Rattle.nob_model_session.specs.Right.{IsRight, queue_limit, inbox_limit, is_limited, right_send, open_frames, closed_frames, right_transmit, is_of_pair, in_a_row, right_arrive, first_of, right_front, right_tick, right_close, right_reopen, is_free_number}
use Rattle.nob_session.specs.Stands.{End, Stands, end_of}
use Rattle.nob_session.specs.Onward.{Words, words_of, AreAlike, onward, StandsOnward}

-- whether a call is a `reopen`
abbrev pub is_opening : EndEntry → Bool
is_opening (Reopen k answer) = true
is_opening (_) = false

-- places of which each payload is the same are the same
same_places : (n count : ℕ) (L M : List EndEntry) → ((k : ℕ) → payload k L ≡ payload k M) → places n count L ≡ places n count M
unfolding places
same_places n zero L M same = refl
same_places n (suc count) L M same = λ i. same n i ∷ same_places (n + 1) count L M same i

module _ (L M : List EndEntry) (alike : AreAlike L M) where
  is_open_alike : is_open L ≡ is_open M
  is_open_alike = λ i. is_none ((alike i).ending)

  unacknowledged_alike : unacknowledged L ≡ unacknowledged M
  unacknowledged_alike = λ i. if is_none ((alike i).ending) then drop ((alike i).lowest - 1) ((alike i).handed) else []

  waiting_alike : waiting L ≡ waiting M
  waiting_alike = λ i. if is_none ((alike i).ending) then drop ((alike i).takes) ((alike i).accepted) else []

  early_alike : early L ≡ early M
  early_alike =
      ap (λ (o : Option Reason). if is_none o then places (accepted_count L + 1) reach L else []) (λ i. (alike i).ending)
      ∙ ap (λ k. if is_open M then places (k + 1) reach L else []) (λ i. (alike i).accepted_count)
      ∙ ap (λ (ps : List (Option (List ℕ))). if is_open M then ps else []) (same_places (accepted_count M + 1) reach L M (λ k i. (alike i).payload k))

  -- as far as numbers above their own go alike lists leave the same end
  pub end_alike : (me peer : ℕ) (limits : Limits) → onward (end_of me peer limits L) ≡ onward (end_of me peer limits M)
  end_alike me peer limits = λ i.
      record {
        me = me;
        peer = peer;
        limits = limits;
        number = (alike i).number;
        seen = (alike i).latest;
        handed = length ((alike i).handed);
        lowest = (alike i).lowest;
        unacknowledged = unacknowledged_alike i;
        transmitted = (alike i).transmitted;
        accepted = (alike i).accepted_count;
        came = length ((alike i).accepted);
        taken = (alike i).takes;
        waiting = waiting_alike i;
        early = early_alike i;
        data_arrived = (alike i).data_arrived;
        ticks = (alike i).ticks;
        ending = (alike i).ending;
        owes_close = (alike i).owes_close;
      }

  -- what is right after the one is right after the other
  pub send_alike : (kind : Kind) → right_send kind L ≡ right_send kind M
  send_alike kind = λ i.
      if not (is_open_alike i) then Err refusal.Closed
      else (if is_limited kind && nat_le queue_limit (length (unacknowledged_alike i)) then Err refusal.QueueFull
      else (if nat_le last_item (length ((alike i).handed)) then Err refusal.SeqEnd
      else Ok (length ((alike i).handed) + 1)))

  pub transmit_alike : (me peer window : ℕ) → right_transmit me peer window L ≡ right_transmit me peer window M
  transmit_alike me peer window = λ i.
      if is_open_alike i then open_frames me peer ((alike i).number) ((alike i).accepted_count + 1) ((alike i).lowest) ((alike i).transmitted) ((alike i).data_arrived) (take window (unacknowledged_alike i))
      else closed_frames me peer ((alike i).number) ((alike i).accepted_count + 1) ((alike i).owes_close) ((alike i).ending)

  front_alike : right_front L ≡ right_front M
  front_alike = λ i. first_of ((alike i).takes + 1) (waiting_alike i)

  tick_alike : (peer retry : ℕ) → right_tick peer retry L ≡ right_tick peer retry M
  tick_alike peer retry = λ i.
      if not (is_open_alike i) then Err refusal.Closed
      else (if nat_le ((alike i).lowest) ((alike i).transmitted) && nat_le retry ((alike i).ticks + 1) then Ok (Some (record { peer = peer; reason = RetriesUsedUp }))
      else Ok None)

  close_alike : (peer : ℕ) (reason : Reason) → right_close peer reason L ≡ right_close peer reason M
  close_alike peer reason = λ i. if not (is_open_alike i) then Err refusal.Closed else Ok (record { peer = peer; reason = reason })

same_bound : (n s k : ℕ) → nat_lt n k ≡ true → nat_le s k ≡ nat_le (max n s) k
same_bound n s k above = elim (nat_le s k) as (λ b. nat_le s k ≡ b → b ≡ nat_le (max n s) k) [
  | true ↦ λ low. sym (grind (arith, nat_tests, above, low))
  | false ↦ λ high. sym (grind (arith, nat_tests, above, high))
] refl

-- where a number is above that of the session, it is not below the highest that arrived if it is not below the latest
free_above : (n s k : ℕ) (more : Bool) → (nat_lt n k && nat_le s k && more) ≡ (nat_lt n k && nat_le (max n s) k && more)
free_above n s k more = elim (nat_lt n k) as (λ b. nat_lt n k ≡ b → (b && nat_le s k && more) ≡ (b && nat_le (max n s) k && more)) [
  | true ↦ λ above. ap (λ b. b && more) (same_bound n s k above)
  | false ↦ λ _. refl
] refl

-- a number that is opened is not below the latest
opened_free : (k : ℕ) (done : Unit {0}) (opened free : Bool) → Ok done ≡ (if opened then Err refusal.StillOpen else (if not free then Err refusal.Number else Ok tt)) → free ≡ true
opened_free k done true free right = absurd cc
opened_free k done false true right = refl
opened_free k done false false right = absurd cc

opened_latest : (k : ℕ) (done : Unit {0}) (L : List EndEntry) → Ok done ≡ right_reopen k L → max k (seen L) ≡ k
opened_latest k done L right =
    let free : is_free_number k L ≡ true = opened_free k done (is_open L) (is_free_number k L) right in
    let low : seen L ≤ k = grind (arith, nat_tests, free) in
    omega (arith, low)

module _ (L M : List EndEntry) (alike : AreAlike L M) where
  reopen_alike : (k : ℕ) → right_reopen k L ≡ right_reopen k M
  reopen_alike k =
      ap (λ b. if is_open L then Err refusal.StillOpen else (if not b then Err refusal.Number else Ok tt)) (free_above (number L) (seen L) k (nat_le k last_session))
      ∙ (λ i. if is_open_alike L M alike i then Err refusal.StillOpen else (if not (nat_lt ((alike i).number) k && nat_le ((alike i).latest) k && nat_le k last_session) then Err refusal.Number else Ok tt))
      ∙ sym (ap (λ b. if is_open M then Err refusal.StillOpen else (if not b then Err refusal.Number else Ok tt)) (free_above (number M) (seen M) k (nat_le k last_session)))

  latest_alike : (session : ℕ) → max (number L) (max (seen L) session) ≡ max (number M) (max (seen M) session)
  latest_alike session = let same : max (number L) (seen L) ≡ max (number M) (seen M) = (λ i. (alike i).latest) in omega (arith, same)

  -- the payloads with an arrival more that took some items
  payload_alike : (frame : Frame) (k n : ℕ) → payload n (Arrive frame (Ok (arrived.Took k)) ∷ L) ≡ payload n (Arrive frame (Ok (arrived.Took k)) ∷ M)
  payload_alike frame k n = λ i. option_or ((alike i).payload n) (if (frame.session == (alike i).number) && brings_at n frame ((alike i).accepted_count) then Some frame.payload else None)

  accepted_alike : (frame : Frame) (k : ℕ) → accepted (Arrive frame (Ok (arrived.Took k)) ∷ L) ≡ accepted (Arrive frame (Ok (arrived.Took k)) ∷ M)
  accepted_alike frame k =
      ap (λ (ps : List (Option (List ℕ))). if is_present frame L then accepted L ++ filled ps else accepted L) (same_places (accepted_count L + 1) k (Arrive frame (Ok (arrived.Took k)) ∷ L) (Arrive frame (Ok (arrived.Took k)) ∷ M) (payload_alike frame k))
      ∙ (λ i. if frame.session == (alike i).number then (alike i).accepted ++ filled (places ((alike i).accepted_count + 1) k (Arrive frame (Ok (arrived.Took k)) ∷ M)) else (alike i).accepted)

  -- lists that are alike still are with such an arrival more
  took_alike : (frame : Frame) (k : ℕ) → AreAlike (Arrive frame (Ok (arrived.Took k)) ∷ L) (Arrive frame (Ok (arrived.Took k)) ∷ M)
  took_alike frame k = λ i.
      record {
        number = (alike i).number;
        latest = latest_alike frame.session i;
        ending = (alike i).ending;
        handed = (alike i).handed;
        lowest = if (frame.session == (alike i).number) && is_none ((alike i).ending) && not (is_close frame.kind) then max ((alike i).lowest) frame.ack else (alike i).lowest;
        transmitted = (alike i).transmitted;
        accepted_count = if frame.session == (alike i).number then k + (alike i).accepted_count else (alike i).accepted_count;
        payload = λ n. payload_alike frame k n i;
        accepted = accepted_alike frame k i;
        takes = (alike i).takes;
        data_arrived = (alike i).data_arrived || (nat_le frame.session ((alike i).number) && is_none ((alike i).ending) && is_data frame.kind);
        ticks = if (frame.session == (alike i).number) && is_none ((alike i).ending) && not (is_close frame.kind) && nat_lt ((alike i).lowest) frame.ack then 0 else (alike i).ticks;
        owes_close = (alike i).owes_close || (nat_le frame.session ((alike i).number) && not (is_none ((alike i).ending)) && not (is_close frame.kind));
      }

  -- or with one that closed the end
  closed_alike : (frame : Frame) (e : Ending) → AreAlike (Arrive frame (Ok (arrived.Closed e)) ∷ L) (Arrive frame (Ok (arrived.Closed e)) ∷ M)
  closed_alike frame e = λ i.
      record {
        number = (alike i).number;
        latest = latest_alike frame.session i;
        ending = Some e.reason;
        handed = (alike i).handed;
        lowest = (alike i).lowest;
        transmitted = (alike i).transmitted;
        accepted_count = (alike i).accepted_count;
        payload = (alike i).payload;
        accepted = (alike i).accepted;
        takes = (alike i).takes;
        data_arrived = (alike i).data_arrived;
        ticks = (alike i).ticks;
        owes_close = owes_after e.reason;
      }

  -- or with an opening
  reopened_alike : (k : ℕ) (done : Unit {0}) → Ok done ≡ right_reopen k L → Ok done ≡ right_reopen k M → AreAlike (Reopen k (Ok done) ∷ L) (Reopen k (Ok done) ∷ M)
  reopened_alike k done right_there right_here = ap (λ latest. record {
    number = k;
    latest = latest;
    ending = None;
    handed = [];
    lowest = 1;
    transmitted = 0;
    accepted_count = 0;
    payload = λ n. None;
    accepted = [];
    takes = 0;
    data_arrived = false;
    ticks = 0;
    owes_close = false;
  }) (opened_latest k done L right_there ∙ sym (opened_latest k done M right_here))

  arrive_alike : (me peer : ℕ) (frame : Frame) → right_arrive me peer frame L ≡ right_arrive me peer frame M
  arrive_alike me peer frame = λ i.
      if not (is_of_pair me peer frame) then Err refusal.Strange
      else Ok (if nat_lt frame.session ((alike i).number) then arrived.Took 0
      else (if not (is_open_alike L M alike i) then arrived.Took 0
      else (if nat_lt ((alike i).number) frame.session || is_close frame.kind then arrived.Closed (record { peer = peer; reason = PeerClosed })
      else (if nat_lt ((alike i).transmitted + 1) frame.ack then arrived.Closed (record { peer = peer; reason = BadItem })
      else arrived.Took (if is_data frame.kind then in_a_row (inbox_limit - length (waiting_alike L M alike i)) (early_alike (Arrive frame (Ok (arrived.Took 0)) ∷ L) (Arrive frame (Ok (arrived.Took 0)) ∷ M) (took_alike frame 0) i) else 0)))))

  -- a call that is right after the one list is right after the other
  pub right_alike : (me peer : ℕ) (limits : Limits) (entry : EndEntry) → IsRight me peer limits entry L → IsRight me peer limits entry M
  right_alike me peer limits (Send payload kind answer) right = right ∙ send_alike L M alike kind
  right_alike me peer limits (Transmit frames) right = right ∙ transmit_alike L M alike me peer limits.window
  right_alike me peer limits (Arrive frame answer) right = right ∙ arrive_alike me peer frame
  right_alike me peer limits (Front answer) right = right ∙ front_alike L M alike
  right_alike me peer limits Take right = subst (λ (front : Option (ℕ × List ℕ)). IsSome front) (front_alike L M alike) right
  right_alike me peer limits (IsOpen answer) right = right ∙ is_open_alike L M alike
  right_alike me peer limits (Tick answer) right = right ∙ tick_alike L M alike peer limits.retry
  right_alike me peer limits (Close reason answer) right = right ∙ close_alike L M alike peer reason
  right_alike me peer limits (Reopen k answer) right = right ∙ reopen_alike k

  -- and lists that are alike still are with a call more that begins no session
  pub step_alike : (entry : EndEntry) → is_opening entry ≡ false → AreAlike (entry ∷ L) (entry ∷ M)
  step_alike (Send payload kind (Ok n)) none = ap (λ (w : Words). record w { handed = w.handed ++ payload ∷ [] }) alike
  step_alike (Send payload kind (Err e)) none = alike
  step_alike (Transmit frames) none = ap (λ (w : Words). record w { transmitted = max w.transmitted (greatest_seq frames); data_arrived = false; owes_close = false }) alike
  step_alike (Arrive frame (Ok (arrived.Took k))) none = took_alike frame k
  step_alike (Arrive frame (Ok (arrived.Closed e))) none = closed_alike frame e
  step_alike (Arrive frame (Err e)) none = alike
  step_alike (Front answer) none = alike
  step_alike Take none = ap (λ (w : Words). record w { takes = w.takes + 1 }) alike
  step_alike (IsOpen answer) none = alike
  step_alike (Tick (Ok None)) none = ap (λ (w : Words). record w { ticks = if nat_le w.lowest w.transmitted then w.ticks + 1 else w.ticks }) alike
  step_alike (Tick (Ok (Some e))) none = ap (λ (w : Words). record w { ending = Some e.reason; owes_close = owes_after e.reason }) alike
  step_alike (Tick (Err e)) none = alike
  step_alike (Close reason (Ok e)) none = ap (λ (w : Words). record w { ending = Some e.reason; owes_close = owes_after e.reason }) alike
  step_alike (Close reason (Err e)) none = alike
  step_alike (Reopen k answer) some = absurd (let bad : true ≡ false = some in cc)

  -- or with any that is right
  pub more_alike : (me peer : ℕ) (limits : Limits) (entry : EndEntry) → IsRight me peer limits entry L → AreAlike (entry ∷ L) (entry ∷ M)
  more_alike me peer limits (Reopen k (Ok done)) right = reopened_alike k done right (right ∙ reopen_alike k)
  more_alike me peer limits (Reopen k (Err e)) right = alike
  more_alike me peer limits (Send payload kind answer) right = step_alike (Send payload kind answer) refl
  more_alike me peer limits (Transmit frames) right = step_alike (Transmit frames) refl
  more_alike me peer limits (Arrive frame answer) right = step_alike (Arrive frame answer) refl
  more_alike me peer limits (Front answer) right = step_alike (Front answer) refl
  more_alike me peer limits Take right = step_alike Take refl
  more_alike me peer limits (IsOpen answer) right = step_alike (IsOpen answer) refl
  more_alike me peer limits (Tick answer) right = step_alike (Tick answer) refl
  more_alike me peer limits (Close reason answer) right = step_alike (Close reason answer) refl

-- an end that stands onward for a list is the one that the list leaves, as far as is seen onward
pub onward_is : {me peer : ℕ} {limits : Limits} {e : End} {L : List EndEntry} → StandsOnward me peer limits e L → onward e ≡ onward (end_of me peer limits L)
onward_is {me} {peer} {limits} {e} {L} its = ap onward its.stands ∙ end_alike its.calls L its.alike me peer limits

-- an end that stands for a list stands for it onward
pub onward_by : {me peer : ℕ} {limits : Limits} {e : End} {L : List EndEntry} → Stands me peer limits e L → StandsOnward me peer limits e L
onward_by {me} {peer} {limits} {e} {L} stands = record { calls = L; stands = stands; alike = refl }

-- a call that is right, and after which the end stands, for each list of calls for which it stood before, is so onward
pub called_onward : {me peer : ℕ} {limits : Limits} {old new : End} {L : List EndEntry} (entry : EndEntry) → StandsOnward me peer limits old L
    → ((M : List EndEntry) → Stands me peer limits old M → IsRight me peer limits entry M × Stands me peer limits new (entry ∷ M))
    → IsRight me peer limits entry L × StandsOnward me peer limits new (entry ∷ L)
called_onward {me} {peer} {limits} {old} {new} {L} entry its call =
    let done = call its.calls its.stands in
    (right_alike its.calls L its.alike me peer limits entry done.0, record { calls = entry ∷ its.calls; stands = done.1; alike = more_alike its.calls L its.alike me peer limits entry done.0 })

-- so is a list that the calls make of each list for which the end stood, if it makes alike lists of alike ones
pub made_onward : {me peer : ℕ} {limits : Limits} {old new : End} {L : List EndEntry} (make : List EndEntry → List EndEntry) → ((M N : List EndEntry) → AreAlike M N → AreAlike (make M) (make N)) → StandsOnward me peer limits old L
    → ((M : List EndEntry) → Stands me peer limits old M → Stands me peer limits new (make M)) → StandsOnward me peer limits new (make L)
made_onward {me} {peer} {limits} {old} {new} {L} make keeps its call = record { calls = make its.calls; stands = call its.calls its.stands; alike = keeps its.calls L its.alike }

-- one call more, which begins no session
pub stepped_onward : {me peer : ℕ} {limits : Limits} {old new : End} {L : List EndEntry} (entry : EndEntry) → is_opening entry ≡ false → StandsOnward me peer limits old L
    → ((M : List EndEntry) → Stands me peer limits old M → Stands me peer limits new (entry ∷ M)) → StandsOnward me peer limits new (entry ∷ L)
stepped_onward entry none its call = made_onward (λ M. entry ∷ M) (λ M N alike. step_alike M N alike entry none) its call

-- what is right for a call that leaves the end as it is
pub told_onward : {me peer : ℕ} {limits : Limits} {e : End} {L : List EndEntry} (entry : EndEntry) → StandsOnward me peer limits e L
    → ((M : List EndEntry) → Stands me peer limits e M → IsRight me peer limits entry M) → IsRight me peer limits entry L
told_onward {me} {peer} {limits} {e} {L} entry its call = right_alike its.calls L its.alike me peer limits entry (call its.calls its.stands)

-- what an arrival is answered, where that is told of each list for which the end stands
pub arrives_onward : {me peer : ℕ} {limits : Limits} {e : End} {L : List EndEntry} (frame : Frame) (answer : List EndEntry → Result Arrived EndRefusal) (its : StandsOnward me peer limits e L)
    → ((M : List EndEntry) → Stands me peer limits e M → right_arrive me peer frame M ≡ answer M) → right_arrive me peer frame L ≡ answer its.calls
arrives_onward {me} {peer} {limits} {e} {L} frame answer its call = sym (arrive_alike its.calls L its.alike me peer frame) ∙ call its.calls its.stands

-- of an end that begins session k the highest number that arrived is forgotten up to k
module _ (me peer : ℕ) (limits : Limits) (k low : ℕ) (done : Unit {0}) (L : List EndEntry) where
  before : List EndEntry
  before = Arrive (record { kind = kinds.Ack; from = peer; to = me; session = low; seq = 0; ack = 0; payload = [] }) (Ok (arrived.Took 0)) ∷ []

  same_latest : low ≤ k → seen L ≤ k → max k (max 0 low) ≡ max k (seen L)
  same_latest below seen_below = omega (arith, below, seen_below)

  pub begun_onward : low ≤ k → seen L ≤ k → StandsOnward me peer limits (record (end_of me peer limits (Reopen k (Ok done) ∷ L)) { seen = low }) (Reopen k (Ok done) ∷ L)
  unfolding places before
  begun_onward below seen_below = record {
    calls = Reopen k (Ok done) ∷ before;
    stands = λ i. record (end_of me peer limits (Reopen k (Ok done) ∷ L)) { seen = sym (zero-max low) i };
    alike = λ i. record (words_of (Reopen k (Ok done) ∷ L)) { latest = same_latest below seen_below i };
  }
