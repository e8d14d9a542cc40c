-- Trips: in an open session with a peer a call is made and its reply taken, or a job claimed and ended, and all that was sent is acknowledged.
use Rattle.std.proofs.Common.{◌≡◌, ℕ, ◌+◌, ◌≤◌, ◌<◌, ◌&&◌, ◌||◌, not, Bool, true, false, cond, List, [], ◌∷◌, length, map, filter, find, Option, Some, None, Result, Ok, Err, refl, sym, ap, subst, ◌∙◌, arith}
use Rattle.std.specs.Prelude.{◌==◌, nat_le, nat_lt}
use Rattle.std.specs.List.{list_any}
use Rattle.std.proofs.lemmas.Bool.{eqb-true, eq-eqb, and_from, or_from, not_from_true}
use Rattle.nob_ids.specs.Names.{is_counted}
use Rattle.nob_ids.specs.declared.limits.Limits.{Limits}
use Rattle.nob_ids.specs.declared.reason.Reason.{Reason}
use Rattle.nob_ids.specs.declared.reason.Reason.TheVariants.{OutOfPlace}
use Rattle.nob_ids.specs.declared.wire_rep.WireRep.{WireRep}
use Rattle.nob_frame.specs.declared.frame.Frame.{Frame}
use Rattle.nob_frame.specs.declared.frame.FrameKind.{FrameKind}
use Rattle.nob_frame.specs.declared.frame.FrameKind.TheVariants as kinds
use Rattle.nob_pickle.specs.Limits.{Spelt as PickleSpelt}
use Rattle.nob_pickle.specs.Reading.{value_read}
use Rattle.nob_pickle.specs.Writing.{pickle_of}
use Rattle.nob_pickle.specs.declared.fault.PickleFault.{PickleFault}
use Rattle.nob_pickle.specs.declared.fault.PickleError.TheVariants as pickle_errors
use Rattle.nob_pickle.specs.declared.value.Value.{Value}
use Rattle.nob_pickle.specs.declared.value.Value.TheVariants as values
use Rattle.nob_pickle.proofs.Whole.{only_by}
use Rattle.nob_item.specs.Kinds.{counted_in}
use Rattle.nob_item.specs.Spelling.{Fits, spelling}
use Rattle.nob_item.specs.Reading.{call_at, reply_at, item_by, item_read}
use Rattle.nob_item.specs.declared.item.Item.{Item}
use Rattle.nob_item.specs.declared.item.Item.TheVariants as items
use Rattle.nob_item.proofs.Fronts.{call_is, reply_is}
use Rattle.nob_model_session.specs.End.{last_item, seen, handed, is_open, unacknowledged}
use Rattle.nob_model_session.specs.Right.{queue_limit, right_send, right_transmit, arrived_by, right_front}
use Rattle.nob_model_session.specs.declared.refusal.EndRefusal.TheVariants as end_refusals
use Rattle.nob_model_session.specs.declared.entry.Arrived.{Arrived}
use Rattle.nob_model_session.specs.declared.entry.Arrived.TheVariants as arrived
use Rattle.nob_model_session.specs.declared.entry.EndEntry.{EndEntry}
use Rattle.nob_model_session.specs.declared.entry.EndEntry.TheVariants as ends
use Rattle.nob_model_session.specs.declared.entry.Kind.TheVariants.{Limited}
use Rattle.nob_model_types.specs.declared.event.Event.TheVariants as events
use Rattle.nob_model_types.specs.declared.event.Outcome.TheVariants as outcomes
use Rattle.nob_model_types.specs.declared.answer.Answer.{Answer}
use Rattle.nob_model_types.specs.declared.answer.Answer.TheVariants as answers
use Rattle.nob_model_types.specs.declared.answer.Job.{Job}
use Rattle.nob_model_types.specs.declared.refusal.Refusal.{Refusal}
use Rattle.nob_model_types.specs.declared.refusal.Refusal.TheVariants as refusals
use Rattle.nob_model_types.specs.declared.message.Message.{Message}
use Rattle.nob_model_types.specs.declared.deed.Deed.{Deed}
use Rattle.nob_model_types.specs.declared.deed.Deed.TheVariants as did
use Rattle.nob_model_types.specs.declared.turns.Turns.{Turns}
use Rattle.nob_model_types.specs.Deeds.{deed_by}
use Rattle.nob_model_types.specs.Messages.{message_after, is_job}
use Rattle.nob_model_types.specs.Sessions.{is_peer, closed, number, item_of, item_spelt, item_at}
use Rattle.nob_model_types.specs.Objects.{exports}
use Rattle.nob_model_types.specs.Turns.{turns, turns_after, is_standing}
use Rattle.nob_model_work.specs.declared.gifts.Gift.{Gift}
use Rattle.nob_model_work.specs.declared.work.Outstanding.{Outstanding}
use Rattle.nob_model_work.specs.declared.work.OwnCall.{OwnCall}
use Rattle.nob_model_work.specs.declared.work.Run.{Run}
use Rattle.nob_model_work.specs.declared.work.Stage.TheVariants as stages
use Rattle.nob_model_work.specs.Work.{no_work, work, work_after, with_loans, run_after, is_call, is_run, after_call, after_act, after_message, after_take, after_claim, after_finish, call_after_reply, stage_after_reply}
use Rattle.nob_model_work.specs.Gifts.{all_gifts, gifts, gifts_of, gifts_of_act, gifts_of_finish, reply_to, dirties_for}
use Rattle.nob_model_history.specs.declared.history.History.{History}
use Rattle.nob_model_history.specs.Histories.{history_of}
use Rattle.nob_model_history.specs.Ends.{items_to, payload_of, kind_of, with_sends, calls_at}
use Rattle.nob_model_history.specs.Holds.{is_held}
use Rattle.nob_model_history.specs.Transit.{surrogates, by_last_dirty}
use Rattle.nob_model_history.proofs.Surrogates.{has_surrogate}
use Rattle.nob_model_acting.specs.Acting.{fault_of, fault_if, first_fault, awaits_reply, act_on, act_refusal, message_refusal, is_too_much, most_messages, most_surrogates, messages, new_dirties, all_have_numbers, answer_of_act}
use Rattle.nob_model_acting.specs.Sending.{◌or_else◌, refuse_if, unless, refusal_in, value_refused, send_refused}
use Rattle.nob_model_acting.specs.Candidates.{to_claim, is_free}
use Rattle.nob_model.specs.Right.{most_calls, last_number, right_after, right_call, right_frames, right_arrival, arrival_of, right_act, act_of, right_take_reply, take_of, answer_of_call, answer_of_reply, right_claim, claim_of, job_of, right_finish, finish_of, has_ended, is_last_call, calls_made, jobs_made}
use Rattle.nob_model.specs.Lists.{IsRightDeed, AreRightDeeds}
use Rattle.nob_model.proofs.Premises.{in_turn, front_item}
use Rattle.nob_model_lives.proofs.Passes.{agent, idle_call}
use Rattle.nob_model_lives.proofs.Skips.{not_above}
use Rattle.nob_model_births.proofs.Words.{Stands, stands_sent, stands_transmitted, is_heard, acknowledgement, stands_acknowledged, parcel, takes_one, stands_brought, stands_first, stands_taken, none_unacknowledged}

-- ---- the two items that come

-- the reply to a call
abbrev pub reply : ℕ → Item
reply call = items.Reply call 0 values.Unit

-- the call of the agent here
abbrev pub asked_here : Item
asked_here = items.Call 1 0 0 values.Unit

-- a result with a value, as one that was read
abbrev reads : Value → Result Value PickleFault
reads v = Ok v

reads_error : (fault : PickleFault) (v : Value) → reads v ≡ Err fault → ⊥
reads_error fault v e = cc

value_back : (bytes : List ℕ) (v : Value) → PickleSpelt bytes v → value_read bytes ≡ Ok v
value_back bytes v spelt =
    elim (value_read bytes) as (λ r. value_read bytes ≡ r → r ≡ Ok v) [
      | Ok w ↦ λ e. sym (only_by (Ok w) bytes v spelt e)
      | Err fault ↦ λ e. absurd (reads_error fault v (only_by (Err (pickle_errors.Fault fault)) bytes v spelt e))
    ] refl

call_back : (bs : List ℕ) (item : Item) → Fits item → spelling item ≡ 1 ∷ bs → item_read (1 ∷ bs) ≡ Ok item
unfolding item_by call_at
call_back bs item fits is =
    let a = call_is bs item (fits, sym is) in
    rw (a.2, value_back a.0.3 a.1 a.4) (ap (λ (i : Item). Ok i) (sym a.3))

reply_back : (bs : List ℕ) (item : Item) → Fits item → spelling item ≡ 2 ∷ bs → item_read (2 ∷ bs) ≡ Ok item
unfolding item_by reply_at
reply_back bs item fits is =
    let a = reply_is bs item (fits, sym is) in
    rw (a.2, value_back a.0.2 a.1 a.4) (ap (λ (i : Item). Ok i) (sym a.3))

pub reply_spelt : (call : ℕ) → 1 ≤ call → call ≤ last_number → item_spelt (spelling (reply call)) ≡ Some (reply call)
reply_spelt call low high = ap item_of (reply_back _ (reply call) ((low, high), omega arith, record { typed = tt; in_limits = refl }) refl)

pub asked_spelt : item_spelt (spelling asked_here) ≡ Some asked_here
asked_spelt = ap item_of (call_back _ asked_here ((omega arith, omega arith), omega arith, omega arith, record { typed = tt; in_limits = refl }) refl)

-- ---- what is outstanding on the way

-- a call to p was made
abbrev pub asked : (p call : ℕ) → Outstanding
asked p call = record { waiting = []; ready = []; running = []; replies = []; calls = record { call = call; to = p; stage = stages.Sent } ∷ [] }

-- an item without references, as it came
abbrev pub came : (p k m : ℕ) → Item → Message
came p k m item = record { from = p; session = k; number = m; item = item; copies = [] }

-- its reply came in item m
abbrev pub replied : (p k m call : ℕ) → Outstanding
replied p k m call = record { waiting = []; ready = []; running = []; replies = came p k m (reply call) ∷ []; calls = record { call = call; to = p; stage = stages.Answered } ∷ [] }

-- a job came in item m
abbrev pub readied : (p k m : ℕ) → Outstanding
readied p k m = record { waiting = []; ready = came p k m asked_here ∷ []; running = []; replies = []; calls = [] }

-- it runs
abbrev pub runs : (p k m j : ℕ) → Outstanding
runs p k m j = record { waiting = []; ready = []; running = record { job = j; message = came p k m asked_here } ∷ []; replies = []; calls = [] }

-- the job that it is
abbrev pub job_from : (p j : ℕ) → Job
job_from p j = record { job = j; call = 1; target = 0; client = p; method = 0; value = values.Unit }

-- ---- small things

-- a call of the agent of p, with unit, is made where nothing forbids it
called_by : (p call : ℕ) (stranger shut unheld : Bool) (value : Option Refusal) (last : Bool) (full : Option Refusal) → stranger ≡ false → shut ≡ false → unheld ≡ false → value ≡ None → last ≡ false → full ≡ None → deed_by (events.Call (agent p) 0 values.Unit) (unless (refuse_if stranger refusals.NoPeer or_else refuse_if shut refusals.Closed or_else refuse_if unheld refusals.NotHeld or_else value or_else refuse_if last refusals.Limit or_else full) (answers.Called call)) ≡ Some (idle_call p call)
called_by p call true shut unheld value last full a b c d e f = cc
called_by p call false true unheld value last full a b c d e f = cc
called_by p call false false true value last full a b c d e f = cc
called_by p call false false false (Some refusal) last full a b c d e f = cc
called_by p call false false false None true full a b c d e f = cc
called_by p call false false false None false (Some refusal) a b c d e f = cc
called_by p call false false false None false None a b c d e f = refl

-- unit may be sent
unit_sent : (s : ℕ) (h : History) → value_refused s h values.Unit ≡ None
unfolding pickle_of
unit_sent s h = refl

-- an item is sent where nothing forbids it
sent_by : (shut full past : Bool) (k : ℕ) → shut ≡ false → full ≡ false → past ≡ false → refusal_in (cond shut (Err end_refusals.Closed) (cond full (Err end_refusals.QueueFull) (cond past (Err end_refusals.SeqEnd) (Ok k)))) ≡ None
sent_by true full past k a b c = cc
sent_by false true past k a b c = cc
sent_by false false true k a b c = cc
sent_by false false false k a b c = refl

-- a send hears nothing
sends_unseen : (sends : List Item) (calls : List EndEntry) → seen (with_sends sends calls) ≡ seen calls
sends_unseen [] calls = refl
sends_unseen (item ∷ sends) calls = sends_unseen sends (ends.Send (payload_of item) (kind_of item) (Ok (length (handed calls) + 1)) ∷ calls)

by_self : {A : Type 0} (p : ℕ) (x y : A) → cond (p == p) x y ≡ x
by_self p x y = ap (λ (b : Bool). cond b x y) (eq-eqb p p refl)

unseen_by : (b : Bool) (call : EndEntry) (calls : List EndEntry) (m : ℕ) → seen (call ∷ calls) ≡ seen calls → seen calls ≤ m → seen (cond b (call ∷ calls) calls) ≤ m
unseen_by true call calls m same low = omega (arith, same, low)
unseen_by false call calls m same low = low

heard_by : (b : Bool) (frame : Frame) (count : ℕ) (calls : List EndEntry) (m : ℕ) → seen calls ≤ m → (b ≡ true → frame.session ≤ m) → seen (cond b (ends.Arrive frame (Ok (arrived.Took count)) ∷ calls) calls) ≤ m
heard_by true frame count calls m low session = (let other = session refl in omega (arith, low, other))
heard_by false frame count calls m low session = low

unseen_sends : (sends : List Item) (calls : List EndEntry) (m : ℕ) → seen calls ≤ m → seen (with_sends sends calls) ≤ m
unseen_sends sends calls m low = let same = sends_unseen sends calls in omega (arith, same, low)

framed_by : (p : ℕ) (frames : List Frame) (stranger : Bool) → stranger ≡ false → deed_by (events.Transmit p) (cond stranger (Err refusals.NoPeer) (Ok (answers.Frames frames))) ≡ Some (did.Transmit p frames)
framed_by p frames true is = cc
framed_by p frames false is = refl

arrival_by : (frame : Frame) (count : ℕ) (strange other : Bool) (took : Arrived) → strange ≡ false → other ≡ false → took ≡ arrived.Took count → deed_by (events.Arrive frame) (cond strange (Err refusals.NoPeer) (arrival_of (cond other (Err end_refusals.Strange) (Ok took)))) ≡ Some (did.Arrive frame count)
arrival_by frame count true other took a b c = cc
arrival_by frame count false true took a b c = cc
arrival_by frame count false false took a b c = ap (λ (one : Arrived). deed_by (events.Arrive frame) (arrival_of (Ok one))) c

acted_by : (p m : ℕ) (stranger shut : Bool) (result : Result Answer Refusal) → stranger ≡ false → shut ≡ false → result ≡ Ok (answers.Acted m) → deed_by (events.Act p) (cond stranger (Err refusals.NoPeer) (cond shut (Err refusals.Closed) result)) ≡ Some (did.Act p m)
acted_by p m true shut result a b c = cc
acted_by p m false true result a b c = cc
acted_by p m false false result a b c = ap (deed_by (events.Act p)) c

none_filtered : {X : Type 0} (test : X → Bool) (xs : List X) → ((x : X) → test x ≡ false) → filter test xs ≡ []
none_filtered test [] none = refl
none_filtered test (x ∷ xs) none = ap (λ (b : Bool). cond b (x ∷ filter test xs) (filter test xs)) (none x) ∙ none_filtered test xs none

-- what is outstanding stays as it is by a deed that does nothing to it
abbrev pub Keeps : (s n : ℕ) → Outstanding → Type 0
Keeps s n W = (E : List Deed) → with_loans s n E W ≡ W

pub none_keeps : (s n : ℕ) → Keeps s n no_work
unfolding with_loans
none_keeps s n E = refl

pub asked_keeps : (s n p call : ℕ) → Keeps s n (asked p call)
unfolding with_loans
asked_keeps s n p call E = refl

module _ (s n : ℕ) (limits : Limits) (p : ℕ) (peer : is_peer s n p ≡ true) (g : ℕ → ℕ) where
  -- in the open session with p so many items went each way, so many calls and jobs were made, and this is outstanding; the numbers of the sessions are g
  pub record Talks (a t l b c calls jobs : ℕ) (W : Outstanding) (D : List Deed) : Type 0 where
    pub right : AreRightDeeds s n limits D
    pub up : closed p D ≡ false
    pub given : (q : ℕ) → number q D ≡ g q
    pub unasked : (rep : WireRep) → has_surrogate s n D rep ≡ false
    pub outstanding : work s n D ≡ W
    pub indexes : length (exports D) ≡ 0
    pub made : calls_made D ≡ calls
    pub claimed : jobs_made D ≡ jobs
    pub heard : (q : ℕ) → seen (calls_at q (history_of s n D)) ≤ g q
    pub stands : Stands (g p) a t l b c (calls_at p (history_of s n D))

  -- ---- a frame goes, a frame comes

  abbrev pub frames_to : List Deed → List Frame
  frames_to D = right_transmit s p limits.window (calls_at p (history_of s n D))

  transmit_calls : (q : ℕ) (frames : List Frame) (D : List Deed) → calls_at q (history_of s n (did.Transmit p frames ∷ D)) ≡ cond (p == q) (ends.Transmit frames ∷ calls_at q (history_of s n D)) (calls_at q (history_of s n D))
  unfolding gifts gifts_of
  transmit_calls q frames D = refl

  -- what is handed is transmitted
  pub transmits : (a b c calls jobs : ℕ) (W : Outstanding) (D : List Deed) → 1 ≤ limits.window → Keeps s n W → Talks (a + 1) a (a + 1) b c calls jobs W D → Talks (a + 1) (a + 1) (a + 1) b c calls jobs W (did.Transmit p (frames_to D) ∷ D)
  unfolding right_after right_frames work_after
  transmits a b c calls jobs W D some keeps its = record {
    right = ((events.Transmit p, framed_by p (frames_to D) (not (is_peer s n p)) (not_from_true (is_peer s n p) peer)), its.right);
    up = its.up;
    given = its.given;
    unasked = its.unasked;
    outstanding = ap (with_loans s n (did.Transmit p (frames_to D) ∷ D)) its.outstanding ∙ keeps (did.Transmit p (frames_to D) ∷ D);
    indexes = its.indexes;
    made = its.made;
    claimed = its.claimed;
    heard = λ q. subst (λ (more : List EndEntry). seen more ≤ g q) (sym (transmit_calls q (frames_to D) D)) (unseen_by (p == q) (ends.Transmit (frames_to D)) (calls_at q (history_of s n D)) (g q) refl (its.heard q));
    stands = subst (Stands (g p) (a + 1) (a + 1) (a + 1) b c) (sym (transmit_calls p (frames_to D) D ∙ by_self p _ _)) (stands_transmitted s p limits.window (g p) a b c (calls_at p (history_of s n D)) some its.stands);
  }

  -- a frame of the session from p
  abbrev frame_from : FrameKind → (m ack : ℕ) → List ℕ → Frame
  frame_from kind m ack bytes = record { kind = kind; from = p; to = s; session = g p; seq = m; ack = ack; payload = bytes }

  arrive_calls : (q : ℕ) (kind : FrameKind) (m ack : ℕ) (bytes : List ℕ) (count : ℕ) (D : List Deed) → calls_at q (history_of s n (did.Arrive (frame_from kind m ack bytes) count ∷ D)) ≡ cond (p == q) (ends.Arrive (frame_from kind m ack bytes) (Ok (arrived.Took count)) ∷ calls_at q (history_of s n D)) (calls_at q (history_of s n D))
  unfolding gifts gifts_of
  arrive_calls q kind m ack bytes count D = refl

  hears : (a t l b c l' b' calls jobs : ℕ) (W : Outstanding) (kind : FrameKind) (m ack : ℕ) (bytes : List ℕ) (count : ℕ) (D : List Deed) → Keeps s n W → Talks a t l b c calls jobs W D → arrived_by p (frame_from kind m ack bytes) (calls_at p (history_of s n D)) ≡ arrived.Took count → Stands (g p) a t l' b' c (ends.Arrive (frame_from kind m ack bytes) (Ok (arrived.Took count)) ∷ calls_at p (history_of s n D)) → Talks a t l' b' c calls jobs W (did.Arrive (frame_from kind m ack bytes) count ∷ D)
  unfolding right_after right_arrival work_after
  hears a t l b c l' b' calls jobs W kind m ack bytes count D keeps its took stands = record {
    right = (
      (
        events.Arrive (frame_from kind m ack bytes),
        arrival_by (frame_from kind m ack bytes) count (not (s == s) || not (is_peer s n p)) (not ((p == p) && (s == s))) (arrived_by p (frame_from kind m ack bytes) (calls_at p (history_of s n D)))
            (or_from (not (s == s)) (not (is_peer s n p)) (not_from_true (s == s) (eq-eqb s s refl)) (not_from_true (is_peer s n p) peer))
            (not_from_true ((p == p) && (s == s)) (and_from (p == p) (s == s) (eq-eqb p p refl) (eq-eqb s s refl))) took,
      ),
      its.right,
    );
    up = its.up;
    given = its.given;
    unasked = its.unasked;
    outstanding = ap (with_loans s n (did.Arrive (frame_from kind m ack bytes) count ∷ D)) its.outstanding ∙ keeps (did.Arrive (frame_from kind m ack bytes) count ∷ D);
    indexes = its.indexes;
    made = its.made;
    claimed = its.claimed;
    heard = λ q. subst (λ (more : List EndEntry). seen more ≤ g q) (sym (arrive_calls q kind m ack bytes count D)) (heard_by (p == q) (frame_from kind m ack bytes) count (calls_at q (history_of s n D)) (g q) (its.heard q) (λ same. let one = ap g (eqb-true p q same) in omega (arith, one)));
    stands = subst (Stands (g p) a t l' b' c) (sym (arrive_calls p kind m ack bytes count D ∙ by_self p _ _)) stands;
  }

  -- all that was transmitted is acknowledged
  pub is_acknowledged : (a b c calls jobs : ℕ) (W : Outstanding) (D : List Deed) → Keeps s n W → Talks a a a b c calls jobs W D → Talks a a (a + 1) b c calls jobs W (did.Arrive (acknowledgement s p (g p) (a + 1)) 0 ∷ D)
  is_acknowledged a b c calls jobs W D keeps its =
      let out = its.stands.out in
      hears a a a b c (a + 1) b calls jobs W kinds.Ack 0 (a + 1) [] 0 D keeps its
      (is_heard p (acknowledgement s p (g p) (a + 1)) (calls_at p (history_of s n D)) (sym its.stands.numbered) its.stands.up refl (omega (arith, out)))
      (stands_acknowledged s p (g p) a b c (calls_at p (history_of s n D)) its.stands)

  -- an item comes
  pub is_brought : (a b calls jobs : ℕ) (W : Outstanding) (bytes : List ℕ) (D : List Deed) → Keeps s n W → b + 1 ≤ last_item → Talks a a (a + 1) b b calls jobs W D → Talks a a (a + 1) (b + 1) b calls jobs W (did.Arrive (parcel s p (g p) (b + 1) bytes) 1 ∷ D)
  is_brought a b calls jobs W bytes D keeps room its =
      hears a a (a + 1) b b (a + 1) (b + 1) calls jobs W kinds.Data (b + 1) 1 bytes 1 D keeps its
      (is_heard p (parcel s p (g p) (b + 1) bytes) (calls_at p (history_of s n D)) (sym its.stands.numbered) its.stands.up refl (omega arith) ∙ ap arrived.Took (takes_one s p (g p) a b bytes (calls_at p (history_of s n D)) its.stands room))
      (stands_brought s p (g p) a b bytes (calls_at p (history_of s n D)) its.stands room)

  pub brought_first : (a b calls jobs : ℕ) (W : Outstanding) (bytes : List ℕ) (D : List Deed) → b + 1 ≤ last_item → Talks a a (a + 1) b b calls jobs W D → right_front (calls_at p (history_of s n (did.Arrive (parcel s p (g p) (b + 1) bytes) 1 ∷ D))) ≡ Some (b + 1, bytes)
  brought_first a b calls jobs W bytes D room its =
      ap right_front (arrive_calls p kinds.Data (b + 1) 1 bytes 1 D ∙ by_self p _ _)
      ∙ stands_first s p (g p) a b bytes (calls_at p (history_of s n D)) its.stands room

  -- ---- a call is made

  -- where all is acknowledged one more item may be handed
  room_here : (a t b c : ℕ) (calls : List EndEntry) → Stands (g p) a t (a + 1) b c calls → a < last_item → refusal_in (right_send Limited calls) ≡ None
  room_here a t b c calls its room =
      let given = its.given in
      sent_by (not (is_open calls)) (nat_le queue_limit (length (unacknowledged calls))) (nat_le last_item (length (handed calls))) (length (handed calls) + 1)
      (not_from_true (is_open calls) its.up)
      (ap (λ (xs : List (List ℕ)). nat_le queue_limit (length xs)) (none_unacknowledged (g p) a t b c calls its))
      (not_above last_item (length (handed calls)) (omega (arith, given, room)))

  -- the item that it sends
  call_items : (call : ℕ) (D : List Deed) (W : Outstanding) → items_to p (gifts s n (idle_call p call) D W) ≡ items.Call call 0 0 values.Unit ∷ []
  unfolding gifts gifts_of
  call_items call D W =
      let gift : Gift = record { to = p; item = items.Call call 0 0 values.Unit } in
      ap (λ (b : Bool). items_to p (cond b (gift ∷ []) [])) peer
      ∙ ap (λ (b : Bool). map (λ (g : Gift). g.item) (cond b (gift ∷ []) [])) (eq-eqb p p refl)

  call_made : (q call : ℕ) (D : List Deed) → calls_at q (history_of s n (idle_call p call ∷ D)) ≡ with_sends (items_to q (gifts s n (idle_call p call) D (work s n D))) (calls_at q (history_of s n D))
  call_made q call D = refl

  pub calls_one : (a b calls jobs : ℕ) (D : List Deed) → a < last_item → calls < last_number → Talks a a (a + 1) b b calls jobs no_work D → Talks (a + 1) a (a + 1) b b (calls + 1) jobs (asked p (calls_made D + 1)) (idle_call p (calls_made D + 1) ∷ D)
  unfolding right_after right_call work_after after_call with_loans
  calls_one a b calls jobs D room more its =
      let call : ℕ = calls_made D + 1 in
      let made = its.made in
      let h : History = history_of s n D in record {
        right = (
          (
            events.Call (agent p) 0 values.Unit,
            called_by p call (not (is_peer s n p)) (closed p D) (is_counted (agent p) && not (is_held s (agent p) h)) (value_refused s h values.Unit) (is_last_call h) (send_refused p Limited h)
                (not_from_true (is_peer s n p) peer) its.up refl (unit_sent s h)
                (or_from (nat_le most_calls (length (work s n D).calls)) (nat_le last_number (calls_made D)) (ap (λ (W : Outstanding). nat_le most_calls (length W.calls)) its.outstanding) (not_above last_number (calls_made D) (omega (arith, made, more))))
                (room_here a a b b (calls_at p h) its.stands room),
          ),
          its.right,
        );
        up = its.up;
        given = its.given;
        unasked = its.unasked;
        outstanding = ap (λ (W : Outstanding). with_loans s n (idle_call p call ∷ D) (after_call p call W)) its.outstanding;
        indexes = its.indexes;
        made = omega (arith, made);
        claimed = its.claimed;
        heard = λ q. unseen_sends (items_to q (gifts s n (idle_call p call) D (work s n D))) (calls_at q h) (g q) (its.heard q);
        stands = subst (λ (sends : List Item). Stands (g p) (a + 1) a (a + 1) b b (with_sends sends (calls_at p h))) (sym (call_items call D (work s n D))) (stands_sent (g p) a a (a + 1) b b (length (handed (calls_at p h)) + 1) (payload_of (items.Call call 0 0 values.Unit)) (kind_of (items.Call call 0 0 values.Unit)) (calls_at p h) its.stands);
      }

  -- ---- an item is acted on

  -- nothing more is wanted by an item without references
  refusal_none : (item : Item) (W : Outstanding) (D : List Deed) → work s n D ≡ W → messages W ≡ 0 → ((rep : WireRep) → has_surrogate s n D rep ≡ false) → counted_in item ≡ [] → message_refusal s n item (history_of s n D) ≡ None
  unfolding message_refusal is_too_much dirties_for
  refusal_none item W D is few none bare =
      refused_by (nat_le most_messages (messages (work s n D)) || nat_lt most_surrogates (length (surrogates s n (history_of s n D)) + length (new_dirties s n item (history_of s n D)))) _
      (or_from (nat_le most_messages (messages (work s n D))) (nat_lt most_surrogates (length (surrogates s n (history_of s n D)) + length (new_dirties s n item (history_of s n D))))
      (ap (λ (w : Outstanding). nat_le most_messages (messages w)) is ∙ ap (nat_le most_messages) few)
      (ap (λ (reps : List WireRep). nat_lt most_surrogates (length reps + length (new_dirties s n item (history_of s n D)))) (none_filtered (has_surrogate s n D) (by_last_dirty (history_of s n D)) none) ∙ ap (λ (reps : List WireRep). nat_lt most_surrogates (0 + length (dirties_for s n D reps))) bare))
      (ap (λ (reps : List WireRep). not (all_have_numbers (dirties_for s n D reps) (history_of s n D))) bare)
    where
      refused_by : (much numberless : Bool) → much ≡ false → numberless ≡ false → cond much (Some refusals.Limit) (cond numberless (Some refusals.SeqEnd) None) ≡ None
      refused_by true numberless a b = cc
      refused_by false true a b = cc
      refused_by false false a b = refl

  acts_as : (m : ℕ) (bytes : List ℕ) (item : Item) (h : History) → right_front (calls_at p h) ≡ Some (m, bytes) → item_spelt bytes ≡ Some item → fault_of s n p item h ≡ None → act_refusal s n p item h ≡ None → act_of s n p (right_front (calls_at p h)) h ≡ Ok (answers.Acted m)
  unfolding act_of act_on
  acts_as m bytes item h front spelt fault kept =
      ap (λ (one : Option (ℕ × List ℕ)). act_of s n p one h) front
      ∙ ap (λ (one : Option Item). act_on s n p m one h) spelt
      ∙ ap (λ (one : Option Reason). answer_of_act m one (act_refusal s n p item h)) fault
      ∙ ap (answer_of_act m None) kept

  acts_right : (m : ℕ) (bytes : List ℕ) (item : Item) (D : List Deed) → closed p D ≡ false → right_front (calls_at p (history_of s n D)) ≡ Some (m, bytes) → item_spelt bytes ≡ Some item → fault_of s n p item (history_of s n D) ≡ None → act_refusal s n p item (history_of s n D) ≡ None → IsRightDeed s n limits (did.Act p m) D
  unfolding right_after right_act
  acts_right m bytes item D up front spelt fault kept = (events.Act p, acted_by p m (not (is_peer s n p)) (closed p D) (act_of s n p (right_front (calls_at p (history_of s n D))) (history_of s n D)) (not_from_true (is_peer s n p) peer) up (acts_as m bytes item (history_of s n D) front spelt fault kept))

  act_calls : (q m : ℕ) (D : List Deed) → gifts s n (did.Act p m) D (work s n D) ≡ [] → calls_at q (history_of s n (did.Act p m ∷ D)) ≡ cond (p == q) (ends.Take ∷ calls_at q (history_of s n D)) (calls_at q (history_of s n D))
  act_calls q m D none = ap (λ (more : List Gift). cond (p == q) (ends.Take ∷ with_sends (items_to q more) (calls_at q (history_of s n D))) (with_sends (items_to q more) (calls_at q (history_of s n D)))) none

  -- an item that gives nothing and asks for nothing
  acts : (a b calls jobs m : ℕ) (W after : Outstanding) (bytes : List ℕ) (item : Item) (D : List Deed) → Talks a a (a + 1) m b calls jobs W D → right_front (calls_at p (history_of s n D)) ≡ Some (m, bytes) → item_spelt bytes ≡ Some item → fault_of s n p item (history_of s n D) ≡ None → act_refusal s n p item (history_of s n D) ≡ None → ((item_at p m D ≡ Some item) → gifts s n (did.Act p m) D (work s n D) ≡ []) → ((item_at p m D ≡ Some item) → work s n (did.Act p m ∷ D) ≡ after) → ((rep : WireRep) → turns_after s n p rep (Some item) D (turns s n rep D) ≡ turns s n rep D) → Talks a a (a + 1) m (b + 1) calls jobs after (did.Act p m ∷ D)
  acts a b calls jobs m W after bytes item D its front spelt fault kept gives does asks =
      let there : item_at p m D ≡ Some item = front_item s n p D (in_turn s n limits D its.right) m bytes item front spelt in
      let none = gives there in record {
        right = (acts_right m bytes item D its.up front spelt fault kept, its.right);
        up = its.up;
        given = its.given;
        unasked = λ rep. ap (λ (t : Turns). is_standing t && not (closed rep.owner D)) (ap (λ (one : Option Item). turns_after s n p rep one D (turns s n rep D)) there ∙ asks rep) ∙ its.unasked rep;
        outstanding = does there;
        indexes = its.indexes;
        made = its.made;
        claimed = its.claimed;
        heard = λ q. subst (λ (more : List EndEntry). seen more ≤ g q) (sym (act_calls q m D none)) (unseen_by (p == q) ends.Take (calls_at q (history_of s n D)) (g q) refl (its.heard q));
        stands = subst (Stands (g p) a a (a + 1) m (b + 1)) (sym (act_calls p m D none ∙ by_self p _ _)) (stands_taken (g p) a a (a + 1) m b (calls_at p (history_of s n D)) its.stands);
      }

  -- ---- a reply comes and is taken

  reply_fault : (call : ℕ) (D : List Deed) → work s n D ≡ asked p call → fault_of s n p (reply call) (history_of s n D) ≡ None
  unfolding fault_of
  reply_fault call D is =
      ap (λ (W : Outstanding). first_fault (fault_if (not (list_any (awaits_reply p call) W.calls)) OutOfPlace) None) is
      ∙ ap (λ (b : Bool). first_fault (fault_if (not ((b && true) || false)) OutOfPlace) None) (and_from (call == call) (p == p) (eq-eqb call call refl) (eq-eqb p p refl))

  reply_work : (m call : ℕ) (D : List Deed) → number p D ≡ g p → work s n D ≡ asked p call → item_at p m D ≡ Some (reply call) → work s n (did.Act p m ∷ D) ≡ replied p (g p) m call
  unfolding work_after after_act after_message with_loans call_after_reply message_after
  reply_work m call D session is there =
      ap (λ (one : Option Item). with_loans s n (did.Act p m ∷ D) (after_act s n p m D one (work s n D))) there
      ∙ ap (λ (W : Outstanding). with_loans s n (did.Act p m ∷ D) (after_act s n p m D (Some (reply call)) W)) is
      ∙ ap (λ (k : ℕ). record { waiting = []; ready = []; running = []; replies = came p k m (reply call) ∷ []; calls = record { call = call; to = p; stage = stage_after_reply ((p == p) && (call == call)) stages.Sent } ∷ [] }) session
      ∙ ap (λ (b : Bool). record { waiting = []; ready = []; running = []; replies = came p (g p) m (reply call) ∷ []; calls = record { call = call; to = p; stage = stage_after_reply b stages.Sent } ∷ [] }) (and_from (p == p) (call == call) (eq-eqb p p refl) (eq-eqb call call refl))

  reply_gives : (m call : ℕ) (D : List Deed) → item_at p m D ≡ Some (reply call) → gifts s n (did.Act p m) D (work s n D) ≡ []
  unfolding gifts gifts_of gifts_of_act dirties_for
  reply_gives m call D there = ap (λ (one : Option Item). filter (λ (gift : Gift). is_peer s n gift.to) (gifts_of_act s n p D one)) there

  pub reply_comes : (a b calls jobs call : ℕ) (bytes : List ℕ) (D : List Deed) → item_spelt bytes ≡ Some (reply call) → right_front (calls_at p (history_of s n D)) ≡ Some (b + 1, bytes) → Talks a a (a + 1) (b + 1) b calls jobs (asked p call) D → Talks a a (a + 1) (b + 1) (b + 1) calls jobs (replied p (g p) (b + 1) call) (did.Act p (b + 1) ∷ D)
  unfolding act_refusal
  reply_comes a b calls jobs call bytes D spelt front its =
      acts a b calls jobs (b + 1) (asked p call) (replied p (g p) (b + 1) call) bytes (reply call) D its front spelt (reply_fault call D its.outstanding)
      (refusal_none (reply call) (asked p call) D its.outstanding refl its.unasked refl)
      (reply_gives (b + 1) call D) (reply_work (b + 1) call D (its.given p) its.outstanding) (λ rep. refl)

  takes_as : (m call : ℕ) (D : List Deed) → work s n D ≡ replied p (g p) m call → right_take_reply call (history_of s n D) ≡ Ok (answers.Replied 0 values.Unit)
  unfolding right_take_reply take_of answer_of_call answer_of_reply
  takes_as m call D is =
      let own : OwnCall = record { call = call; to = p; stage = stages.Answered } in
      let message : Message = came p (g p) m (reply call) in
      let h : History = record { deeds = D; work = replied p (g p) m call; all_gifts = all_gifts s n D } in
      ap (λ (W : Outstanding). take_of call (find (is_call call) W.calls) (record { deeds = D; work = W; all_gifts = all_gifts s n D })) is
      ∙ ap (λ (b : Bool). take_of call (cond b (Some own) None) h) (eq-eqb call call refl)
      ∙ ap (λ (b : Bool). answer_of_call own (cond b (Some message) None) h) (eq-eqb call call refl)

  take_work : (m call : ℕ) (D : List Deed) → work s n D ≡ replied p (g p) m call → work s n (did.TakeReply call 0 values.Unit ∷ D) ≡ no_work
  unfolding work_after after_take with_loans message_after
  take_work m call D is =
      ap (λ (W : Outstanding). with_loans s n (did.TakeReply call 0 values.Unit ∷ D) (after_take call W)) is
      ∙ ap (λ (b : Bool). with_loans s n (did.TakeReply call 0 values.Unit ∷ D) (record { waiting = []; ready = []; running = []; replies = cond (not b) (came p (g p) m (reply call) ∷ []) []; calls = cond (not b) (record { call = call; to = p; stage = stages.Answered } ∷ []) [] })) (eq-eqb call call refl)

  pub takes_reply : (a b m calls jobs call : ℕ) (D : List Deed) → Talks a a (a + 1) b b calls jobs (replied p (g p) m call) D → Talks a a (a + 1) b b calls jobs no_work (did.TakeReply call 0 values.Unit ∷ D)
  unfolding right_after gifts gifts_of
  takes_reply a b m calls jobs call D its = record {
    right = ((events.TakeReply call, ap (deed_by (events.TakeReply call)) (takes_as m call D its.outstanding)), its.right);
    up = its.up;
    given = its.given;
    unasked = its.unasked;
    outstanding = take_work m call D its.outstanding;
    indexes = its.indexes;
    made = its.made;
    claimed = its.claimed;
    heard = its.heard;
    stands = its.stands;
  }

  -- ---- a job comes, runs and ends

  asked_work : (m : ℕ) (D : List Deed) → number p D ≡ g p → work s n D ≡ no_work → item_at p m D ≡ Some asked_here → work s n (did.Act p m ∷ D) ≡ readied p (g p) m
  unfolding work_after after_act after_message with_loans message_after
  asked_work m D session is there =
      ap (λ (one : Option Item). with_loans s n (did.Act p m ∷ D) (after_act s n p m D one (work s n D))) there
      ∙ ap (λ (W : Outstanding). with_loans s n (did.Act p m ∷ D) (after_act s n p m D (Some asked_here) W)) is
      ∙ ap (λ (k : ℕ). readied p k m) session

  asked_gives : (m : ℕ) (D : List Deed) → item_at p m D ≡ Some asked_here → gifts s n (did.Act p m) D (work s n D) ≡ []
  unfolding gifts gifts_of gifts_of_act dirties_for
  asked_gives m D there = ap (λ (one : Option Item). filter (λ (gift : Gift). is_peer s n gift.to) (gifts_of_act s n p D one)) there

  asked_fault : (D : List Deed) → fault_of s n p asked_here (history_of s n D) ≡ None
  unfolding fault_of
  asked_fault D = refl

  pub job_comes : (a b calls jobs : ℕ) (bytes : List ℕ) (D : List Deed) → item_spelt bytes ≡ Some asked_here → right_front (calls_at p (history_of s n D)) ≡ Some (b + 1, bytes) → Talks a a (a + 1) (b + 1) b calls jobs no_work D → Talks a a (a + 1) (b + 1) (b + 1) calls jobs (readied p (g p) (b + 1)) (did.Act p (b + 1) ∷ D)
  unfolding act_refusal
  job_comes a b calls jobs bytes D spelt front its =
      acts a b calls jobs (b + 1) no_work (readied p (g p) (b + 1)) bytes asked_here D its front spelt (asked_fault D)
      (refusal_none asked_here no_work D its.outstanding refl its.unasked refl)
      (asked_gives (b + 1) D) (asked_work (b + 1) D (its.given p) its.outstanding) (λ rep. refl)

  claimed_by : (made : ℕ) (message : Message) (found : Option Message) (past : Bool) → found ≡ Some message → message.item ≡ asked_here → message.from ≡ p → nat_le last_number made ≡ false → deed_by events.Claim (claim_of made found) ≡ Some (did.Claim (job_from p (made + 1)))
  unfolding claim_of job_of
  claimed_by made message found past is item from low =
      ap (λ (one : Option Message). deed_by events.Claim (claim_of made one)) is
      ∙ ap (λ (b : Bool). deed_by events.Claim (cond b (Err refusals.Limit) (job_of (made + 1) message.from message.item))) low
      ∙ ap (λ (one : Item). deed_by events.Claim (job_of (made + 1) message.from one)) item
      ∙ ap (λ (q : ℕ). Some (did.Claim (job_from q (made + 1)))) from

  claim_work : (m j : ℕ) (D : List Deed) → work s n D ≡ readied p (g p) m → work s n (did.Claim (job_from p j) ∷ D) ≡ runs p (g p) m j
  unfolding work_after after_claim with_loans message_after run_after
  claim_work m j D is =
      let message : Message = came p (g p) m asked_here in
      ap (λ (W : Outstanding). with_loans s n (did.Claim (job_from p j) ∷ D) (after_claim (job_from p j) (find (is_job (job_from p j)) W.ready) W)) is
      ∙ ap (λ (b : Bool). with_loans s n (did.Claim (job_from p j) ∷ D) (after_claim (job_from p j) (cond (b && true) (Some message) None) (readied p (g p) m))) (eq-eqb p p refl)
      ∙ ap (λ (b : Bool). with_loans s n (did.Claim (job_from p j) ∷ D) (record { waiting = []; ready = cond (b && true) [] (message ∷ []); running = record { job = j; message = message } ∷ []; replies = []; calls = [] })) (eq-eqb p p refl)

  pub claims : (a b m calls jobs : ℕ) (D : List Deed) → jobs < last_number → Talks a a (a + 1) b b calls jobs (readied p (g p) m) D → Talks a a (a + 1) b b calls (jobs + 1) (runs p (g p) m (jobs_made D + 1)) (did.Claim (job_from p (jobs_made D + 1)) ∷ D)
  unfolding right_after right_claim gifts gifts_of
  claims a b m calls jobs D more its =
      let claimed = its.claimed in record {
        right = ((events.Claim, claimed_by (jobs_made D) (came p (g p) m asked_here) (to_claim (history_of s n D)) true (ap (λ (W : Outstanding). find (is_free W) W.ready) its.outstanding) refl refl (not_above last_number (jobs_made D) (omega (arith, claimed, more)))), its.right);
        up = its.up;
        given = its.given;
        unasked = its.unasked;
        outstanding = claim_work m (jobs_made D + 1) D its.outstanding;
        indexes = its.indexes;
        made = its.made;
        claimed = omega (arith, claimed);
        heard = its.heard;
        stands = its.stands;
      }

  -- the reply of the job
  abbrev reply_here : Item
  reply_here = items.Reply 1 0 values.Unit

  finished_by : (j : ℕ) (run : Run) (found : Option Run) (D : List Deed) → found ≡ Some run → run.message.from ≡ p → run.message.session ≡ number p D → closed p D ≡ false → refusal_in (right_send Limited (calls_at p (history_of s n D))) ≡ None → deed_by (events.Finish j (outcomes.Answer values.Unit)) (finish_of s (outcomes.Answer values.Unit) found (history_of s n D)) ≡ Some (did.Finish j (outcomes.Answer values.Unit))
  unfolding finish_of
  finished_by j run found D is from session up room =
      ap (λ (one : Option Run). deed_by (events.Finish j (outcomes.Answer values.Unit)) (finish_of s (outcomes.Answer values.Unit) one (history_of s n D))) is
      ∙ ended_by (has_ended run.message (history_of s n D)) (value_refused s (history_of s n D) values.Unit) (send_refused run.message.from Limited (history_of s n D))
      (or_from (closed run.message.from D) (not (run.message.session == number run.message.from D)) (ap (λ (q : ℕ). closed q D) from ∙ up) (not_from_true (run.message.session == number run.message.from D) (eq-eqb run.message.session (number run.message.from D) (session ∙ ap (λ (q : ℕ). number q D) (sym from)))))
      (unit_sent s (history_of s n D))
      (ap (λ (q : ℕ). send_refused q Limited (history_of s n D)) from ∙ room)
    where
      ended_by : (over : Bool) (value full : Option Refusal) → over ≡ false → value ≡ None → full ≡ None → deed_by (events.Finish j (outcomes.Answer values.Unit)) (cond over (Ok answers.Dropped) (unless (value or_else full) answers.Finished)) ≡ Some (did.Finish j (outcomes.Answer values.Unit))
      ended_by true value full a b c = cc
      ended_by false (Some refusal) full a b c = cc
      ended_by false None (Some refusal) a b c = cc
      ended_by false None None a b c = refl

  finish_items : (m j : ℕ) (D : List Deed) → work s n D ≡ runs p (g p) m j → items_to p (gifts s n (did.Finish j (outcomes.Answer values.Unit)) D (work s n D)) ≡ reply_here ∷ []
  unfolding gifts gifts_of gifts_of_finish reply_to
  finish_items m j D is =
      let gift : Gift = record { to = p; item = reply_here } in
      let run : Run = record { job = j; message = came p (g p) m asked_here } in
      ap (λ (W : Outstanding). items_to p (filter (λ (one : Gift). is_peer s n one.to) (gifts_of_finish (outcomes.Answer values.Unit) (find (is_run j) W.running)))) is
      ∙ ap (λ (b : Bool). items_to p (filter (λ (one : Gift). is_peer s n one.to) (gifts_of_finish (outcomes.Answer values.Unit) (cond b (Some run) None)))) (eq-eqb j j refl)
      ∙ ap (λ (b : Bool). items_to p (cond b (gift ∷ []) [])) peer
      ∙ ap (λ (b : Bool). map (λ (one : Gift). one.item) (cond b (gift ∷ []) [])) (eq-eqb p p refl)

  finish_work : (m j : ℕ) (D : List Deed) → work s n D ≡ runs p (g p) m j → work s n (did.Finish j (outcomes.Answer values.Unit) ∷ D) ≡ no_work
  unfolding work_after after_finish with_loans
  finish_work m j D is =
      let run : Run = record { job = j; message = came p (g p) m asked_here } in
      ap (λ (W : Outstanding). with_loans s n (did.Finish j (outcomes.Answer values.Unit) ∷ D) (after_finish j W)) is
      ∙ ap (λ (b : Bool). with_loans s n (did.Finish j (outcomes.Answer values.Unit) ∷ D) (record { waiting = []; ready = []; running = cond (not b) (run ∷ []) []; replies = []; calls = [] })) (eq-eqb j j refl)

  pub finishes : (a b m j calls jobs : ℕ) (D : List Deed) → a < last_item → Talks a a (a + 1) b b calls jobs (runs p (g p) m j) D → Talks (a + 1) a (a + 1) b b calls jobs no_work (did.Finish j (outcomes.Answer values.Unit) ∷ D)
  unfolding right_after right_finish
  finishes a b m j calls jobs D room its =
      let h : History = history_of s n D in
      let run : Run = record { job = j; message = came p (g p) m asked_here } in record {
        right = (
          (
            events.Finish j (outcomes.Answer values.Unit),
            finished_by j run (find (is_run j) (work s n D).running) D (ap (λ (W : Outstanding). find (is_run j) W.running) its.outstanding ∙ ap (λ (b : Bool). cond b (Some run) None) (eq-eqb j j refl)) refl (sym (its.given p)) its.up (room_here a a b b (calls_at p h) its.stands room),
          ),
          its.right,
        );
        up = its.up;
        given = its.given;
        unasked = its.unasked;
        outstanding = finish_work m j D its.outstanding;
        indexes = its.indexes;
        made = its.made;
        claimed = its.claimed;
        heard = λ q. unseen_sends (items_to q (gifts s n (did.Finish j (outcomes.Answer values.Unit)) D (work s n D))) (calls_at q h) (g q) (its.heard q);
        stands = subst (λ (sends : List Item). Stands (g p) (a + 1) a (a + 1) b b (with_sends sends (calls_at p h))) (sym (finish_items m j D its.outstanding)) (stands_sent (g p) a a (a + 1) b b (length (handed (calls_at p h)) + 1) (payload_of reply_here) (kind_of reply_here) (calls_at p h) its.stands);
      }
