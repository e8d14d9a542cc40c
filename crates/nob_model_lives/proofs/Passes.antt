-- Calls are passed over: a session opens, calls are made in it, and it closes before anything was transmitted.
use Rattle.std.proofs.Common.{◌≡◌, ℕ, zero, suc, ◌+◌, ◌-◌, ◌≤◌, ◌<◌, ◌&&◌, not, max, Bool, true, false, cond, List, [], ◌∷◌, length, map, drop, Option, Some, None, Ok, Err, refl, ap, subst, ◌∙◌, arith}
use Rattle.std.specs.Prelude.{◌*◌, ◌==◌, min, nat_le}
use Rattle.std.proofs.lemmas.List.{length-append}
use Rattle.std.proofs.lemmas.Bool.{eq-eqb, or_from, leb-true, not_from_true, not_from_false, false_from_ne_true}
use Rattle.nob_ids.specs.Names.{is_counted}
use Rattle.nob_ids.specs.declared.limits.Limits.{Limits}
use Rattle.nob_ids.specs.declared.wire_rep.WireRep.{WireRep}
use Rattle.nob_pickle.specs.Writing.{pickle_of}
use Rattle.nob_pickle.specs.declared.value.Value.TheVariants as values
use Rattle.nob_item.specs.declared.item.Item.{Item}
use Rattle.nob_item.specs.declared.item.Item.TheVariants as items
use Rattle.nob_model_session.specs.End.{last_item, last_session, seen, is_open, handed, lowest, unacknowledged}
use Rattle.nob_model_session.specs.Right.{queue_limit, right_send}
use Rattle.nob_model_session.specs.declared.refusal.EndRefusal.TheVariants as end_refusals
use Rattle.nob_model_session.specs.declared.entry.EndEntry.{EndEntry}
use Rattle.nob_model_session.specs.declared.entry.EndEntry.TheVariants as ends
use Rattle.nob_model_session.specs.declared.entry.Kind.TheVariants.{Limited}
use Rattle.nob_model_types.specs.declared.event.Event.TheVariants as events
use Rattle.nob_model_types.specs.declared.answer.Answer.TheVariants as answers
use Rattle.nob_model_types.specs.declared.refusal.Refusal.{Refusal}
use Rattle.nob_model_types.specs.declared.refusal.Refusal.TheVariants as refusals
use Rattle.nob_model_types.specs.declared.deed.Deed.{Deed}
use Rattle.nob_model_types.specs.declared.deed.Deed.TheVariants as did
use Rattle.nob_model_types.specs.Deeds.{deed_by}
use Rattle.nob_model_types.specs.Sessions.{is_peer, closed, number}
use Rattle.nob_model_types.specs.Objects.{exports}
use Rattle.nob_model_work.specs.declared.gifts.Gift.{Gift}
use Rattle.nob_model_work.specs.declared.work.Outstanding.{Outstanding}
use Rattle.nob_model_work.specs.declared.work.Stage.TheVariants as stages
use Rattle.nob_model_work.specs.Work.{work, work_after, with_loans, after_call}
use Rattle.nob_model_work.specs.Gifts.{gifts, gifts_of}
use Rattle.nob_model_history.specs.declared.history.History.{History}
use Rattle.nob_model_history.specs.Histories.{history_of}
use Rattle.nob_model_history.specs.Ends.{items_to, payload_of, kind_of, with_sends, calls_at}
use Rattle.nob_model_history.specs.Holds.{is_held}
use Rattle.nob_model_history.proofs.Anew.{begins_anew_after}
use Rattle.nob_model_history.proofs.Inbox.{open_calls}
use Rattle.nob_model_history.proofs.Numbered.{sends_handed}
use Rattle.nob_model_acting.specs.Sending.{◌or_else◌, refuse_if, unless, refusal_in, value_refused, send_refused}
use Rattle.nob_model.specs.Opening.{next_number}
use Rattle.nob_model.specs.Right.{most_calls, last_number, right_after, right_call, is_last_call, calls_made, jobs_made}
use Rattle.nob_model.specs.Lists.{IsRightDeed, AreRightDeeds}
use Rattle.nob_model_lives.proofs.Leads.{Leads, stays, leads_by, leads_on, leads_as}
use Rattle.nob_model_lives.proofs.Opens.{open_right, open_shows, with_number, next_of, next_shown, rises}
use Rattle.nob_model_lives.proofs.Shown.{Shown, shown_by}
use Rattle.nob_model_lives.proofs.Still.{AreGone}
use Rattle.nob_model_lives.proofs.Withdraws.{Waits}
use Rattle.nob_model_lives.proofs.Born.{rest_all}

-- the agent of a peer
abbrev pub agent : ℕ → WireRep
agent p = record { owner = p; index = 0 }

-- the call of it that goes nowhere
abbrev pub idle_call : (p call : ℕ) → Deed
idle_call p call = did.Call (agent p) 0 values.Unit call

-- ---- a call is right

called_by : (p call : ℕ) (stranger shut unheld : Bool) (value : Option Refusal) (last : Bool) (full : Option Refusal) → stranger ≡ false → shut ≡ false → unheld ≡ false → value ≡ None → last ≡ false → full ≡ None → deed_by (events.Call (agent p) 0 values.Unit) (unless (refuse_if stranger refusals.NoPeer or_else refuse_if shut refusals.Closed or_else refuse_if unheld refusals.NotHeld or_else value or_else refuse_if last refusals.Limit or_else full) (answers.Called call)) ≡ Some (idle_call p call)
called_by p call true shut unheld value last full a b c d e f = cc
called_by p call false true unheld value last full a b c d e f = cc
called_by p call false false true value last full a b c d e f = cc
called_by p call false false false (Some refusal) last full a b c d e f = cc
called_by p call false false false None true full a b c d e f = cc
called_by p call false false false None false (Some refusal) a b c d e f = cc
called_by p call false false false None false None a b c d e f = refl

-- unit may be sent
unit_sent : (s : ℕ) (h : History) → value_refused s h values.Unit ≡ None
unfolding pickle_of
unit_sent s h = refl

sent_by : (shut full past : Bool) (k : ℕ) → shut ≡ false → full ≡ false → past ≡ false → refusal_in (cond shut (Err end_refusals.Closed) (cond full (Err end_refusals.QueueFull) (cond past (Err end_refusals.SeqEnd) (Ok k)))) ≡ None
sent_by true full past k a b c = cc
sent_by false true past k a b c = cc
sent_by false false true k a b c = cc
sent_by false false false k a b c = refl

drop_length : {X : Type 0} (k : ℕ) (xs : List X) → length (drop k xs) ≤ length xs
drop_length zero xs = omega arith
drop_length (suc k) [] = omega arith
drop_length (suc k) (x ∷ xs) = let rest = drop_length k xs in omega (arith, rest)

few_unacknowledged : (calls : List EndEntry) → length (unacknowledged calls) ≤ length (handed calls)
few_unacknowledged calls = by_open (is_open calls)
  where
    by_open : (b : Bool) → length (cond b (drop (lowest calls - 1) (handed calls)) []) ≤ length (handed calls)
    by_open true = drop_length (lowest calls - 1) (handed calls)
    by_open false = omega arith

above_none : (bound count : ℕ) → count < bound → nat_le bound count ≡ false
above_none bound count low = false_from_ne_true (nat_le bound count) (λ over. let above = leb-true bound count over in omega (arith, above, low))

-- an open end with few handed items takes one more
room_at : (calls : List EndEntry) → is_open calls ≡ true → length (handed calls) < queue_limit → refusal_in (right_send Limited calls) ≡ None
room_at calls up few =
    let low = few_unacknowledged calls in
    sent_by (not (is_open calls)) (nat_le queue_limit (length (unacknowledged calls))) (nat_le last_item (length (handed calls))) (length (handed calls) + 1)
    (not_from_true (is_open calls) up) (above_none queue_limit (length (unacknowledged calls)) (omega (arith, low, few))) (above_none last_item (length (handed calls)) (omega (arith, few)))

module _ (s n : ℕ) (limits : Limits) (p : ℕ) where
  -- in the open session with p so many calls were made, and so many are outstanding
  record Calling (j : ℕ) (y : Shown) (D : List Deed) : Type 0 where
    right : AreRightDeeds s n limits D
    up : closed p D ≡ false
    sent : length (handed (calls_at p (history_of s n D))) ≡ j
    out : length (work s n D).calls ≡ j
    shows : shown_by s n D ≡ y

  call_right : (j : ℕ) (y : Shown) (D : List Deed) → is_peer s n p ≡ true → Calling j y D → j < queue_limit → y.calls < last_number → IsRightDeed s n limits (idle_call p (calls_made D + 1)) D
  unfolding right_after right_call
  call_right j y D peer its few room =
      let made : calls_made D ≡ y.calls = ap (λ (one : Shown). one.calls) its.shows in
      let sent = its.sent in
      let out = its.out in (
        events.Call (agent p) 0 values.Unit,
        called_by p (calls_made D + 1) (not (is_peer s n p)) (closed p D) (is_counted (agent p) && not (is_held s (agent p) (history_of s n D))) (value_refused s (history_of s n D) values.Unit) (is_last_call (history_of s n D)) (send_refused p Limited (history_of s n D))
            (not_from_true (is_peer s n p) peer) its.up refl (unit_sent s (history_of s n D))
            (or_from (nat_le most_calls (length (work s n D).calls)) (nat_le last_number (calls_made D)) (above_none most_calls (length (work s n D).calls) (omega (arith, out, few))) (above_none last_number (calls_made D) (omega (arith, made, room))))
            (room_at (calls_at p (history_of s n D)) (open_calls s n p D ∙ not_from_false (closed p D) its.up) (omega (arith, sent, few))),
      )

  -- ---- what it leaves

  call_items : (call : ℕ) (D : List Deed) (W : Outstanding) → is_peer s n p ≡ true → items_to p (gifts s n (idle_call p call) D W) ≡ items.Call call 0 0 values.Unit ∷ []
  unfolding gifts gifts_of
  call_items call D W peer =
      let gift : Gift = record { to = p; item = items.Call call 0 0 values.Unit } in
      ap (λ (b : Bool). items_to p (cond b (gift ∷ []) [])) peer
      ∙ ap (λ (b : Bool). map (λ (g : Gift). g.item) (cond b (gift ∷ []) [])) (eq-eqb p p refl)

  call_handed : (call : ℕ) (D : List Deed) → is_peer s n p ≡ true → length (handed (calls_at p (history_of s n (idle_call p call ∷ D)))) ≡ length (handed (calls_at p (history_of s n D))) + 1
  call_handed call D peer =
      ap (λ (sends : List Item). length (handed (with_sends sends (calls_at p (history_of s n D))))) (call_items call D (work s n D) peer)
      ∙ ap length (sends_handed (items.Call call 0 0 values.Unit ∷ []) (calls_at p (history_of s n D)))
      ∙ length-append (handed (calls_at p (history_of s n D))) (payload_of (items.Call call 0 0 values.Unit) ∷ [])

  call_out : (call : ℕ) (D : List Deed) → length (work s n (idle_call p call ∷ D)).calls ≡ length (work s n D).calls + 1
  unfolding work_after after_call with_loans
  call_out call D = length-append (work s n D).calls (record { call = call; to = p; stage = stages.Sent } ∷ [])

-- a send hears nothing
sends_unseen : (sends : List Item) (calls : List EndEntry) → seen (with_sends sends calls) ≡ seen calls
sends_unseen [] calls = refl
sends_unseen (item ∷ sends) calls = sends_unseen sends (ends.Send (payload_of item) (kind_of item) (Ok (length (handed calls) + 1)) ∷ calls)

-- one call more
abbrev pub one_call : Shown → Shown
one_call x = record { indexes = x.indexes; calls = x.calls + 1; jobs = x.jobs; given = x.given; heard = x.heard }

call_shows : (s n p call : ℕ) (D : List Deed) → shown_by s n (idle_call p call ∷ D) ≡ one_call (shown_by s n D)
call_shows s n p call D = λ i. record { indexes = length (exports D); calls = calls_made D + 1; jobs = jobs_made D; given = λ q. number q D; heard = λ q. sends_unseen (items_to q (gifts s n (idle_call p call) D (work s n D))) (calls_at q (history_of s n D)) i }

-- so many calls more
abbrev pub more_calls : ℕ → Shown → Shown
more_calls zero x = x
more_calls (suc m) x = more_calls m (one_call x)

-- what is shown by calls passed over
pub more_called : (m : ℕ) (x : Shown) → ((more_calls m x).calls ≡ x.calls + m) × ((more_calls m x).indexes ≡ x.indexes) × ((more_calls m x).jobs ≡ x.jobs) × ((p : ℕ) → next_of (more_calls m x) p ≡ next_of x p)
more_called zero x = (omega arith, refl, refl, λ p. refl)
more_called (suc m) x = let rest = more_called m (one_call x) in let sum = rest.0 in (omega (arith, sum), rest.1, rest.2, rest.3)

module _ (s n : ℕ) (limits : Limits) (p : ℕ) where
  call_one : (j : ℕ) (y : Shown) (D : List Deed) → is_peer s n p ≡ true → Calling s n limits p j y D → j < queue_limit → y.calls < last_number → Leads (Calling s n limits p (j + 1) (one_call y)) D
  call_one j y D peer its few room =
      leads_by (Calling s n limits p (j + 1) (one_call y)) (idle_call p (calls_made D + 1)) D refl record {
        right = (call_right s n limits p j y D peer its few room, its.right);
        up = its.up;
        sent = (let more = call_handed s n limits p (calls_made D + 1) D peer in let sent = its.sent in omega (arith, more, sent));
        out = (let more = call_out s n limits p (calls_made D + 1) D in let out = its.out in omega (arith, more, out));
        shows = call_shows s n p (calls_made D + 1) D ∙ ap one_call its.shows;
      }

  call_all : (m j : ℕ) (y : Shown) (D : List Deed) → is_peer s n p ≡ true → Calling s n limits p j y D → j + m ≤ queue_limit → y.calls + m ≤ last_number → Leads (Calling s n limits p (j + m) (more_calls m y)) D
  call_all zero j y D peer its few room = stays (Calling s n limits p (j + zero) y) D (subst (λ (k : ℕ). Calling s n limits p k y D) (omega arith) its)
  call_all (suc m) j y D peer its few room =
      leads_on (Calling s n limits p (j + 1) (one_call y)) (Calling s n limits p (j + suc m) (more_calls m (one_call y))) D
      (call_one j y D peer its (omega (arith, few)) (omega (arith, room)))
      (λ E more. leads_as (Calling s n limits p ((j + 1) + m) (more_calls m (one_call y))) (Calling s n limits p (j + suc m) (more_calls m (one_call y))) E
      (λ F its. subst (λ (k : ℕ). Calling s n limits p k (more_calls m (one_call y)) F) (omega arith) its)
      (call_all m (j + 1) (one_call y) E peer more (omega (arith, few)) (omega (arith, room))))

  -- an open session, right after it opened
  opened_calling : (x : Shown) (D : List Deed) → is_peer s n p ≡ true → next_of x p ≤ last_session → Waits s n limits x D → Calling s n limits p 0 (with_number p (next_of x p) x) (did.Open p (next_number p (history_of s n D)) ∷ D)
  unfolding work_after with_loans
  opened_calling x D peer room its =
      let k : ℕ = next_number p (history_of s n D) in
      let next : k ≡ next_of x p = next_shown s n p x D its.shows in
      record {
        right = (open_right s n limits p D its.still peer (its.shut p peer) (omega (arith, next, room)), its.still.right);
        up = ap (λ (b : Bool). cond b false (closed p D)) (eq-eqb p p refl);
        sent = ap length (begins_anew_after s n p k D).end_is_new.none_handed;
        out = ap (λ (W : Outstanding). length W.calls) its.still.none_outstanding;
        shows = open_shows s n p k D ∙ ap (λ (m : ℕ). with_number p m (shown_by s n D)) next ∙ ap (with_number p (next_of x p)) its.shows;
      }

  -- calls are passed over in one number
  pub pass_calls : (m : ℕ) (x : Shown) (D : List Deed) → is_peer s n p ≡ true → next_of x p ≤ last_session → m ≤ queue_limit → x.calls + m ≤ last_number → Waits s n limits x D → Leads (λ E. Waits s n limits (more_calls m (with_number p (next_of x p) x)) E × AreGone s E) D
  pass_calls m x D peer room few last its =
      let y : Shown = with_number p (next_of x p) x in
      leads_on (Calling s n limits p 0 y) (λ E. Waits s n limits (more_calls m y) E × AreGone s E) D
      (leads_by (Calling s n limits p 0 y) (did.Open p (next_number p (history_of s n D))) D refl (opened_calling x D peer room its))
      (λ E one. leads_on (Calling s n limits p (0 + m) (more_calls m y)) (λ F. Waits s n limits (more_calls m y) F × AreGone s F) E
      (call_all m 0 y E peer one (omega (arith, few)) last)
      (λ F two. leads_as (λ G. Waits s n limits (shown_by s n F) G × AreGone s G) (λ G. Waits s n limits (more_calls m y) G × AreGone s G) F
      (λ G three. (subst (λ (z : Shown). Waits s n limits z G) two.shows three.0, three.1))
      (rest_all s n limits F two.right)))

  -- ---- in several numbers

  -- so many calls were passed over in so many numbers of the session with p at most
  pub record HasPassed (m passes : ℕ) (x y : Shown) : Type 0 where
    pub indexes : y.indexes ≡ x.indexes
    pub calls : y.calls ≡ x.calls + m
    pub jobs : y.jobs ≡ x.jobs
    pub others : (q : ℕ) → (p == q) ≡ false → next_of y q ≡ next_of x q
    pub next : next_of y p ≤ next_of x p + passes

  -- a space at rest that passed them over
  abbrev pub AfterCalls : (m passes : ℕ) → Shown → List Deed → Type 0
  AfterCalls m passes x E = (y : Shown) × HasPassed m passes x y × Waits s n limits y E × AreGone s E

  passed_one : (m : ℕ) (x : Shown) → HasPassed m 1 x (more_calls m (with_number p (next_of x p) x))
  passed_one m x =
      let more = more_called m (with_number p (next_of x p) x) in record {
        indexes = more.1;
        calls = more.0;
        jobs = more.2;
        others = λ q other. more.3 q ∙ ap (λ (b : Bool). max (cond b (next_of x p) (x.given q) + 1) (x.heard q)) other;
        next = at_most (more.3 p ∙ rises s n limits p x);
      }
    where
      at_most : {a b : ℕ} → a ≡ b → a ≤ b
      at_most same = omega (arith, same)

  passed_both : (m more passes : ℕ) (x y z : Shown) → HasPassed m 1 x y → HasPassed more passes y z → HasPassed (m + more) (suc passes) x z
  passed_both m more passes x y z one rest = record {
    indexes = rest.indexes ∙ one.indexes;
    calls = sum x.calls y.calls z.calls one.calls rest.calls;
    jobs = rest.jobs ∙ one.jobs;
    others = λ q other. rest.others q other ∙ one.others q other;
    next = low (next_of x p) (next_of y p) (next_of z p) one.next rest.next;
  }
    where
      sum : (a b c : ℕ) → b ≡ a + m → c ≡ b + more → c ≡ a + (m + more)
      sum a b c first second = omega (arith, first, second)

      low : (a b c : ℕ) → b ≤ a + 1 → c ≤ b + passes → c ≤ a + suc passes
      low a b c first second = omega (arith, first, second)

  none_more : (m : ℕ) → m ≤ queue_limit * 0 → m ≡ 0
  none_more m few = omega (arith, few)

  -- as many as one session can have, or all
  abbrev first_of : ℕ → ℕ
  first_of m = min m queue_limit

  first_low : (m : ℕ) → first_of m ≤ queue_limit
  first_low m = omega arith

  both_all : (m : ℕ) → first_of m + (m - first_of m) ≡ m
  both_all m = omega arith

  rest_low : (m passes : ℕ) → m ≤ queue_limit * suc passes → m - first_of m ≤ queue_limit * passes
  rest_low m passes few = omega (arith, few)

  first_room : (a m last : ℕ) → a + m ≤ last → a + first_of m ≤ last
  first_room a m last room = omega (arith, room)

  rest_room : (a b m last : ℕ) → b ≡ a + first_of m → a + m ≤ last → b + (m - first_of m) ≤ last
  rest_room a b m last same room = omega (arith, same, room)

  next_room : (a passes last : ℕ) → a + suc passes ≤ last → a ≤ last
  next_room a passes last room = omega (arith, room)

  later_room : (a b passes last : ℕ) → b ≤ a + 1 → a + suc passes ≤ last → b + passes ≤ last
  later_room a b passes last low room = omega (arith, low, room)

  -- calls are passed over in several numbers
  pub pass_many : (passes m : ℕ) (x : Shown) (D : List Deed) → is_peer s n p ≡ true → next_of x p + passes ≤ last_session → m ≤ queue_limit * passes → x.calls + m ≤ last_number → Waits s n limits x D → AreGone s D → Leads (AfterCalls m passes x) D
  pass_many zero m x D peer room few last its gone =
      let none = none_more m few in
      stays (AfterCalls m zero x) D (x, record { indexes = refl; calls = none_added x.calls none; jobs = refl; others = λ q other. refl; next = omega arith }, its, gone)
    where
      none_added : (a : ℕ) → m ≡ 0 → a ≡ a + m
      none_added a none = omega (arith, none)
  pass_many (suc passes) m x D peer room few last its gone =
      let y : Shown = more_calls (first_of m) (with_number p (next_of x p) x) in
      let one : HasPassed (first_of m) 1 x y = passed_one (first_of m) x in
      leads_on (λ E. Waits s n limits y E × AreGone s E) (AfterCalls m (suc passes) x) D
      (pass_calls (first_of m) x D peer (next_room (next_of x p) passes last_session room) (first_low m) (first_room x.calls m last_number last) its)
      (λ E here. leads_as (AfterCalls (m - first_of m) passes y) (AfterCalls m (suc passes) x) E
      (λ F after. (after.0, subst (λ (k : ℕ). HasPassed k (suc passes) x after.0) (both_all m) (passed_both (first_of m) (m - first_of m) passes x y after.0 one after.1), after.2, after.3))
      (pass_many passes (m - first_of m) y E peer (later_room (next_of x p) (next_of y p) passes last_session one.next room) (rest_low m passes few) (rest_room x.calls y.calls m last_number one.calls last) here.0 here.1))
