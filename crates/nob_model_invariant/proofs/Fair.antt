-- On every list of right deeds the messages of a Call outstanding and the Replies to it are, in the present session, together no
-- more than the times that it was acted on.
use Rattle.std.proofs.Common.{◌≡◌, ℕ, ◌+◌, ◌≤◌, ◌&&◌, not, Bool, true, false, cond, List, [], ◌∷◌, ◌++◌, map, filter, find, Option, Some, None, if◌then◌else◌, refl, sym, ap, subst, ◌∙◌, arith}
use Rattle.std.specs.Prelude.{⊤, ◌==◌, ◌<◌}
use Rattle.std.specs.List.{cons_option}
use Rattle.std.proofs.lemmas.Bool.{eqb-true, eq-eqb, ne_eqb, and_parts, both_ways}
use Rattle.std.proofs.lemmas.List.Elements.{filter_map-append}
use Rattle.nob_ids.specs.declared.limits.Limits.{Limits}
use Rattle.nob_item.specs.Kinds.{is_note}
use Rattle.nob_item.specs.declared.item.Item.{Item}
use Rattle.nob_item.specs.declared.item.Item.TheVariants as items
use Rattle.nob_pickle.specs.declared.value.Value.{Value}
use Rattle.nob_pickle.specs.declared.value.Value.TheVariants as values
use Rattle.nob_model_types.specs.declared.answer.Job.{Job}
use Rattle.nob_model_types.specs.declared.event.Outcome.{Outcome}
use Rattle.nob_model_types.specs.declared.deed.Deed.{Deed}
use Rattle.nob_model_types.specs.declared.deed.Deed.TheVariants as did
use Rattle.nob_model_types.specs.declared.message.Message.{Message}
use Rattle.nob_model_types.specs.Sessions.{is_peer, number, item_at, acted}
use Rattle.nob_model_types.specs.Messages.{new_message, message_after, is_of, is_not_from, replies_to, is_job, is_lost_message}
use Rattle.nob_model_work.specs.declared.gifts.Gift.{Gift}
use Rattle.nob_model_work.specs.declared.work.Outstanding.{Outstanding}
use Rattle.nob_model_work.specs.declared.work.Run.{Run}
use Rattle.nob_model_work.specs.Work.{is_run, wait, make_ready, make_reply, is_none_of, is_not_reply, call_after_reply, with_calls, after_message, after_act, after_settlement, without_waiting, after_settle, after_claim, after_finish, after_take, after_end, after_call, after_close, work_after, run_after, with_loans, work}
use Rattle.nob_model_work.specs.Gifts.{lost_call_reply, gifts_of_settle, status_of, value_of, reply_to, gifts_of_finish, gifts_of, gifts}
use Rattle.nob_model_history.specs.Histories.{history_of}
use Rattle.nob_model_history.specs.Ends.{items_to}
use Rattle.nob_model_history.specs.Transit.{sent}
use Rattle.nob_model_history.proofs.Numbered.{items_sent_in}
use Rattle.nob_model_history.proofs.Sessions.{opens, number_kept}
use Rattle.nob_model.specs.Right.{right_after}
use Rattle.nob_model.specs.Lists.{AreRightDeeds}
use Rattle.nob_model.proofs.Doing.{was_answered}
use Rattle.nob_model.proofs.Accepted.{found_passes, finish_tells}
use Rattle.nob_model.proofs.Carrying.{AllOutstanding, all_found}
use Rattle.nob_model.proofs.Waiting.{all_weaker}
use Rattle.nob_model_invariant.specs.Asking.{items_among}
use Rattle.nob_model_invariant.specs.Counting.{count_of, makes_call, brings_call, runs_call, calls_outstanding}
use Rattle.nob_model_invariant.proofs.Counts.{one_if, count_first, count_append, count_push, count_filter, count_without, count_dropped, count_mapped, count_none}
use Rattle.nob_model_holdings.proofs.Lists.{some_same}
use Rattle.nob_model_invariant.proofs.Notes.{may_speak, gives_notes}
use Rattle.nob_model_invariant.proofs.BySession.{sent_now_more}
use Rattle.nob_model_invariant.proofs.Opened.{opens_above}
use Rattle.nob_model_invariant.proofs.Anew.{none_sent_new}
use Rattle.nob_model_invariant.proofs.Coming.{IsReached, waiting_present, all_reached}

-- ---- gifts

-- whether a gift is something to p
abbrev pub gives : (Item → Bool) → (p : ℕ) → Gift → Bool
gives test p gift = gift.to == p && test gift.item

pub no_second : (a : Bool) → one_if (a && false) ≡ 0
no_second true = refl
no_second false = refl

-- what goes to p among gifts, whoever is a peer
pub count_given : (test : Item → Bool) (p : ℕ) (peers : Gift → Bool) (more : List Gift) → count_of test (items_to p (filter peers more)) ≤ count_of (gives test p) more
count_given test p peers [] = omega arith
count_given test p peers (gift ∷ more) =
    let rest = count_given test p peers more in
    let all = count_first (gives test p) gift more in
    elim (peers gift) as (λ b. count_of test (items_to p (cond b (gift ∷ filter peers more) (filter peers more))) ≤ count_of (gives test p) (gift ∷ more)) [
      | true ↦ elim (gift.to == p) as (λ b. count_of (gives test p) (gift ∷ more) ≡ one_if (b && test gift.item) + count_of (gives test p) more → count_of test (map (λ (one : Gift). one.item) (cond b (gift ∷ filter (λ (one : Gift). one.to == p) (filter peers more)) (filter (λ (one : Gift). one.to == p) (filter peers more)))) ≤ count_of (gives test p) (gift ∷ more)) [
        | true ↦ λ size. (let first = count_first test gift.item (items_to p (filter peers more)) in omega (arith, rest, size, first))
        | false ↦ λ size. omega (arith, rest, size)
      ] all
      | false ↦ omega (arith, rest, all)
    ]

and_no : (a b : Bool) → b ≡ false → (a && b) ≡ false
and_no true b none = none
and_no false b none = refl

-- a deed that gives notes only gives nothing else
pub notes_give : (test : Item → Bool) → ((item : Item) → is_note item ≡ true → test item ≡ false) → (p s n : ℕ) (deed : Deed) (D : List Deed) (W : Outstanding) → may_speak deed ≡ false → count_of (gives test p) (gifts_of s n deed D W) ≡ 0
notes_give test notes p s n deed D W silent =
    count_none (gives test p) (gifts_of s n deed D W)
    (all_weaker (λ (gift : Gift). is_note gift.item ≡ true) (λ (gift : Gift). gives test p gift ≡ false) (λ gift note. and_no (gift.to == p) (test gift.item) (notes gift.item note)) (gifts_of s n deed D W) (gives_notes s n deed D W silent))

note_replies : (k : ℕ) (item : Item) → is_note item ≡ true → replies_to k item ≡ false
note_replies k (items.Call call target method value) is = cc
note_replies k (items.Reply call status value) is = cc
note_replies k (items.Settle item) is = refl
note_replies k (items.Dirty index) is = refl
note_replies k (items.DirtyOk index) is = refl
note_replies k (items.DirtyNo index) is = refl
note_replies k (items.Clean index) is = refl

fewer_three : (a b c : Bool) → one_if (a && b && c) ≤ one_if (a && c)
fewer_three true true c = omega arith
fewer_three true false c = omega arith
fewer_three false b c = omega arith

module _ (p session k : ℕ) where
  -- how many Replies to p for Call k there are among gifts
  abbrev pub replied : List Gift → ℕ
  replied more = count_of (gives (replies_to k) p) more

  settle_replies : (q j : ℕ) (more : List Gift) → replied (record { to = q; item = items.Settle j } ∷ more) ≡ replied more
  settle_replies q j more = let first = count_first (gives (replies_to k) p) (record { to = q; item = items.Settle j }) more in let none = no_second (q == p) in omega (arith, first, none)

  one_reply : (q call status : ℕ) (value : Value) → replied (record { to = q; item = items.Reply call status value } ∷ []) ≡ one_if (q == p && call == k)
  one_reply q call status value = let first = count_first (gives (replies_to k) p) (record { to = q; item = items.Reply call status value }) [] in omega (arith, first)

  finish_replies : (q : ℕ) (item : Item) (outcome : Outcome) → replied (reply_to q item outcome) ≤ one_if (q == p && makes_call k item)
  unfolding reply_to
  finish_replies q (items.Call call target method value) outcome = let one = one_reply q call (status_of outcome) (value_of outcome) in omega (arith, one)
  finish_replies q (items.Reply call status value) outcome = omega arith
  finish_replies q (items.Settle item) outcome = omega arith
  finish_replies q (items.Dirty index) outcome = omega arith
  finish_replies q (items.DirtyOk index) outcome = omega arith
  finish_replies q (items.DirtyNo index) outcome = omega arith
  finish_replies q (items.Clean index) outcome = omega arith

  -- ---- what is outstanding

  parts_of : (m : Message) (q : ℕ) (item : Item) → m.from ≡ q → m.item ≡ item → one_if (brings_call p session k m) ≡ one_if (q == p && m.session == session && makes_call k item)
  parts_of m q item from is = ap (λ (r : ℕ). one_if (r == p && m.session == session && makes_call k m.item)) from ∙ ap (λ (i : Item). one_if (q == p && m.session == session && makes_call k i)) is

  of_message : (m : Message) (q : ℕ) (item : Item) → m.from ≡ q → m.item ≡ item → one_if (brings_call p session k m) ≤ one_if (q == p && makes_call k item)
  of_message m q item from is = let whole = parts_of m q item from is in let fewer = fewer_three (q == p) (m.session == session) (makes_call k item) in omega (arith, whole, fewer)

  -- a message of the session
  of_session : (m : Message) (q : ℕ) (item : Item) → m.from ≡ q → m.item ≡ item → (q ≡ p → m.session ≡ session) → one_if (brings_call p session k m) ≡ one_if (q == p && makes_call k item)
  of_session m q item from is present = parts_of m q item from is ∙ by (q == p) refl
    where
      by : (b : Bool) → (q == p) ≡ b → one_if (b && m.session == session && makes_call k item) ≡ one_if (b && makes_call k item)
      by true same = ap (λ (c : Bool). one_if (c && makes_call k item)) (eq-eqb m.session session (present (eqb-true q p same)))
      by false other = refl

  message_fair : (q : ℕ) (m : Message) (item : Item) (W : Outstanding) → m.from ≡ q → m.item ≡ item → calls_outstanding p session k (after_message m item W) ≤ calls_outstanding p session k W + one_if (q == p && makes_call k item)
  unfolding after_message
  message_fair q m (items.Call call target method value) W from is =
      let one = of_message m q (items.Call call target method value) from is in
      let ready = count_push (brings_call p session k) W.ready m in
      let waiting = count_push (brings_call p session k) W.waiting m in
      elim (is_none_of m.copies) as (λ b. calls_outstanding p session k (if b then make_ready m W else wait m W) ≤ calls_outstanding p session k W + one_if (q == p && call == k)) [ true ↦ omega (arith, one, ready) | false ↦ omega (arith, one, waiting) ]
  message_fair q m (items.Reply call status value) W from is =
      let one = of_message m q (items.Reply call status value) from is in
      let waiting = count_push (brings_call p session k) W.waiting m in
      elim (is_none_of m.copies) as (λ b. calls_outstanding p session k (with_calls (call_after_reply m.from call) (if b then make_reply m W else wait m W)) ≤ calls_outstanding p session k W + one_if (q == p && false)) [ true ↦ omega arith | false ↦ omega (arith, one, waiting) ]
  message_fair q m (items.Settle item) W from is = omega arith
  message_fair q m (items.Dirty index) W from is = omega arith
  message_fair q m (items.DirtyOk index) W from is = omega arith
  message_fair q m (items.DirtyNo index) W from is = omega arith
  message_fair q m (items.Clean index) W from is = omega arith

  -- how often Call k from p is acted on, if this item from q is
  abbrev pub taken : ℕ → Option Item → ℕ
  taken q found = cond (q == p) (count_of (makes_call k) (cons_option found [])) 0

  one_taken : (q : ℕ) (item : Item) → taken q (Some item) ≡ one_if (q == p && makes_call k item)
  one_taken q item = let first = count_first (makes_call k) item [] in elim (q == p) as (λ b. cond b (count_of (makes_call k) (item ∷ [])) 0 ≡ one_if (b && makes_call k item)) [ true ↦ omega (arith, first) | false ↦ refl ]

  act_fair : (s n q j : ℕ) (D : List Deed) (found : Option Item) (W : Outstanding) → calls_outstanding p session k (after_act s n q j D found W) ≤ calls_outstanding p session k W + taken q found
  unfolding after_act
  act_fair s n q j D None W = omega arith
  act_fair s n q j D (Some item) W = let fair = message_fair q (new_message s n q j item (did.Act q j ∷ D)) item W refl refl in let one = one_taken q item in omega (arith, fair, one)

  settlement_fair : (q j : ℕ) (m : Message) (item : Item) (lost : Bool) (W : Outstanding) → m.from ≡ q → m.item ≡ item → (q ≡ p → m.session ≡ session) → find (is_of q j) W.waiting ≡ Some m → calls_outstanding p session k (after_settlement m item lost (without_waiting q j W)) + replied (lost_call_reply q item lost) ≤ calls_outstanding p session k W
  unfolding after_settlement lost_call_reply
  settlement_fair q j m (items.Call call target method value) true W from is present found =
      let less = count_without (brings_call p session k) (is_of q j) W.waiting m found in
      let one = of_session m q (items.Call call target method value) from is present in
      let reply = one_reply q call 3 values.Unit in
      omega (arith, less, one, reply)
  settlement_fair q j m (items.Call call target method value) false W from is present found =
      let less = count_without (brings_call p session k) (is_of q j) W.waiting m found in
      let ready = count_push (brings_call p session k) W.ready m in
      omega (arith, less, ready)
  settlement_fair q j m (items.Reply call status value) true W from is present found = let less = count_without (brings_call p session k) (is_of q j) W.waiting m found in omega (arith, less)
  settlement_fair q j m (items.Reply call status value) false W from is present found = let less = count_without (brings_call p session k) (is_of q j) W.waiting m found in omega (arith, less)
  settlement_fair q j m (_) lost W from is present found = let less = count_without (brings_call p session k) (is_of q j) W.waiting m found in omega (arith, less)

  settle_fair : (s n q j : ℕ) (D : List Deed) (found : Option Message) (W : Outstanding) → ((m : Message) → found ≡ Some m → q ≡ p → m.session ≡ session) → find (is_of q j) W.waiting ≡ found → calls_outstanding p session k (after_settle s n q j D found W) + replied (gifts_of_settle s n q j D found) ≤ calls_outstanding p session k W
  unfolding after_settle gifts_of_settle
  settle_fair s n q j D None W present is = omega arith
  settle_fair s n q j D (Some m) W present is =
      let from : m.from ≡ q = eqb-true m.from q (and_parts (m.from == q) (m.number == j) (found_passes (is_of q j) W.waiting m is)).0 in
      let fair = settlement_fair q j m m.item (is_lost_message s n D m) W from refl (present m refl) is in
      let gift = settle_replies q j (lost_call_reply q m.item (is_lost_message s n D m)) in
      omega (arith, fair, gift)

  claim_fair : (job : Job) (found : Option Message) (W : Outstanding) → find (is_job job) W.ready ≡ found → calls_outstanding p session k (after_claim job found W) ≤ calls_outstanding p session k W
  unfolding after_claim
  claim_fair job None W is = omega arith
  claim_fair job (Some m) W is =
      let less = count_without (brings_call p session k) (is_job job) W.ready m is in
      let runs = count_first (runs_call p session k) (record { job = job.job; message = m }) W.running in
      omega (arith, less, runs)

  finish_fair : (j : ℕ) (outcome : Outcome) (found : Option Run) (W : Outstanding) → ((run : Run) → found ≡ Some run → run.message.from ≡ p → run.message.session ≡ session) → find (is_run j) W.running ≡ found → calls_outstanding p session k (after_finish j W) + replied (gifts_of_finish outcome found) ≤ calls_outstanding p session k W
  unfolding after_finish gifts_of_finish
  finish_fair j outcome None W present is = let less = count_filter (runs_call p session k) (λ (run : Run). not (is_run j run)) W.running in omega (arith, less)
  finish_fair j outcome (Some run) W present is =
      let less = count_dropped (runs_call p session k) (is_run j) W.running run is in
      let one = of_session run.message run.message.from run.message.item refl refl (present run refl) in
      let reply = finish_replies run.message.from run.message.item outcome in
      omega (arith, less, one, reply)

  -- ---- deeds

  -- how often a deed acts on Call k from p
  abbrev pub takes_call : Deed → List Deed → ℕ
  takes_call (did.Act q j) D = taken q (item_at p j D)
  takes_call (_) D = 0

  own_item : (q j : ℕ) (D : List Deed) → taken q (item_at q j D) ≡ taken q (item_at p j D)
  own_item q j D = by (q == p) refl
    where
      by : (b : Bool) → (q == p) ≡ b → cond b (count_of (makes_call k) (cons_option (item_at q j D) [])) 0 ≡ cond b (count_of (makes_call k) (cons_option (item_at p j D) [])) 0
      by true same = ap (λ (r : ℕ). count_of (makes_call k) (cons_option (item_at r j D) [])) (eqb-true q p same)
      by false other = refl

  silent : (s n : ℕ) (deed : Deed) (D : List Deed) (W : Outstanding) → may_speak deed ≡ false → replied (gifts_of s n deed D W) ≡ 0
  silent s n deed D W none = notes_give (replies_to k) (note_replies k) p s n deed D W none

  -- the message that a deed answers came in the session
  abbrev pub AnswersPresent : Deed → Outstanding → Type 0
  AnswersPresent (did.Finish job outcome) W = (run : Run) → find (is_run job) W.running ≡ Some run → run.message.from ≡ p → run.message.session ≡ session
  AnswersPresent (did.Settle q j) W = (m : Message) → find (is_of q j) W.waiting ≡ Some m → q ≡ p → m.session ≡ session
  AnswersPresent (_) W = ⊤

  -- by a deed what is outstanding and what is replied grow no more than what is acted on
  pub deed_fair : (s n : ℕ) (deed : Deed) (D : List Deed) (W : Outstanding) → AnswersPresent deed W → calls_outstanding p session k (work_after s n deed D W) + replied (gifts_of s n deed D W) ≤ calls_outstanding p session k W + takes_call deed D
  unfolding work_after after_call after_take after_end after_finish after_close gifts_of
  deed_fair s n (did.Call target method value call) D W present =
      let first = count_first (gives (replies_to k) p) (record { to = target.owner; item = items.Call call target.index method value }) [] in
      let none = no_second (target.owner == p) in
      omega (arith, first, none)
  deed_fair s n (did.Finish job outcome) D W present = let fair = finish_fair job outcome (find (is_run job) W.running) W present refl in omega (arith, fair)
  deed_fair s n (did.Settle q j) D W present = let fair = settle_fair s n q j D (find (is_of q j) W.waiting) W present refl in omega (arith, fair)
  deed_fair s n (did.Act q j) D W present =
      let fair = act_fair s n q j D (item_at q j D) W in
      let own = own_item q j D in
      let none = silent s n (did.Act q j) D W refl in
      omega (arith, fair, own, none)
  deed_fair s n (did.Claim job) D W present = let fair = claim_fair job (find (is_job job) W.ready) W refl in omega (arith, fair)
  deed_fair s n (did.DropReply job) D W present = let less = count_filter (runs_call p session k) (λ (run : Run). not (is_run job run)) W.running in omega (arith, less)
  deed_fair s n (did.TakeReply call status value) D W present = let less = count_filter (brings_call p session k) (is_not_reply call) W.waiting in omega (arith, less)
  deed_fair s n (did.Closing q reason cause) D W present =
      let waiting = count_filter (brings_call p session k) (is_not_from q) W.waiting in
      let ready = count_filter (brings_call p session k) (is_not_from q) W.ready in
      omega (arith, waiting, ready)
  deed_fair s n (did.Clean rep) D W present = let none = silent s n (did.Clean rep) D W refl in omega (arith, none)
  deed_fair s n deed D W present = omega arith

  -- loans change no count
  pub loans_fair : (s n : ℕ) (D : List Deed) (W : Outstanding) → calls_outstanding p session k (with_loans s n D W) ≡ calls_outstanding p session k W
  unfolding with_loans message_after run_after
  loans_fair s n D W =
      let waiting = count_mapped (brings_call p session k) (λ m. message_after s n D m) (λ m. refl) W.waiting in
      let ready = count_mapped (brings_call p session k) (λ m. message_after s n D m) (λ m. refl) W.ready in
      let running = count_mapped (runs_call p session k) (λ run. run_after s n D run) (λ run. refl) W.running in
      omega (arith, waiting, ready, running)

  -- what was acted on, by one deed more
  pub taken_more : (deed : Deed) (D : List Deed) → opens p deed ≡ false → count_of (makes_call k) (items_among (acted p (deed ∷ D))) ≡ count_of (makes_call k) (items_among (acted p D)) + takes_call deed D
  taken_more (did.Act q j) D kept = elim (q == p) as (λ b. count_of (makes_call k) (items_among (cond b (acted p D ++ (j, item_at p j D) ∷ []) (acted p D))) ≡ count_of (makes_call k) (items_among (acted p D)) + cond b (count_of (makes_call k) (cons_option (item_at p j D) [])) 0) [
    | true ↦ ap (count_of (makes_call k)) (filter_map-append (λ (pair : ℕ × Option Item). pair.1) (acted p D) ((j, item_at p j D) ∷ [])) ∙ count_append (makes_call k) (items_among (acted p D)) (cons_option (item_at p j D) [])
    | false ↦ omega arith
  ]
  taken_more (did.Open q j) D kept = let same : count_of (makes_call k) (items_among (cond (q == p) [] (acted p D))) ≡ count_of (makes_call k) (items_among (acted p D)) = ap (λ (b : Bool). count_of (makes_call k) (items_among (cond b [] (acted p D)))) kept in omega (arith, same)
  taken_more deed D kept = omega arith

-- ---- on a list of right deeds

-- a right deed answers a message of the present session
answers_present : (p k s n : ℕ) (limits : Limits) (deed : Deed) (D : List Deed) → AreRightDeeds s n limits (deed ∷ D) → AnswersPresent p (number p D) k deed (work s n D)
unfolding right_after
answers_present p k s n limits (did.Finish job outcome) D right = λ run found from.
    let told = finish_tells s job outcome (history_of s n D) (was_answered s n limits (did.Finish job outcome) D right.0) in
    let same : told.0 ≡ run = some_same told.0 run (sym told.1 ∙ found) in
    sym (ap (λ (one : Run). one.message.session) same) ∙ told.5 ∙ ap (λ (one : Run). number one.message.from D) same ∙ ap (λ (q : ℕ). number q D) from
answers_present p k s n limits (did.Settle q j) D right = λ m found same.
    let W : Outstanding = work s n D in
    let from : m.from ≡ q = eqb-true m.from q (and_parts (m.from == q) (m.number == j) (found_passes (is_of q j) W.waiting m found)).0 in
    all_found (λ (one : Message). one.session ≡ number one.from D) (is_of q j) W.waiting m found (waiting_present s n limits D right.1) ∙ ap (λ (r : ℕ). number r D) (from ∙ same)
answers_present p k s n limits deed D right = tt

-- the messages of Call k from p outstanding that came in the present session and the Replies to it in that are no more than the times that it was acted on there
abbrev pub AreFair : (p k s n : ℕ) → List Deed → Type 0
AreFair p k s n D = calls_outstanding p (number p D) k (work s n D) + count_of (replies_to k) (items_sent_in p (number p D) (sent (history_of s n D))) ≤ count_of (makes_call k) (items_among (acted p D))

-- by a deed that doesn't open the session anew
fair_more : (p k s n : ℕ) (limits : Limits) (deed : Deed) (D : List Deed) → opens p deed ≡ false → AreRightDeeds s n limits (deed ∷ D) → AreFair p k s n D → AreFair p k s n (deed ∷ D)
unfolding gifts
fair_more p k s n limits deed D kept right before =
    let W : Outstanding = work s n D in
    let loans = loans_fair p (number p D) k s n (deed ∷ D) (work_after s n deed D W) in
    let fair = deed_fair p (number p D) k s n deed D W (answers_present p k s n limits deed D right) in
    let acted_on = taken_more p (number p D) k deed D kept in
    let given = count_given (replies_to k) p (λ (gift : Gift). is_peer s n gift.to) (gifts_of s n deed D W) in
    let whole = ap (count_of (replies_to k)) (sent_now_more s n p deed D) ∙ count_append (replies_to k) (items_sent_in p (number p D) (sent (history_of s n D))) (items_to p (gifts s n deed D W)) in
    subst (λ (m : ℕ). calls_outstanding p m k (work s n (deed ∷ D)) + count_of (replies_to k) (items_sent_in p m (sent (history_of s n (deed ∷ D)))) ≤ count_of (makes_call k) (items_among (acted p (deed ∷ D)))) (sym (number_kept p deed D kept))
    (omega (arith, before, loans, fair, acted_on, given, whole))

neither : (a b c : Bool) → (a ≡ true → b ≡ false) → (a && b && c) ≡ false
neither true true c other = absurd (both_ways true (other refl) refl)
neither true false c other = refl
neither false b c other = refl

module _ (p session k : ℕ) (D : List Deed) (above : number p D < session) where
  -- what came in a session before isn't of one above
  not_brought : (m : Message) → IsReached D m → brings_call p session k m ≡ false
  not_brought m low = neither (m.from == p) (m.session == session) (makes_call k m.item) (λ own. ne_eqb m.session session (λ same. let most = subst (λ (r : ℕ). m.session ≤ number r D) (eqb-true m.from p own) low in omega (arith, above, same, most)))

  none_outstanding : (W : Outstanding) → AllOutstanding (IsReached D) W → calls_outstanding p session k W ≡ 0
  none_outstanding W all =
      let waiting = count_none (brings_call p session k) W.waiting (all_weaker (IsReached D) (λ m. brings_call p session k m ≡ false) not_brought W.waiting all.waiting) in
      let ready = count_none (brings_call p session k) W.ready (all_weaker (IsReached D) (λ m. brings_call p session k m ≡ false) not_brought W.ready all.ready) in
      let running = count_none (runs_call p session k) W.running (all_weaker (λ (run : Run). IsReached D run.message) (λ run. runs_call p session k run ≡ false) (λ run. not_brought run.message) W.running all.running) in
      omega (arith, waiting, ready, running)

-- in a session that is opened anew nothing is outstanding, and nothing was sent
open_fair : (p k s n : ℕ) (limits : Limits) (q j : ℕ) (D : List Deed) → AreRightDeeds s n limits (did.Open q j ∷ D) → AreFair p k s n D → (b : Bool) → (q == p) ≡ b → AreFair p k s n (did.Open q j ∷ D)
unfolding work_after
open_fair p k s n limits q j D right before true own =
    let E : List Deed = did.Open q j ∷ D in
    let above : number p D < number p E = opens_above s n p limits (did.Open q j) D right.0 own in
    let loans = loans_fair p (number p E) k s n E (work s n D) in
    let few = none_outstanding p (number p E) k D above (work s n D) (all_reached s n limits D right.1) in
    let none = ap (count_of (replies_to k)) (none_sent_new s n p limits (did.Open q j) D right above) in
    omega (arith, loans, few, none)
open_fair p k s n limits q j D right before false other = fair_more p k s n limits (did.Open q j) D other right before

-- in every list of right deeds they are
pub calls_fair : (p k s n : ℕ) (limits : Limits) (D : List Deed) → AreRightDeeds s n limits D → AreFair p k s n D
calls_fair p k s n limits [] right = omega arith
calls_fair p k s n limits (did.Open q j ∷ D) right = open_fair p k s n limits q j D right (calls_fair p k s n limits D right.1) (q == p) refl
calls_fair p k s n limits (deed ∷ D) right = fair_more p k s n limits deed D refl right (calls_fair p k s n limits D right.1)
