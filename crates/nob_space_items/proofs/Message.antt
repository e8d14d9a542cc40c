-- What acting on a Call or a Reply does to the words, one word after the other.
use Rattle.std.proofs.Common.{◌≡◌, ℕ, Bool, true, false, not, ◌&&◌, ◌||◌, ◌==◌, cond, List, [], ◌∷◌, ◌++◌, map, filter, Option, Some, None, Ok, if◌then◌else◌, refl, sym, ap, ◌∙◌}
use Rattle.std.specs.List.{AllByRecursion, list_any}
use Rattle.std.proofs.lemmas.Bool.{and_parts, or_parts, not-true}
use Rattle.std.proofs.lemmas.List.{append-nil, map-append}
use Rattle.std.proofs.lemmas.Map.Views.{any-filter_same}
use Rattle.nob_ids.specs.Names.{is_same, is_counted}
use Rattle.nob_ids.specs.declared.limits.Limits.{Limits}
use Rattle.nob_ids.specs.declared.wire_rep.WireRep.{WireRep}
use Rattle.nob_item.specs.Kinds.{counted_in, refs_carried}
use Rattle.nob_item.specs.declared.item.Item.{Item}
use Rattle.nob_item.specs.declared.item.Item.TheVariants as items
use Rattle.nob_table_rows.specs.declared.standing.State.TheVariants as states
use Rattle.nob_table_rows.specs.Counts.{is_held}
use Rattle.nob_table_rows.specs.Standings as standings
use Rattle.nob_table.specs.Table.{standing}
use Rattle.nob_table_rows.proofs.Same.{same_is}
use Rattle.nob_model_types.specs.declared.answer.Answer.TheVariants as answers
use Rattle.nob_model_types.specs.declared.event.Event.TheVariants as events
use Rattle.nob_model_types.specs.declared.deed.Deed.{Deed}
use Rattle.nob_model_types.specs.declared.deed.Deed.TheVariants.{Act}
use Rattle.nob_model_types.specs.declared.message.Loan.{Loan}
use Rattle.nob_model_types.specs.declared.message.Loan.TheVariants as loans
use Rattle.nob_model_types.specs.declared.message.RefCopy.{RefCopy}
use Rattle.nob_model_types.specs.declared.message.Message.{Message}
use Rattle.nob_model_types.specs.declared.turns.Turns.{Turns}
use Rattle.nob_model_types.specs.Deeds.{deed_by}
use Rattle.nob_model_types.specs.Messages.{new_message, new_copy, loan_after, copy_after, message_after}
use Rattle.nob_model_types.specs.Sessions.{is_peer, closed, item_at}
use Rattle.nob_model_types.specs.Turns.{turns, turns_after, with_dirty, is_own, is_granted, is_lost, is_refused, is_standing, is_usable, wants_dirty, carries}
use Rattle.nob_model_work.specs.declared.gifts.Gift.{Gift}
use Rattle.nob_model_work.specs.declared.work.Outstanding.{Outstanding}
use Rattle.nob_model_work.specs.declared.work.Run.{Run}
use Rattle.nob_model_work.specs.Gifts.{once, dirty_for, dirties_for, gifts, gifts_of, gifts_of_act}
use Rattle.nob_model_work.specs.Work.{work, work_after, after_act, after_message, with_loans, run_after, is_none_of, make_ready, make_reply, wait, with_calls, call_after_reply}
use Rattle.nob_model_history.specs.declared.history.History.{History}
use Rattle.nob_model_history.specs.declared.transit.SentItem.{SentItem}
use Rattle.nob_model_history.specs.Histories.{history_of}
use Rattle.nob_model_history.specs.Ends.{calls_at, items_to, own_calls, with_sends}
use Rattle.nob_model_history.specs.Listing.{is_listed, is_entered, is_entered_after}
use Rattle.nob_model_history.specs.Transit.{bundles, dirties, next_sent, is_pinned, is_settle_of, sent}
use Rattle.nob_model_history.proofs.Dirtying.{message_asks, dirties_more}
use Rattle.nob_model_history.proofs.Numbered.{calls_more}
use Rattle.nob_model_history.proofs.Pinning.{bundles_kept, no_settle}
use Rattle.nob_model_history.proofs.Sending.{new_items}
use Rattle.nob_model_history.proofs.Turning as turning
use Rattle.nob_model_history.proofs.Turning.{after_dirty, shapes, wanted_none}
use Rattle.nob_model_acting.specs.Acting.{act_on, act_refusal, answer_of_act, fault_of}
use Rattle.nob_model_acting.specs.Acting as acting
use Rattle.nob_model.specs.Lists.{IsRightDeed}
use Rattle.nob_model.specs.Right.{right_act, act_of, right_after}
use Rattle.nob_model.proofs.Made.{loans_made}
use Rattle.nob_model.proofs.Premises.{front_item, in_turn, took_turns}
use Rattle.nob_space_messages.specs.Waiting.{is_due_in}
use Rattle.nob_space_state.specs.Parts.{State}
use Rattle.nob_space_state.specs.Looks.{has_closed, number_with}
use Rattle.nob_space_state.specs.Shows.{far_state}
use Rattle.nob_space_state.specs.Stands.{Stands}
use Rattle.nob_space_state.proofs.Told.{closed_there, number_there}
use Rattle.nob_space_items.specs.Fronts.{IsFront}
use Rattle.nob_space_items.specs.Settling.{is_denied}
use Rattle.nob_space_items.proofs.Resolving.{denied_far}
use Rattle.nob_space_items.proofs.Spares.{granted_far}
use Rattle.nob_space_items.specs.Messages.{is_wanted, wanted_refs, new_loan, new_copies}
use Rattle.nob_space_items.specs.Placing.{IsMessage}
use Rattle.nob_space_items.proofs.Among.{any_of, filter_passes}
use Rattle.nob_space_items.proofs.Lost.{due_open}
use Rattle.nob_space_items.proofs.Refused.{wanted_there, dirties_there}
use Rattle.nob_space_items.proofs.Wanted.{any_once}

-- ---- the answer

-- acting on an item in front is answered by what keeps it
pub front_answer : (s n p k : ℕ) (item : Item) (D : List Deed) → IsFront s n p k item D → right_act s n p (history_of s n D) ≡ answer_of_act k None (act_refusal s n p item (history_of s n D))
unfolding right_act act_of act_on
front_answer s n p k item D front = rw (front.peer, front.is_open, front.front, front.spelt, front.sound) refl

message_refusal_is : (s n p : ℕ) (item : Item) (h : History) → IsMessage item → act_refusal s n p item h ≡ acting.message_refusal s n item h
unfolding act_refusal
message_refusal_is s n p (items.Call call target method value) h message = refl
message_refusal_is s n p (items.Reply call status value) h message = refl
message_refusal_is s n p (items.Settle item) h message = absurd (cc)
message_refusal_is s n p (items.Dirty index) h message = absurd (cc)
message_refusal_is s n p (items.DirtyOk index) h message = absurd (cc)
message_refusal_is s n p (items.DirtyNo index) h message = absurd (cc)
message_refusal_is s n p (items.Clean index) h message = absurd (cc)

-- a Call or a Reply in front is acted on unless it is kept
pub message_answer : (s n p k : ℕ) (item : Item) (D : List Deed) → IsFront s n p k item D → IsMessage item → right_act s n p (history_of s n D) ≡ answer_of_act k None (acting.message_refusal s n item (history_of s n D))
message_answer s n p k item D front message = front_answer s n p k item D front ∙ ap (answer_of_act k None) (message_refusal_is s n p item (history_of s n D) message)

-- an Act that is answered is a right deed
pub act_is : (s n : ℕ) (limits : Limits) (D : List Deed) (p k : ℕ) → right_act s n p (history_of s n D) ≡ Ok (answers.Acted k) → IsRightDeed s n limits (Act p k) D
unfolding right_after
act_is s n limits D p k is = (events.Act p, ap (deed_by (events.Act p)) is)

-- ---- what a Call and a Reply have in common

gives_dirties : (s n p : ℕ) (item : Item) (D : List Deed) → IsMessage item → gifts_of_act s n p D (Some item) ≡ dirties_for s n D (counted_in item)
unfolding gifts_of_act
gives_dirties s n p (items.Call call target method value) D message = refl
gives_dirties s n p (items.Reply call status value) D message = refl
gives_dirties s n p (items.Settle item) D message = absurd (cc)
gives_dirties s n p (items.Dirty index) D message = absurd (cc)
gives_dirties s n p (items.DirtyOk index) D message = absurd (cc)
gives_dirties s n p (items.DirtyNo index) D message = absurd (cc)
gives_dirties s n p (items.Clean index) D message = absurd (cc)

turns_dirty : (s n p : ℕ) (item : Item) (D : List Deed) (rep : WireRep) (t : Turns) → IsMessage item → turns_after s n p rep (Some item) D t ≡ cond (carries rep item && wants_dirty s n rep D t) (with_dirty t) t
turns_dirty s n p (items.Call call target method value) D rep t message = refl
turns_dirty s n p (items.Reply call status value) D rep t message = refl
turns_dirty s n p (items.Settle item) D rep t message = absurd (cc)
turns_dirty s n p (items.Dirty index) D rep t message = absurd (cc)
turns_dirty s n p (items.DirtyOk index) D rep t message = absurd (cc)
turns_dirty s n p (items.DirtyNo index) D rep t message = absurd (cc)
turns_dirty s n p (items.Clean index) D rep t message = absurd (cc)

settles_none : (j : ℕ) (item : Item) → IsMessage item → is_settle_of j (Some item) ≡ false
settles_none j (items.Call call target method value) message = refl
settles_none j (items.Reply call status value) message = refl
settles_none j (items.Settle item) message = absurd (cc)
settles_none j (items.Dirty index) message = absurd (cc)
settles_none j (items.DirtyOk index) message = absurd (cc)
settles_none j (items.DirtyNo index) message = absurd (cc)
settles_none j (items.Clean index) message = absurd (cc)

enters_none : (s index : ℕ) (item : Item) (D : List Deed) (before : Bool) → IsMessage item → is_entered_after s index (Some item) D before ≡ before
enters_none s index (items.Call call target method value) D before message = refl
enters_none s index (items.Reply call status value) D before message = refl
enters_none s index (items.Settle item) D before message = absurd (cc)
enters_none s index (items.Dirty x) D before message = absurd (cc)
enters_none s index (items.DirtyOk x) D before message = absurd (cc)
enters_none s index (items.DirtyNo x) D before message = absurd (cc)
enters_none s index (items.Clean x) D before message = absurd (cc)

-- gifts to peers are given
to_peers : (s n : ℕ) (reps : List WireRep) → AllByRecursion (λ (rep : WireRep). is_peer s n rep.owner ≡ true) reps → filter (λ (gift : Gift). is_peer s n gift.to) (map dirty_for reps) ≡ map dirty_for reps
unfolding dirty_for
to_peers s n [] all = refl
to_peers s n (rep ∷ reps) all = ap (λ (b : Bool). cond b (dirty_for rep ∷ filter (λ (gift : Gift). is_peer s n gift.to) (map dirty_for reps)) (filter (λ (gift : Gift). is_peer s n gift.to) (map dirty_for reps))) all.0 ∙ ap (λ (gifts : List Gift). dirty_for rep ∷ gifts) (to_peers s n reps all.1)

-- Dirties have no pins
no_pins : (D : List Deed) (reps : List WireRep) (before : List SentItem) → filter (is_pinned D) (new_items D before (map dirty_for reps)) ≡ []
unfolding dirty_for
no_pins D [] before = refl
no_pins D (rep ∷ reps) before = no_pins D reps (before ++ next_sent D before (dirty_for rep) ∷ [])

none_mapped : {A B : Type 0} (f : A → B) (xs : List A) → is_none_of (map f xs) ≡ is_none_of xs
none_mapped f [] = refl
none_mapped f (x ∷ xs) = refl

-- the loans of a message that is put where it goes are made with those of all others
loans_put : (s n : ℕ) (E : List Deed) (m : Message) (it : Item) (W : Outstanding) → with_loans s n E (after_message m it W) ≡ after_message (message_after s n E m) it (with_loans s n E W)
unfolding with_loans after_message message_after
loans_put s n E m (items.Call call target method value) W =
    ap (λ b. with_loans s n E (if b then make_ready m W else wait m W)) (sym (none_mapped (λ copy. copy_after s n E copy) m.copies))
    ∙ elim (is_none_of (map (λ copy. copy_after s n E copy) m.copies)) as (λ b. with_loans s n E (if b then make_ready m W else wait m W) ≡ (if b then make_ready (message_after s n E m) (with_loans s n E W) else wait (message_after s n E m) (with_loans s n E W))) [
      | true ↦ ap (λ ready. record { waiting = map (λ one. message_after s n E one) W.waiting; ready = ready; running = map (λ run. run_after s n E run) W.running; replies = map (λ one. message_after s n E one) W.replies; calls = W.calls }) (map-append (λ one. message_after s n E one) W.ready (m ∷ []))
      | false ↦ ap (λ waiting. record { waiting = waiting; ready = map (λ one. message_after s n E one) W.ready; running = map (λ run. run_after s n E run) W.running; replies = map (λ one. message_after s n E one) W.replies; calls = W.calls }) (map-append (λ one. message_after s n E one) W.waiting (m ∷ []))
    ]
loans_put s n E m (items.Reply call status value) W =
    ap (λ b. with_loans s n E (with_calls (call_after_reply m.from call) (if b then make_reply m W else wait m W))) (sym (none_mapped (λ copy. copy_after s n E copy) m.copies))
    ∙ elim (is_none_of (map (λ copy. copy_after s n E copy) m.copies)) as (λ b. with_loans s n E (with_calls (call_after_reply m.from call) (if b then make_reply m W else wait m W)) ≡ with_calls (call_after_reply m.from call) (if b then make_reply (message_after s n E m) (with_loans s n E W) else wait (message_after s n E m) (with_loans s n E W))) [
      | true ↦ ap (λ replies. record { waiting = map (λ one. message_after s n E one) W.waiting; ready = map (λ one. message_after s n E one) W.ready; running = map (λ run. run_after s n E run) W.running; replies = replies; calls = map (call_after_reply m.from call) W.calls }) (map-append (λ one. message_after s n E one) W.replies (m ∷ []))
      | false ↦ ap (λ waiting. record { waiting = waiting; ready = map (λ one. message_after s n E one) W.ready; running = map (λ run. run_after s n E run) W.running; replies = map (λ one. message_after s n E one) W.replies; calls = map (call_after_reply m.from call) W.calls }) (map-append (λ one. message_after s n E one) W.waiting (m ∷ []))
    ]
loans_put s n E m (items.Settle item) W = refl
loans_put s n E m (items.Dirty index) W = refl
loans_put s n E m (items.DirtyOk index) W = refl
loans_put s n E m (items.DirtyNo index) W = refl
loans_put s n E m (items.Clean index) W = refl

-- ---- how a reference stands on an open session

pub far_by : (held : Bool) (t : Turns) (pending granted refused : Bool) → turning.Stands t pending granted refused → far_state false held t ≡ (if pending then states.Pending else if granted then states.Granted else if refused then states.Refused else states.Unknown)
far_by held t pending granted refused stands = λ i. if stands.0 i then states.Pending else if stands.1 i then states.Granted else if stands.2 i then states.Refused else states.Unknown

-- a message from p in item k, with the loans of its references as it comes
abbrev pub message_of : (s n : ℕ) → State → (p k : ℕ) → Item → Message
message_of s n st p k item = record { from = p; session = number_with st.sessions p; number = k; item = item; copies = new_copies s n st (counted_in item) }

module _ {s n : ℕ} {limits : Limits} {st : State} {D : List Deed} (stands : Stands s n limits st D) (p k : ℕ) (item : Item) (front : IsFront s n p k item D) (message : IsMessage item) where
  -- the item that is acted on
  pub acted_item : item_at p k D ≡ Some item
  acted_item = front_item s n p D (in_turn s n limits D stands.right) k front.bytes item front.front front.spelt

  reps : List WireRep
  reps = wanted_refs s n st (counted_in item)

  -- those that get Dirties are peers'
  pub all_peers : AllByRecursion (λ (rep : WireRep). is_peer s n rep.owner ≡ true) (wanted_refs s n st (counted_in item))
  all_peers = weaker (wanted_refs s n st (counted_in item)) (filter_passes (is_wanted s n st) (once (counted_in item)))
    where
      weaker : (all : List WireRep) → AllByRecursion (λ (rep : WireRep). is_wanted s n st rep ≡ true) all → AllByRecursion (λ (rep : WireRep). is_peer s n rep.owner ≡ true) all
      weaker [] all = tt
      weaker (rep ∷ rest) all = ((and_parts _ _ (and_parts _ _ all.0).0).0, weaker rest all.1)

  -- the Dirties that are given
  pub act_gives : gifts s n (Act p k) D (work s n D) ≡ map dirty_for (wanted_refs s n st (counted_in item))
  unfolding gifts gifts_of dirties_for
  act_gives =
      ap (λ (found : Option Item). filter (λ (gift : Gift). is_peer s n gift.to) (gifts_of_act s n p D found)) acted_item
      ∙ ap (filter (λ (gift : Gift). is_peer s n gift.to)) (gives_dirties s n p item D message ∙ dirties_there stands item)
      ∙ to_peers s n (wanted_refs s n st (counted_in item)) all_peers

  -- the calls on each end: the Dirties are sent, and on the end with the peer the item is taken
  pub act_calls : (q : ℕ) → calls_at q (history_of s n (Act p k ∷ D)) ≡ own_calls q (Act p k) (with_sends (items_to q (map dirty_for (wanted_refs s n st (counted_in item)))) (calls_at q (history_of s n D)))
  act_calls q = calls_more s n q (Act p k) D ∙ ap (λ (more : List Gift). own_calls q (Act p k) (with_sends (items_to q more) (calls_at q (history_of s n D)))) act_gives

  -- the turns: a reference that gets a Dirty has one more
  pub act_turns : (rep : WireRep) → turns s n rep (Act p k ∷ D) ≡ cond (list_any (is_same rep) (wanted_refs s n st (counted_in item))) (with_dirty (turns s n rep D)) (turns s n rep D)
  act_turns rep =
      ap (λ (found : Option Item). turns_after s n p rep found D (turns s n rep D)) acted_item
      ∙ turns_dirty s n p item D rep (turns s n rep D) message
      ∙ ap (λ (b : Bool). cond b (with_dirty (turns s n rep D)) (turns s n rep D)) (sym among)
    where
      wants : WireRep → Bool
      wants w = wants_dirty s n w D (turns s n w D)

      both : (a b : Bool) → (a && b) ≡ (b && a)
      both true true = refl
      both true false = refl
      both false true = refl
      both false false = refl

      among : list_any (is_same rep) (wanted_refs s n st (counted_in item)) ≡ (carries rep item && wants rep)
      among =
          ap (list_any (is_same rep)) (wanted_there stands item)
          ∙ any-filter_same (is_same rep) wants (wants rep) (λ w same. ap wants (sym (same_is rep w same))) (once (counted_in item))
          ∙ ap (λ b. wants rep && b) (any_once rep (counted_in item))
          ∙ both (wants rep) (carries rep item)

  -- a reference that gets a Dirty had no surrogate, on a session that is open here
  pub wanted_turns : (rep : WireRep) → list_any (is_same rep) (wanted_refs s n st (counted_in item)) ≡ true → (is_standing (turns s n rep D) ≡ false) × (closed rep.owner D ≡ false)
  wanted_turns rep there =
      any_of (λ w. (is_standing (turns s n w D) ≡ false) × (closed w.owner D ≡ false)) rep (filter wants (once (counted_in item))) (parts (filter wants (once (counted_in item))) (filter_passes wants (once (counted_in item)))) (sym (ap (list_any (is_same rep)) (wanted_there stands item)) ∙ there)
    where
      wants : WireRep → Bool
      wants w = wants_dirty s n w D (turns s n w D)

      parts : (all : List WireRep) → AllByRecursion (λ w. wants w ≡ true) all → AllByRecursion (λ w. (is_standing (turns s n w D) ≡ false) × (closed w.owner D ≡ false)) all
      parts [] all = tt
      parts (w ∷ rest) all = ((wanted_none s n w D (turns s n w D) all.0, not-true (closed w.owner D) (and_parts _ _ (and_parts _ _ all.0).0).1), parts rest all.1)

  -- then it is pending
  pub asked_turns : (rep : WireRep) → list_any (is_same rep) (wanted_refs s n st (counted_in item)) ≡ true → turning.Stands (with_dirty (turns s n rep D)) true false false
  asked_turns rep there = (after_dirty (turns s n rep D) (shapes s n rep D (took_turns s n limits D stands.right)) (wanted_turns rep there).0).1

  -- so it isn't granted or refused by that
  pub same_granted : (rep : WireRep) → is_granted (turns s n rep (Act p k ∷ D)) ≡ is_granted (turns s n rep D)
  same_granted rep = ap is_granted (act_turns rep) ∙ elim (list_any (is_same rep) (wanted_refs s n st (counted_in item))) as (λ b. list_any (is_same rep) (wanted_refs s n st (counted_in item)) ≡ b → is_granted (cond b (with_dirty (turns s n rep D)) (turns s n rep D)) ≡ is_granted (turns s n rep D)) [
    | true ↦ λ there. (asked_turns rep there).1 ∙ sym (or_parts _ _ (or_parts _ _ (wanted_turns rep there).0).0).1
    | false ↦ λ _. refl
  ] refl

  pub same_refused : (rep : WireRep) → is_refused (turns s n rep (Act p k ∷ D)) ≡ is_refused (turns s n rep D)
  same_refused rep = ap is_refused (act_turns rep) ∙ elim (list_any (is_same rep) (wanted_refs s n st (counted_in item))) as (λ b. list_any (is_same rep) (wanted_refs s n st (counted_in item)) ≡ b → is_refused (cond b (with_dirty (turns s n rep D)) (turns s n rep D)) ≡ is_refused (turns s n rep D)) [
    | true ↦ λ there. (asked_turns rep there).2 ∙ sym (or_parts _ _ (wanted_turns rep there).0).1
    | false ↦ λ _. refl
  ] refl

  -- the Dirties that were sent
  pub act_dirties : dirties (history_of s n (Act p k ∷ D)) ≡ dirties (history_of s n D) ++ wanted_refs s n st (counted_in item)
  act_dirties =
      dirties_more s n (Act p k) D
      ∙ ap (λ (more : List WireRep). dirties (history_of s n D) ++ more) (message_asks s n p k item D (work s n D) acted_item (gives_dirties s n p item D message) ∙ sym (wanted_there stands item))

  -- who is listed
  pub act_listed : (index client : ℕ) → is_listed s index client (Act p k ∷ D) ≡ is_listed s index client D
  act_listed index client =
      ap (λ b. not (closed client D) && b) (elim (p == client) as (λ b. (if b then is_entered_after s index (item_at p k D) D (is_entered s index client D) else is_entered s index client D) ≡ is_entered s index client D) [
        | true ↦ ap (λ (found : Option Item). is_entered_after s index found D (is_entered s index client D)) acted_item ∙ enters_none s index item D (is_entered s index client D) message
        | false ↦ refl
      ])

  -- the bundles
  pub act_bundles : bundles (history_of s n (Act p k ∷ D)) ≡ bundles (history_of s n D)
  act_bundles =
      bundles_kept s n (Act p k) D (no_settle p k D (λ j. ap (is_settle_of j) acted_item ∙ settles_none j item message)) (λ q. refl) (λ q. refl)
      ∙ ap (λ (more : List Gift). bundles (history_of s n D) ++ filter (is_pinned D) (new_items D (sent (history_of s n D)) more)) act_gives
      ∙ ap (λ (more : List SentItem). bundles (history_of s n D) ++ more) (no_pins D (wanted_refs s n st (counted_in item)) (sent (history_of s n D)))
      ∙ append-nil (bundles (history_of s n D))

  -- what is usable stays so
  pub same_usable : (rep : WireRep) → is_usable s n rep (Act p k ∷ D) ≡ is_usable s n rep D
  same_usable rep = ap (λ b. b && not (closed rep.owner D)) (same_granted rep)

  -- the loans that were made
  same_copy : (copy : RefCopy) → copy_after s n (Act p k ∷ D) copy ≡ copy_after s n D copy
  unfolding copy_after
  same_copy copy = ap (λ b. record { rep = copy.rep; loan = loan_after (is_own s copy.rep || b) copy.loan }) (same_usable copy.rep)

  same_message : (m : Message) → message_after s n (Act p k ∷ D) m ≡ message_after s n D m
  unfolding message_after
  same_message m = λ i. record { from = m.from; session = m.session; number = m.number; item = m.item; copies = map (λ copy. same_copy copy i) m.copies }

  same_run : (run : Run) → run_after s n (Act p k ∷ D) run ≡ run_after s n D run
  unfolding run_after
  same_run run = λ i. record { job = run.job; message = same_message run.message i }

  -- all that was outstanding stays as it was
  same_loans : with_loans s n (Act p k ∷ D) (work s n D) ≡ work s n D
  unfolding with_loans
  same_loans =
      let W : Outstanding = work s n D in
      (λ i. record { waiting = map (λ m. same_message m i) W.waiting; ready = map (λ m. same_message m i) W.ready; running = map (λ run. same_run run i) W.running; replies = map (λ m. same_message m i) W.replies; calls = W.calls })
      ∙ loans_made s n D

  -- the copies of the message: never lent where the reference is lost, lent where it is at hand, else due
  new_copy_at : (rep : WireRep) → is_counted rep ≡ true → copy_after s n (Act p k ∷ D) (new_copy s n (Act p k ∷ D) rep) ≡ record { rep = rep; loan = new_loan s n st rep }
  unfolding copy_after new_copy
  new_copy_at rep counted = ap (λ (loan : Loan). record { rep = rep; loan = loan }) (elim (rep.owner == s) as (λ own. rep.owner == s ≡ own → loan_after (own || is_usable s n rep (Act p k ∷ D)) (if not own && (not (is_peer s n rep.owner) || closed rep.owner D || is_refused (turns s n rep (Act p k ∷ D))) then loans.Never else loans.Due)
      ≡ (if not own && (not (is_peer s n rep.owner) || has_closed st.sessions rep.owner || is_denied (standing st.table rep).state) then loans.Never else if own || standings.is_granted (standing st.table rep).state then loans.Lent else loans.Due)) [
        | true ↦ λ _. refl
        | false ↦ λ other. rw (closed_there stands rep.owner, same_refused rep, same_usable rep) (elim (is_peer s n rep.owner) as (λ peer. loan_after (is_usable s n rep D) (if not peer || closed rep.owner D || is_refused (turns s n rep D) then loans.Never else loans.Due)
            ≡ (if not peer || closed rep.owner D || is_denied (standing st.table rep).state then loans.Never else if standings.is_granted (standing st.table rep).state then loans.Lent else loans.Due)) [
              | false ↦ refl
              | true ↦ rw (stands.table.far rep counted other) (elim (closed rep.owner D) as (λ shut. loan_after (is_granted (turns s n rep D) && not shut) (if shut || is_refused (turns s n rep D) then loans.Never else loans.Due)
                  ≡ (if shut || is_denied (far_state shut (is_held (standing st.table rep).counts) (turns s n rep D)) then loans.Never else if standings.is_granted (far_state shut (is_held (standing st.table rep).counts) (turns s n rep D)) then loans.Lent else loans.Due)) [
                    | true ↦ refl
                    | false ↦
                        let granted = granted_far false (is_held (standing st.table rep).counts) (turns s n rep D) in
                        let denied = denied_far (is_held (standing st.table rep).counts) (turns s n rep D) in
                        rw (granted, denied) (by_answer (is_granted (turns s n rep D)) (is_refused (turns s n rep D)))
                  ])
            ])
      ] refl)
    where
      by_answer : (granted refused : Bool) → loan_after (granted && true) (if refused then loans.Never else loans.Due) ≡ (if refused then loans.Never else if granted && true then loans.Lent else loans.Due)
      by_answer true true = refl
      by_answer true false = refl
      by_answer false true = refl
      by_answer false false = refl

  -- the message once it was acted on
  pub new_message_at : message_after s n (Act p k ∷ D) (new_message s n p k item (Act p k ∷ D)) ≡ message_of s n st p k item
  unfolding message_after
  new_message_at = λ i. record { from = p; session = sym (number_there stands p front.peer) i; number = k; item = item; copies = all_copies (counted_in item) (filter_passes is_counted (refs_carried item)) i }
    where
      all_copies : (all : List WireRep) → AllByRecursion (λ rep. is_counted rep ≡ true) all → map (λ copy. copy_after s n (Act p k ∷ D) copy) (map (λ rep. new_copy s n (Act p k ∷ D) rep) all) ≡ new_copies s n st all
      all_copies [] all = refl
      all_copies (rep ∷ rest) all = λ i. new_copy_at rep all.0 i ∷ all_copies rest all.1 i

  -- the outstanding work: the message is put where it goes
  pub act_work : work s n (Act p k ∷ D) ≡ after_message (message_of s n st p k item) item (work s n D)
  unfolding work_after after_act
  act_work =
      ap (λ (found : Option Item). with_loans s n (Act p k ∷ D) (after_act s n p k D found (work s n D))) acted_item
      ∙ loans_put s n (Act p k ∷ D) (new_message s n p k item (Act p k ∷ D)) item (work s n D)
      ∙ ap (λ (m : Message). after_message m item (with_loans s n (Act p k ∷ D) (work s n D))) new_message_at
      ∙ ap (after_message (message_of s n st p k item) item) same_loans

  -- what is lost is lost as before
  pub act_lost : (rep : WireRep) → is_lost s n rep (Act p k ∷ D) ≡ is_lost s n rep D
  act_lost rep = ap (λ b. not (is_own s rep) && (not (is_peer s n rep.owner) || closed rep.owner D || b)) (same_refused rep)

  -- what is due to the message isn't lost
  pub act_due : (rep : WireRep) → is_due_in (message_of s n st p k item ∷ []) rep ≡ true → is_lost s n rep (Act p k ∷ D) ≡ false
  act_due rep due = due_open s n p k item (Act p k ∷ D) rep (ap (λ (m : Message). is_due_in (m ∷ []) rep) new_message_at ∙ due)
