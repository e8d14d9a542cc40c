-- Acting on the item at the front of an inbox: what is answered, and what it leaves where the item is a note.
use Rattle.std.proofs.Common.{◌≡◌, ℕ, ◌+◌, ◌-◌, ◌<◌, true, false, not, ◌&&◌, ◌||◌, ◌==◌, List, [], ◌∷◌, length, map, get_or, Some, None, Ok, Err, if◌then◌else◌, refl, sym, ap, subst, ◌∙◌, arith}
use lib.ListN.{set}
use Rattle.std.proofs.lemmas.Option.{none-some}
use Rattle.std.proofs.lemmas.Cmp.{nat_eq_equiv}
use Rattle.nob_ids.specs.declared.limits.Limits.{Limits}
use Rattle.nob_ids.specs.declared.wire_rep.WireRep.{WireRep}
use Rattle.nob_item.specs.declared.item.Item.{Item}
use Rattle.nob_item.specs.declared.item.Item.TheVariants as items
use Rattle.nob_dirty.specs.declared.sets.Listing.{Listing}
use Rattle.nob_dirty.specs.Sets.{lists}
use Rattle.nob_model_session.specs.End.{waiting, takes}
use Rattle.nob_model_session.specs.Right.{first_of}
use Rattle.nob_model_session.specs.declared.entry.EndEntry.TheVariants as ends
use Rattle.nob_session.specs.Stands.{End, Roomy}
use Rattle.nob_session.specs.Onward.{StandsOnward}
use Rattle.nob_session.proofs.Alike.{onward_is}
use Rattle.nob_table_rows.specs.Counts.{is_held}
use Rattle.nob_table_rows.specs.Standings as standings
use Rattle.nob_table.specs.Table.{Table, standing, Unchanged}
use Rattle.nob_pins.specs.Bundles as pins
use Rattle.nob_model_types.specs.declared.answer.Answer.TheVariants as answers
use Rattle.nob_model_types.specs.declared.event.Event.TheVariants as events
use Rattle.nob_model_types.specs.declared.refusal.Refusal.{Refusal}
use Rattle.nob_model_types.specs.Deeds.{deed_by}
use Rattle.nob_model_types.specs.declared.deed.Deed.{Deed}
use Rattle.nob_model_types.specs.declared.deed.Deed.TheVariants.{Act}
use Rattle.nob_model_types.specs.declared.turns.Turns.{Turns}
use Rattle.nob_model_types.specs.Sessions.{is_peer, closed, item_at}
use Rattle.nob_model_types.specs.Turns.{turns, is_own, is_granted}
use Rattle.nob_model_types.specs.Messages.{loan_after, copy_after, message_after}
use Rattle.nob_model_work.specs.declared.gifts.Gift.{Gift}
use Rattle.nob_model_work.specs.declared.work.Outstanding.{Outstanding}
use Rattle.nob_model_work.specs.Work.{work, work_after, after_act, after_message, with_loans, run_after}
use Rattle.nob_model_work.specs.Gifts.{gifts}
use Rattle.nob_model_history.specs.Histories.{history_of}
use Rattle.nob_model_history.specs.Ends.{calls_at, items_to, own_calls, with_sends}
use Rattle.nob_model_history.specs.Holds.{times, lent_in}
use Rattle.nob_model_history.specs.Listing.{is_listed}
use Rattle.nob_model_history.specs.Transit as transit
use Rattle.nob_model_history.proofs.Numbered.{calls_more}
use Rattle.nob_model_history.proofs.Unasked.{is_message, dirties_same}
use Rattle.nob_model_acting.specs.Acting.{act_refusal, answer_of_act, act_on}
use Rattle.nob_model.specs.Right.{right_act, act_of, right_after}
use Rattle.nob_model.specs.Lists.{IsRightDeed, AreRightDeeds}
use Rattle.nob_model.proofs.Made.{loans_made}
use Rattle.nob_model.proofs.Premises.{front_item, in_turn}
use Rattle.nob_space_state.specs.Parts.{State}
use Rattle.nob_space_state.specs.Shows.{TableStands, far_state, AreUsed}
use Rattle.nob_space_state.specs.Stands.{Stands, EndsStand, PinsStand}
use Rattle.nob_space_state.proofs.Awaited.{same_lost}
use Rattle.nob_space_state.proofs.Ends.{end_there, ends_changed}
use Rattle.nob_space_state.specs.Looks.{HaveUsers}
use Rattle.nob_space_state.proofs.Marked.{none_kept, shows_unmarked, shows_marked}
use Rattle.nob_space_state.proofs.Kept.{used_of}
use Rattle.nob_space_items.specs.Fronts.{IsFront}

-- ---- the answer

module _ {s n p k : ℕ} {item : Item} {D : List Deed} (front : IsFront s n p k item D) where
  -- an item without a fault is acted on, unless it is refused
  pub act_answer : right_act s n p (history_of s n D) ≡ answer_of_act k None (act_refusal s n p item (history_of s n D))
  unfolding right_act act_of act_on
  act_answer = rw (front.peer, front.is_open, front.front, front.spelt, front.sound) refl

  pub act_free : act_refusal s n p item (history_of s n D) ≡ None → right_act s n p (history_of s n D) ≡ Ok (answers.Acted k)
  act_free none = act_answer ∙ ap (answer_of_act k None) none

  pub act_refused : (refusal : Refusal) → act_refusal s n p item (history_of s n D) ≡ Some refusal → right_act s n p (history_of s n D) ≡ Err refusal
  act_refused refusal some = act_answer ∙ ap (answer_of_act k None) some

  -- it is the item of its number
  pub front_is : (limits : Limits) → AreRightDeeds s n limits D → item_at p k D ≡ Some item
  front_is limits right = front_item s n p D (in_turn s n limits D right) k front.bytes item front.front front.spelt

  -- so the deed is right
  pub act_is : (limits : Limits) → act_refusal s n p item (history_of s n D) ≡ None → IsRightDeed s n limits (Act p k) D
  unfolding right_after
  act_is limits none = (events.Act p, ap (deed_by (events.Act p)) (act_free none))

  -- and at the end with its sender it waits
  pub front_waits : (limits : Limits) (end : End) → StandsOnward s p limits end (calls_at p (history_of s n D)) → 0 < length end.waiting
  front_waits limits end stands = subst (λ (payloads : List (List ℕ)). 0 < length payloads) (sym (ap (λ (e : End). e.waiting) (onward_is stands))) (some_waits (takes (calls_at p (history_of s n D)) + 1) (waiting (calls_at p (history_of s n D))) front.front)
    where
      some_waits : (number : ℕ) (payloads : List (List ℕ)) → first_of number payloads ≡ Some (k, front.bytes) → 0 < length payloads
      some_waits number [] found = absurd (none-some _ found)
      some_waits number (payload ∷ payloads) found = omega arith

-- ---- notes that nothing keeps in the inbox

module _ {s n p k : ℕ} {D : List Deed} (number : ℕ) where
  pub settle_free : (item : Item) → item ≡ items.Settle number → IsFront s n p k item D → right_act s n p (history_of s n D) ≡ Ok (answers.Acted k)
  unfolding act_refusal
  settle_free item is front = act_free (subst (λ (one : Item). IsFront s n p k one D) is front) refl

  pub granted_free : (item : Item) → item ≡ items.DirtyOk number → IsFront s n p k item D → right_act s n p (history_of s n D) ≡ Ok (answers.Acted k)
  unfolding act_refusal
  granted_free item is front = act_free (subst (λ (one : Item). IsFront s n p k one D) is front) refl

  pub refused_free : (item : Item) → item ≡ items.DirtyNo number → IsFront s n p k item D → right_act s n p (history_of s n D) ≡ Ok (answers.Acted k)
  unfolding act_refusal
  refused_free item is front = act_free (subst (λ (one : Item). IsFront s n p k one D) is front) refl

  pub clean_free : (item : Item) → item ≡ items.Clean number → IsFront s n p k item D → right_act s n p (history_of s n D) ≡ Ok (answers.Acted k)
  unfolding act_refusal
  clean_free item is front = act_free (subst (λ (one : Item). IsFront s n p k one D) is front) refl

-- ---- the ends

module _ (s n p k : ℕ) (D : List Deed) where
  -- an act that gives nothing takes an item from its sender, and else nothing
  pub calls_taken : (q : ℕ) → gifts s n (Act p k) D (work s n D) ≡ [] → calls_at q (history_of s n (Act p k ∷ D)) ≡ (if p == q then ends.Take ∷ calls_at q (history_of s n D) else calls_at q (history_of s n D))
  calls_taken q none = calls_more s n q (Act p k) D ∙ ap (λ (more : List Gift). own_calls q (Act p k) (with_sends (items_to q more) (calls_at q (history_of s n D)))) none

  -- the ends once the item is taken
  pub ends_taken : (limits : Limits) (sessions : List Roomy) (old new : Roomy) → gifts s n (Act p k) D (work s n D) ≡ [] → EndsStand s n limits sessions (history_of s n D) → is_peer s n p ≡ true → old ≡ get_or sessions (p - 1) old
      → (StandsOnward s p limits old.end (calls_at p (history_of s n D)) → StandsOnward s p limits new.end (ends.Take ∷ calls_at p (history_of s n D)))
      → EndsStand s n limits (set sessions (p - 1) new) (history_of s n (Act p k ∷ D))
  ends_taken limits sessions old new none stands peer is take =
      let there = end_there s n limits sessions (history_of s n D) p old stands peer is in
      let here : calls_at p (history_of s n (Act p k ∷ D)) ≡ ends.Take ∷ calls_at p (history_of s n D) = calls_taken p none ∙ rw (nat_eq_equiv.refl p) refl in
      ends_changed s n limits sessions (history_of s n D) (history_of s n (Act p k ∷ D)) p new stands there.0 (subst (λ calls. StandsOnward s p limits new.end calls) (sym here) (take there.2))
      (λ q other. sym (calls_taken q none ∙ rw (nat_eq_equiv.symm p q, other) refl))

-- ---- a note

-- a note is no message, so it brings no work
note_brings : (s n p k : ℕ) (D : List Deed) (item : Item) (W : Outstanding) → is_message (Some item) ≡ false → after_act s n p k D (Some item) W ≡ W
unfolding after_act after_message
note_brings s n p k D (items.Call call target method value) W note = absurd (cc)
note_brings s n p k D (items.Reply call status value) W note = absurd (cc)
note_brings s n p k D (items.Settle item) W note = refl
note_brings s n p k D (items.Dirty index) W note = refl
note_brings s n p k D (items.DirtyOk index) W note = refl
note_brings s n p k D (items.DirtyNo index) W note = refl
note_brings s n p k D (items.Clean index) W note = refl

module _ (s n p k : ℕ) (item : Item) (D : List Deed) (there : item_at p k D ≡ Some item) (note : is_message (Some item) ≡ false) where
  -- the Dirties stay
  pub note_dirties : transit.dirties (history_of s n (Act p k ∷ D)) ≡ transit.dirties (history_of s n D)
  note_dirties = dirties_same s n (Act p k) D (ap is_message there ∙ note)

  -- the outstanding work is what it was, but for the loans that can be made now
  pub note_loans : work s n (Act p k ∷ D) ≡ with_loans s n (Act p k ∷ D) (work s n D)
  unfolding work_after
  note_loans = ap (with_loans s n (Act p k ∷ D)) (ap (λ found. after_act s n p k D found (work s n D)) there ∙ note_brings s n p k D item (work s n D) note)

  module _ (same_turns : (rep : WireRep) → turns s n rep (Act p k ∷ D) ≡ turns s n rep D) where
    -- the loans that can be made now are those that could be made before
    loans_same : with_loans s n (Act p k ∷ D) (work s n D) ≡ with_loans s n D (work s n D)
    unfolding with_loans message_after run_after copy_after
    loans_same = ap (λ (all : WireRep → Turns). record {
      waiting = map (λ message. record { from = message.from; session = message.session; number = message.number; item = message.item; copies = map (λ copy. record { rep = copy.rep; loan = loan_after (is_own s copy.rep || (is_granted (all copy.rep) && not (closed copy.rep.owner D))) copy.loan }) message.copies }) (work s n D).waiting;
      ready = map (λ message. record { from = message.from; session = message.session; number = message.number; item = message.item; copies = map (λ copy. record { rep = copy.rep; loan = loan_after (is_own s copy.rep || (is_granted (all copy.rep) && not (closed copy.rep.owner D))) copy.loan }) message.copies }) (work s n D).ready;
      running = map (λ run. record { job = run.job; message = record { from = run.message.from; session = run.message.session; number = run.message.number; item = run.message.item; copies = map (λ copy. record { rep = copy.rep; loan = loan_after (is_own s copy.rep || (is_granted (all copy.rep) && not (closed copy.rep.owner D))) copy.loan }) run.message.copies } }) (work s n D).running;
      replies = map (λ message. record { from = message.from; session = message.session; number = message.number; item = message.item; copies = map (λ copy. record { rep = copy.rep; loan = loan_after (is_own s copy.rep || (is_granted (all copy.rep) && not (closed copy.rep.owner D))) copy.loan }) message.copies }) (work s n D).replies;
      calls = (work s n D).calls;
    }) (λ i rep. same_turns rep i)

    -- and no loan can be made now where no turn was taken
    pub note_work : work s n (Act p k ∷ D) ≡ work s n D
    note_work = note_loans ∙ loans_same ∙ loans_made s n D

    -- the table shows what it did
    note_shows : {t : Table} → TableStands s n t (history_of s n D) → AreUsed s t (history_of s n (Act p k ∷ D)) → TableStands s n t (history_of s n (Act p k ∷ D))
    note_shows {t} shows kept = record {
      me = shows.me;
      exported = shows.exported;
      live = shows.live;
      far = λ rep counted own. shows.far rep counted own ∙ ap (λ w. far_state (closed rep.owner D) (is_held (standing t rep).counts) w) (sym (same_turns rep));
      hands = shows.hands;
      loans = λ rep counted. shows.loans rep counted ∙ ap (λ W. times rep (lent_in s W)) (sym note_work);
      passed = shows.passed;
      dirties = shows.dirties ∙ ap length (sym note_dirties);
      places = λ rep. shows.places rep ∙ ap (λ reps. if standings.is_surrogate (standing t rep).state then transit.last_place rep reps else None) (sym note_dirties);
      kept = kept;
    }

    -- the state with other ends, listings and pins, and other marks in the table
    pub note_stands : {limits : Limits} {st : State} (sessions : List Roomy) (dirty : List Listing) (table_of_pins : pins.Table) (t : Table) → Stands s n limits st D → Unchanged st.table t → HaveUsers s t table_of_pins.bundles dirty
        → EndsStand s n limits sessions (history_of s n (Act p k ∷ D)) → ((index client : ℕ) → lists dirty index client ≡ is_listed s index client (Act p k ∷ D)) → PinsStand table_of_pins.bundles (history_of s n (Act p k ∷ D)) → IsRightDeed s n limits (Act p k) D
        → Stands s n limits (record { sessions = sessions; table = t; dirty = dirty; pins = table_of_pins; work = st.work; awaited = st.awaited; calls = st.calls; jobs = st.jobs }) (Act p k ∷ D)
    note_stands {limits} {st} sessions dirty table_of_pins t stands same have ends_stand listed pins_stand its = record {
      ends = ends_stand;
      table = shows_marked same (used_of s t table_of_pins.bundles dirty (history_of s n (Act p k ∷ D)) pins_stand listed have) (note_shows (shows_unmarked stands.table) (λ rep kept none. absurd (none_kept st.table rep kept)));
      listed = listed;
      pins = pins_stand;
      work = stands.work ∙ sym note_work;
      awaited = λ rep due. stands.awaited rep due ∙ ap not (sym (same_lost s n rep D (Act p k ∷ D) refl (same_turns rep)));
      calls = stands.calls;
      jobs = stands.jobs;
      right = (its, stands.right);
    }

-- at the place of its sender's end it waits
pub waits_there : {s n p k : ℕ} {item : Item} {limits : Limits} {st : State} {D : List Deed} → Stands s n limits st D → IsFront s n p k item D → (place : ℕ) → place ≡ p - 1 → (old : Roomy) → old ≡ get_or st.sessions place old → 0 < length old.end.waiting
waits_there {s} {n} {p} {k} {item} {limits} {st} {D} stands front place at old is = front_waits front limits old.end (end_there s n limits st.sessions (history_of s n D) p old stands.ends front.peer (subst (λ q. old ≡ get_or st.sessions q old) at is)).2
