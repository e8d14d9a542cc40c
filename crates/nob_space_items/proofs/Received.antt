-- The state once a Call or a Reply was acted on stands for one deed more.
use Rattle.std.proofs.Common.{◌≡◌, ℕ, ◌+◌, ◌-◌, true, false, List, [], ◌∷◌, ◌++◌, map, flat_map, get_or, if◌then◌else◌, refl, sym, ap, subst, ◌∙◌, arith}
use Rattle.std.specs.List.{sum_by}
use Rattle.std.proofs.lemmas.Cmp.{nat_eq_equiv}
use Rattle.std.proofs.lemmas.List.{append-nil}
use Rattle.std.proofs.lemmas.List.Concat.{flat_map-append}
use Rattle.std.proofs.lemmas.Option.{get_or_from_slice_get}
use Rattle.nob_ids.specs.declared.limits.Limits.{Limits}
use Rattle.nob_ids.specs.declared.wire_rep.WireRep.{WireRep}
use Rattle.nob_item.specs.Kinds.{counted_in}
use Rattle.nob_item.specs.declared.item.Item.{Item}
use Rattle.nob_item.specs.declared.item.Item.TheVariants as items
use Rattle.nob_model_session.specs.declared.entry.EndEntry.{EndEntry}
use Rattle.nob_model_session.specs.declared.entry.EndEntry.TheVariants as ends
use Rattle.nob_session.specs.Stands.{Roomy}
use Rattle.nob_session.specs.Onward.{StandsOnward}
use Rattle.nob_session.proofs.Alike.{made_onward, stepped_onward}
use Rattle.nob_dirty.specs.Sets.{lists}
use Rattle.nob_pins.specs.Bundles as pins
use Rattle.nob_model_types.specs.declared.deed.Deed.{Deed}
use Rattle.nob_model_types.specs.declared.deed.Deed.TheVariants.{Act, TakeEnd}
use Rattle.nob_model_types.specs.declared.message.Message.{Message}
use Rattle.nob_model_work.specs.declared.work.Outstanding.{Outstanding}
use Rattle.nob_model_work.specs.declared.work.Run.{Run}
use Rattle.nob_model_work.specs.Gifts.{dirty_for, all_gifts}
use Rattle.nob_model_work.specs.Work.{work, after_message, is_none_of, make_ready, make_reply, wait, with_calls, call_after_reply}
use Rattle.nob_model_history.specs.declared.history.History.{History}
use Rattle.nob_model_history.specs.declared.transit.SentItem.{SentItem}
use Rattle.nob_model_history.specs.Histories.{history_of}
use Rattle.nob_model_history.specs.Ends.{calls_at, items_to, with_sends}
use Rattle.nob_model_history.specs.Holds.{hand, times, lent_in, loans_of}
use Rattle.nob_model.specs.Lists.{IsRightDeed}
use Rattle.nob_space_state.specs.Parts.{State}
use Rattle.nob_space_state.specs.Shows.{TableStands}
use Rattle.nob_space_state.specs.Stands.{Stands, EndsStand, AreAwaited, bundle}
use Rattle.nob_space_state.proofs.Ends.{end_there, ends_changed}
use Rattle.nob_space_state.proofs.Counted.{times_both}
use Rattle.nob_space_state.proofs.Taking.{shows_same}
use Rattle.nob_space_items.specs.Fronts.{IsFront}
use Rattle.nob_space_items.specs.Messages.{wanted_refs}
use Rattle.nob_space_items.specs.Placing.{IsMessage}
use Rattle.nob_space_items.specs.Receiving.{Receives}
use Rattle.nob_space_items.proofs.Asks.{asks_show}
use Rattle.nob_space_items.proofs.Lost.{message_awaited}
use Rattle.nob_space_items.proofs.Message.{message_of, act_bundles, act_calls, act_due, act_listed, act_lost, act_work}
use Rattle.nob_space_items.proofs.Sends.{sends_alike}

-- ---- what is lent

module _ (s : ℕ) (rep : WireRep) where
  -- all that is lent, by the lists
  pub times_lent : (W : Outstanding) → times rep (lent_in s W) ≡ times rep (flat_map (loans_of s) W.waiting) + (times rep (flat_map (loans_of s) W.ready) + (times rep (flat_map (λ (run : Run). loans_of s run.message) W.running) + times rep (flat_map (loans_of s) W.replies)))
  times_lent W =
      let running : List WireRep = flat_map (λ (run : Run). loans_of s run.message) W.running in
      let replies : List WireRep = flat_map (loans_of s) W.replies in
      let ready : List WireRep = flat_map (loans_of s) W.ready in
      times_both rep (flat_map (loans_of s) W.waiting) (ready ++ (running ++ replies))
      ∙ ap (λ k. times rep (flat_map (loans_of s) W.waiting) + k) (times_both rep ready (running ++ replies) ∙ ap (λ k. times rep ready + k) (times_both rep running replies))

  -- with one message more
  times_push : (ms : List Message) (m : Message) → times rep (flat_map (loans_of s) (ms ++ m ∷ [])) ≡ times rep (flat_map (loans_of s) ms) + times rep (loans_of s m)
  times_push ms m = ap (times rep) (flat_map-append (loans_of s) ms (m ∷ []) ∙ ap (λ (reps : List WireRep). flat_map (loans_of s) ms ++ reps) (append-nil (loans_of s m))) ∙ times_both rep (flat_map (loans_of s) ms) (loans_of s m)

  -- a message that waits, is ready, or is a ready reply lends its loans more
  lent_wait : (m : Message) (W : Outstanding) → times rep (lent_in s (wait m W)) ≡ times rep (lent_in s W) + times rep (loans_of s m)
  lent_wait m W =
      let after = times_lent (wait m W) in
      let before = times_lent W in
      let more = times_push W.waiting m in
      omega (arith, after, before, more)

  lent_ready : (m : Message) (W : Outstanding) → times rep (lent_in s (make_ready m W)) ≡ times rep (lent_in s W) + times rep (loans_of s m)
  lent_ready m W =
      let after = times_lent (make_ready m W) in
      let before = times_lent W in
      let more = times_push W.ready m in
      omega (arith, after, before, more)

  lent_reply : (m : Message) (W : Outstanding) → times rep (lent_in s (make_reply m W)) ≡ times rep (lent_in s W) + times rep (loans_of s m)
  lent_reply m W =
      let after = times_lent (make_reply m W) in
      let before = times_lent W in
      let more = times_push W.replies m in
      omega (arith, after, before, more)

  -- so it is wherever it goes
  pub lent_put : (m : Message) (item : Item) (W : Outstanding) → IsMessage item → times rep (lent_in s (after_message m item W)) ≡ times rep (lent_in s W) + times rep (loans_of s m)
  unfolding after_message
  lent_put m (items.Call call target method value) W message = elim (is_none_of m.copies) as (λ b. times rep (lent_in s (if b then make_ready m W else wait m W)) ≡ times rep (lent_in s W) + times rep (loans_of s m)) [ true ↦ lent_ready m W | false ↦ lent_wait m W ]
  lent_put m (items.Reply call status value) W message = elim (is_none_of m.copies) as (λ b. times rep (lent_in s (with_calls (call_after_reply m.from call) (if b then make_reply m W else wait m W))) ≡ times rep (lent_in s W) + times rep (loans_of s m)) [ true ↦ lent_reply m W | false ↦ lent_wait m W ]
  lent_put m (items.Settle item) W message = absurd (cc)
  lent_put m (items.Dirty index) W message = absurd (cc)
  lent_put m (items.DirtyOk index) W message = absurd (cc)
  lent_put m (items.DirtyNo index) W message = absurd (cc)
  lent_put m (items.Clean index) W message = absurd (cc)

-- ---- the state

module _ {s n : ℕ} {limits : Limits} {st new : State} {D : List Deed} (stands : Stands s n limits st D) (p k : ℕ) (item : Item) (front : IsFront s n p k item D) (message : IsMessage item)
    (receives : Receives s st new (message_of s n st p k item) (wanted_refs s n st (counted_in item))) where
  -- the Dirties are sent and the item isn't taken yet
  abbrev between : History
  between = record { deeds = TakeEnd 0 ∷ D; work = work s n D; all_gifts = map dirty_for (wanted_refs s n st (counted_in item)) ∷ all_gifts s n D }

  ends_between : EndsStand s n limits receives.sent between
  ends_between = record {
    each = receives.sends.each ∙ stands.ends.each;
    ends = λ place end there.
        let sent = receives.sends.ends place end there in
        made_onward (with_sends (items_to (place + 1) (map dirty_for (wanted_refs s n st (counted_in item))))) (sends_alike (items_to (place + 1) (map dirty_for (wanted_refs s n st (counted_in item))))) (stands.ends.ends place sent.0 sent.1) (λ M stood. sent.2 s (place + 1) limits M stood);
  }

  ends_after : EndsStand s n limits new.sessions (history_of s n (Act p k ∷ D))
  ends_after =
      let was : receives.takes.before ≡ get_or receives.sent (p - 1) receives.takes.before = sym (get_or_from_slice_get receives.sent (p - 1) receives.takes.before receives.takes.before receives.takes.was) in
      let there = end_there s n limits receives.sent between p receives.takes.before ends_between front.peer was in
      let here : calls_at p (history_of s n (Act p k ∷ D)) ≡ ends.Take ∷ calls_at p between = act_calls stands p k item front message p ∙ ap (λ b. if b then ends.Take ∷ calls_at p between else calls_at p between) (nat_eq_equiv.refl p) in
      subst (λ (sessions : List Roomy). EndsStand s n limits sessions (history_of s n (Act p k ∷ D))) (sym receives.takes.is)
      (ends_changed s n limits receives.sent between (history_of s n (Act p k ∷ D)) p receives.takes.after ends_between there.0
      (subst (λ (calls : List EndEntry). StandsOnward s p limits receives.takes.after.end calls) (sym here) (stepped_onward ends.Take refl there.2 (λ M stood. receives.takes.answer s p limits M stood)))
      (λ q other. sym (act_calls stands p k item front message q ∙ ap (λ b. if b then ends.Take ∷ calls_at q between else calls_at q between) (nat_eq_equiv.symm p q ∙ other))))

  table_after : TableStands s n new.table (history_of s n (Act p k ∷ D))
  table_after =
      let m : Message = message_of s n st p k item in
      shows_same (λ rep. hand rep (Act p k ∷ D)) (λ rep. times rep (lent_in s (work s n (Act p k ∷ D)))) (λ rep. refl)
      (λ rep. sym (ap (λ (W : Outstanding). times rep (lent_in s W)) (act_work stands p k item front message) ∙ lent_put s rep m item (work s n D) message))
      (receives.lends.shows s n (history_of s n (Act p k ∷ D)) (λ rep. hand rep D) (λ rep. times rep (lent_in s (work s n D))) (asks_show stands p k item front message receives.asked receives.asks))

  -- after acting on a message
  pub receives_stand : IsRightDeed s n limits (Act p k) D → Stands s n limits new (Act p k ∷ D)
  receives_stand its = record {
    ends = ends_after;
    table = table_after;
    listed = λ index client. ap (λ dirty. lists dirty index client) receives.dirty ∙ stands.listed index client ∙ sym (act_listed stands p k item front message index client);
    pins = λ f. ap (λ (table : pins.Table). sum_by f table.bundles) receives.pins ∙ stands.pins f ∙ ap (λ (items : List SentItem). sum_by f (map bundle items)) (sym (act_bundles stands p k item front message));
    awaited = subst (λ (W : Outstanding). AreAwaited s n new.awaited W.waiting (Act p k ∷ D)) (sym receives.work)
        (message_awaited s n D (Act p k ∷ D) (message_of s n st p k item) (act_lost stands p k item front message) (act_due stands p k item front message) st.awaited new.awaited item st.work message stands.awaited receives.awaited);
    work = receives.work ∙ ap (after_message (message_of s n st p k item) item) stands.work ∙ sym (act_work stands p k item front message);
    calls = receives.calls ∙ stands.calls;
    jobs = receives.jobs ∙ stands.jobs;
    right = (its, stands.right);
  }
