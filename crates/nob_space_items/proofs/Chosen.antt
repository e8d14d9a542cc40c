-- Act: which item it takes, and what is answered.
use Rattle.std.proofs.Common.{◌≡◌, ℕ, ◌-◌, true, false, List, get_or, Option, Some, None, Ok, Err, refl, sym, ap, subst, ◌∙◌}
use Rattle.nob_ids.specs.declared.limits.Limits.{Limits}
use Rattle.nob_ids.specs.declared.reason.Reason.{Reason}
use Rattle.nob_ids.specs.declared.reason.Reason.TheVariants.{BadItem}
use Rattle.nob_item.specs.declared.item.Item.{Item}
use Rattle.nob_model_session.specs.Right.{right_front}
use Rattle.nob_model_session.specs.declared.entry.EndEntry.{EndEntry}
use Rattle.nob_session.specs.Stands as session
use Rattle.nob_session.specs.Stands.{Roomy}
use Rattle.nob_session.proofs.Alike.{told_onward}
use Rattle.nob_model_session.specs.declared.entry.EndEntry.TheVariants.{Front}
use Rattle.nob_model_types.specs.declared.answer.Answer.TheVariants as answers
use Rattle.nob_model_types.specs.declared.event.Event.TheVariants as events
use Rattle.nob_model_types.specs.declared.refusal.Refusal.TheVariants as refusals
use Rattle.nob_model_types.specs.Deeds.{deed_by}
use Rattle.nob_model_types.specs.declared.deed.Cause.TheVariants as causes
use Rattle.nob_model_types.specs.declared.deed.Deed.{Deed}
use Rattle.nob_model_types.specs.declared.deed.Deed.TheVariants as did
use Rattle.nob_model_types.specs.Sessions.{is_peer, closed, item_spelt}
use Rattle.nob_model_history.specs.declared.history.History.{History}
use Rattle.nob_model_history.specs.Histories.{history_of}
use Rattle.nob_model_history.specs.Ends.{calls_at}
use Rattle.nob_model_acting.specs.Acting.{fault_of, act_on}
use Rattle.nob_model.specs.Right.{right_act, act_of, right_after}
use Rattle.nob_model.specs.Lists.{IsRightDeed}
use Rattle.nob_space_state.specs.Looks.{has_closed}
use Rattle.nob_space_state.specs.Parts.{State}
use Rattle.nob_space_state.specs.Stands.{Stands}
use Rattle.nob_space_state.proofs.Ends.{end_there}
use Rattle.nob_space_state.proofs.Told.{closed_there}
use Rattle.nob_space_items.specs.Fronts.{IsFront}
use Rattle.nob_space_items.specs.Judging.{item_fault}
use Rattle.nob_space_items.proofs.Judged.{fault_there}

module _ (s n p : ℕ) (h : History) where
  -- there is no such peer
  pub act_no_peer : is_peer s n p ≡ false → right_act s n p h ≡ Err refusals.NoPeer
  unfolding right_act
  act_no_peer stranger = rw stranger refl

  module _ (peer : is_peer s n p ≡ true) where
    act_cut : closed p h.deeds ≡ true → right_act s n p h ≡ Err refusals.Closed
    unfolding right_act
    act_cut cut = rw (peer, cut) refl

    module _ (up : closed p h.deeds ≡ false) where
      act_empty : right_front (calls_at p h) ≡ None → right_act s n p h ≡ Err refusals.Nothing
      unfolding right_act act_of
      act_empty empty = rw (peer, up, empty) refl

      module _ (k : ℕ) (bytes : List ℕ) (front : right_front (calls_at p h) ≡ Some (k, bytes)) where
        act_garbled : item_spelt bytes ≡ None → right_act s n p h ≡ Ok (answers.Closed BadItem)
        unfolding right_act act_of act_on
        act_garbled garbled = rw (peer, up, front, garbled) refl

        act_faulty : (item : Item) (reason : Reason) → item_spelt bytes ≡ Some item → fault_of s n p item h ≡ Some reason → right_act s n p h ≡ Ok (answers.Closed reason)
        unfolding right_act act_of act_on
        act_faulty item reason spelt faulty = rw (peer, up, front, spelt, faulty) refl

-- a session that acting on an item closed is closed rightly
pub closing_is : (s n : ℕ) (limits : Limits) (D : List Deed) (p : ℕ) (reason : Reason) → right_act s n p (history_of s n D) ≡ Ok (answers.Closed reason) → IsRightDeed s n limits (did.Closing p reason causes.Item) D
unfolding right_after
closing_is s n limits D p reason is = (events.Act p, ap (deed_by (events.Act p)) is)

module _ {s n : ℕ} {limits : Limits} {st : State} {D : List Deed} (stands : Stands s n limits st D) (p : ℕ) (peer : is_peer s n p ≡ true) where
  -- the session has closed
  pub act_of_closed : has_closed st.sessions p ≡ true → right_act s n p (history_of s n D) ≡ Err refusals.Closed
  act_of_closed cut = act_cut s n p (history_of s n D) peer (sym (closed_there stands p) ∙ cut)

  module _ (still : has_closed st.sessions p ≡ false) (place : ℕ) (at : place ≡ p - 1) (end : Roomy) (is : end ≡ get_or st.sessions place end) (front : Option (ℕ × List ℕ))
      (tells : (me other : ℕ) (limits : Limits) (L : List EndEntry) → session.Stands me other limits end.end L → front ≡ right_front L) where
    open_here : closed p D ≡ false
    open_here = sym (closed_there stands p) ∙ still

    -- the front of the inbox
    pub front_there : right_front (calls_at p (history_of s n D)) ≡ front
    front_there = sym (told_onward (Front front) (end_there s n limits st.sessions (history_of s n D) p end stands.ends peer (subst (λ q. end ≡ get_or st.sessions q end) at is)).2 (λ M stood. tells s p limits M stood))

    -- the inbox is empty
    pub act_of_none : front ≡ None → right_act s n p (history_of s n D) ≡ Err refusals.Nothing
    act_of_none none = act_empty s n p (history_of s n D) peer open_here (front_there ∙ none)

    module _ (k : ℕ) (bytes : List ℕ) (some : front ≡ Some (k, bytes)) where
      -- the item can't be read
      pub act_of_garbled : item_spelt bytes ≡ None → right_act s n p (history_of s n D) ≡ Ok (answers.Closed BadItem)
      act_of_garbled garbled = act_garbled s n p (history_of s n D) peer open_here k bytes (front_there ∙ some) garbled

      module _ (item : Item) (spelt : item_spelt bytes ≡ Some item) where
        -- it has a fault
        pub act_of_faulty : (reason : Reason) → item_fault s p item st ≡ Some reason → right_act s n p (history_of s n D) ≡ Ok (answers.Closed reason)
        act_of_faulty reason faulty = act_faulty s n p (history_of s n D) peer open_here k bytes (front_there ∙ some) item reason spelt (sym (fault_there stands p item peer open_here) ∙ faulty)

        -- it has none, and is acted on
        pub is_front : item_fault s p item st ≡ None → IsFront s n p k item D
        is_front sound = record {
          peer = peer;
          is_open = open_here;
          bytes = bytes;
          front = front_there ∙ some;
          spelt = spelt;
          sound = sym (fault_there stands p item peer open_here) ∙ sound;
        }
