-- Acting on a Dirty: what is answered, and what it leaves.
use Rattle.std.proofs.Common.{◌≡◌, ℕ, ◌+◌, ◌-◌, Bool, true, false, cond, not, ◌&&◌, ◌||◌, ◌==◌, nat_le, List, [], ◌∷◌, ◌++◌, length, map, filter, get_or, Some, None, Ok, Err, IsOk, if◌then◌else◌, refl, sym, ap, subst, ◌∙◌, arith}
use lib.ListN.{set}
use Rattle.std.specs.List.{sum_by}
use Rattle.std.proofs.lemmas.List.{append-nil}
use Rattle.std.proofs.lemmas.Bool.Decides.{nat_tests, Decides-eqb}
use Rattle.std.proofs.lemmas.Cmp.{nat_eq_equiv}
use Rattle.nob_ids.specs.declared.limits.Limits.{Limits}
use Rattle.nob_ids.specs.declared.reason.Reason.TheVariants.{BadReference}
use Rattle.nob_item.specs.declared.item.Item.TheVariants as items
use Rattle.nob_dirty.specs.declared.sets.Listing.{Listing}
use Rattle.nob_dirty.specs.Sets.{lists}
use Rattle.nob_model_session.specs.End.{handed, is_open, last_item}
use Rattle.nob_model_session.specs.declared.entry.EndEntry.{EndEntry}
use Rattle.nob_model_session.specs.declared.entry.EndEntry.TheVariants as ends
use Rattle.nob_model_session.specs.declared.entry.Kind.TheVariants.{Note}
use Rattle.nob_model_session.specs.declared.refusal.EndRefusal.TheVariants as end_refusals
use Rattle.nob_session.specs.Calls.{next_of}
use Rattle.nob_session.specs.Stands as session
use Rattle.nob_session.specs.Stands.{End, Roomy}
use Rattle.nob_session.specs.Onward.{AreAlike, StandsOnward}
use Rattle.nob_session.proofs.Alike.{made_onward, onward_is, step_alike}
use Rattle.nob_model_types.specs.declared.refusal.Refusal.TheVariants as refusals
use Rattle.nob_model_types.specs.declared.deed.Deed.{Deed}
use Rattle.nob_model_types.specs.declared.deed.Deed.TheVariants.{Act}
use Rattle.nob_model_types.specs.Objects as objects
use Rattle.nob_model_types.specs.Sessions.{is_peer, closed, item_at}
use Rattle.nob_model_types.specs.Turns.{turns, turns_after}
use Rattle.nob_model_work.specs.declared.gifts.Gift.{Gift}
use Rattle.nob_model_work.specs.Work.{work}
use Rattle.nob_model_work.specs.Gifts.{gifts, gifts_of_act, answer_to}
use Rattle.nob_model_history.specs.Histories.{history_of}
use Rattle.nob_model_history.specs.Ends.{calls_at, items_to, kind_of, own_calls, payload_of, with_sends}
use Rattle.nob_model_history.specs.Listing.{is_listed, is_entered}
use Rattle.nob_model_history.specs.Transit as transit
use Rattle.nob_model_history.specs.Transit.{is_pinned, sent}
use Rattle.nob_model_history.proofs.Inbox.{open_calls}
use Rattle.nob_model_history.proofs.Numbered.{calls_more}
use Rattle.nob_model_history.proofs.Pinning.{bundles_kept, no_settle}
use Rattle.nob_model_history.proofs.Sending.{new_items}
use Rattle.nob_model_acting.specs.Acting.{act_refusal, fault_of, is_unknown}
use Rattle.nob_model_acting.specs.Sending.{refusal_in, send_refused}
use Rattle.nob_model.proofs.Guarding.{listed_law}
use Rattle.nob_space_state.specs.Parts.{State}
use Rattle.nob_space_state.specs.Sending.{send_refusal}
use Rattle.nob_space_state.specs.Stands.{Stands, bundle}
use Rattle.nob_space_state.proofs.Calling.{send_there, next_free}
use Rattle.nob_space_state.proofs.Ends.{end_there, ends_changed, ends_kept}
use Rattle.nob_space_state.proofs.Sent.{gift_to}
use Rattle.nob_space_items.specs.Fronts.{IsFront}
use Rattle.nob_space_items.specs.Notes.{dirty_answer, EntersIf}
use Rattle.nob_space_items.proofs.Noted.{act_gives, fault_none, listed_is}
use Rattle.nob_table.specs.Table.{Table, Unchanged, SetsKept, is_kept}
use Rattle.nob_space_state.specs.Looks.{HaveUsers}
use Rattle.nob_space_state.proofs.Kept.{users_there}
use Rattle.nob_space_items.proofs.Taken.{act_is, front_is, note_stands}
use Rattle.nob_pins.specs.Bundles.{Pinned}
use Rattle.nob_model.specs.Right.{own_ref}
use Rattle.nob_table_rows.proofs.Same.{same_is}
use Rattle.nob_ids.specs.Names.{is_same}
use Rattle.nob_ids.specs.declared.wire_rep.WireRep.{WireRep}

-- ---- why it stays in the inbox

-- a note finds a number on an open session unless all are used up
note_number : (still full over : Bool) (number : ℕ) → still ≡ true → full ≡ not over
    → refusal_in (if not still then Err end_refusals.Closed else (if full then Err end_refusals.SeqEnd else Ok number)) ≡ (if not over then Some refusals.SeqEnd else None)
note_number true true true number e is = absurd (cc)
note_number true true false number e is = refl
note_number true false true number e is = refl
note_number true false false number e is = absurd (cc)
note_number false full over number e is = absurd (cc)

-- the answer to a Dirty finds a number where a note does
dirty_refused : (s n p k index : ℕ) (D : List Deed) → closed p D ≡ false → send_refused p Note (history_of s n D) ≡ act_refusal s n p (items.Dirty index) (history_of s n D)
unfolding act_refusal
dirty_refused s n p k index D up =
    let count : ℕ = length (handed (calls_at p (history_of s n D))) in
    note_number (is_open (calls_at p (history_of s n D))) (nat_le last_item count) (nat_le (count + 1) last_item) (count + 1) (open_calls s n p D ∙ ap not up) (grind (arith, nat_tests))

module _ {s n p k : ℕ} {limits : Limits} {st : State} {D : List Deed} (stands : Stands s n limits st D) (index : ℕ) (front : IsFront s n p k (items.Dirty index) D) where
  -- why a Dirty stays in the inbox
  pub dirty_refusal : act_refusal s n p (items.Dirty index) (history_of s n D) ≡ send_refusal p Note st
  dirty_refusal = sym (dirty_refused s n p k index D front.is_open) ∙ send_there stands p Note front.peer

  -- the end has a number for the answer
  pub dirty_next : (old : Roomy) → old ≡ get_or st.sessions (p - 1) old → send_refusal p Note st ≡ None → IsOk (next_of Note old.end)
  dirty_next old is free = let there = end_there s n limits st.sessions (history_of s n D) p old stands.ends front.peer is in next_free p Note st old there.0 there.1 free

-- ---- what it gives

-- a Dirty for an index that was given is answered
answer_given : (p index : ℕ) (live given : Bool) → given ≡ true → (if live then gift_to p (items.DirtyOk index) ∷ [] else if given then gift_to p (items.DirtyNo index) ∷ [] else []) ≡ gift_to p (dirty_answer live index) ∷ []
answer_given p index true given e = refl
answer_given p index false true e = refl
answer_given p index false false e = absurd (cc)

was_given : (agent given : Bool) → (agent || not given) ≡ false → given ≡ true
was_given true given e = absurd (cc)
was_given false true e = refl
was_given false false e = absurd (cc)

module _ {s n p k : ℕ} {index : ℕ} {D : List Deed} (front : IsFront s n p k (items.Dirty index) D) (there : item_at p k D ≡ Some (items.Dirty index)) where
  dirty_gives : gifts s n (Act p k) D (work s n D) ≡ gift_to p (dirty_answer (objects.is_live s index D) index) ∷ []
  unfolding gifts_of_act answer_to fault_of
  dirty_gives =
      let given : objects.is_exported s index D ≡ true = was_given (index == 0) (objects.is_exported s index D) (fault_none (is_unknown s index (history_of s n D)) BadReference front.sound) in
      act_gives s n p k (items.Dirty index) D there
      ∙ ap (filter (λ (gift : Gift). is_peer s n gift.to)) (answer_given p index (objects.is_live s index D) (objects.is_exported s index D) given)
      ∙ rw front.peer refl

  -- on the end with its sender the answer is sent, and then the Dirty is taken
  calls_answered : (q : ℕ) → calls_at q (history_of s n (Act p k ∷ D)) ≡ own_calls q (Act p k) (with_sends (map (λ (gift : Gift). gift.item) (cond (p == q) (gift_to p (dirty_answer (objects.is_live s index D) index) ∷ []) [])) (calls_at q (history_of s n D)))
  calls_answered q = calls_more s n q (Act p k) D ∙ ap (λ (more : List Gift). own_calls q (Act p k) (with_sends (items_to q more) (calls_at q (history_of s n D)))) dirty_gives

  note_kind : (live : Bool) → kind_of (dirty_answer live index) ≡ Note
  note_kind true = refl
  note_kind false = refl

  calls_here : calls_at p (history_of s n (Act p k ∷ D)) ≡ ends.Take ∷ ends.Send (payload_of (dirty_answer (objects.is_live s index D) index)) Note (Ok (length (handed (calls_at p (history_of s n D))) + 1)) ∷ calls_at p (history_of s n D)
  calls_here =
      calls_answered p
      ∙ ap (λ (b : Bool). if b then ends.Take ∷ with_sends (map (λ (gift : Gift). gift.item) (cond b (gift_to p (dirty_answer (objects.is_live s index D) index) ∷ []) [])) (calls_at p (history_of s n D)) else with_sends (map (λ (gift : Gift). gift.item) (cond b (gift_to p (dirty_answer (objects.is_live s index D) index) ∷ []) [])) (calls_at p (history_of s n D))) (nat_eq_equiv.refl p)
      ∙ ap (λ kind. ends.Take ∷ ends.Send (payload_of (dirty_answer (objects.is_live s index D) index)) kind (Ok (length (handed (calls_at p (history_of s n D))) + 1)) ∷ calls_at p (history_of s n D)) (note_kind (objects.is_live s index D))

  calls_elsewhere : (q : ℕ) → p == q ≡ false → calls_at q (history_of s n (Act p k ∷ D)) ≡ calls_at q (history_of s n D)
  calls_elsewhere q other =
      calls_answered q
      ∙ ap (λ (b : Bool). if b then ends.Take ∷ with_sends (map (λ (gift : Gift). gift.item) (cond b (gift_to p (dirty_answer (objects.is_live s index D) index) ∷ []) [])) (calls_at q (history_of s n D)) else with_sends (map (λ (gift : Gift). gift.item) (cond b (gift_to p (dirty_answer (objects.is_live s index D) index) ∷ []) [])) (calls_at q (history_of s n D))) other

  -- the answer carries nothing, so nothing is pinned
  answer_unpinned : (live : Bool) → filter (is_pinned D) (new_items D (sent (history_of s n D)) (gift_to p (dirty_answer live index) ∷ [])) ≡ []
  answer_unpinned true = refl
  answer_unpinned false = refl

  bundles_answered : transit.bundles (history_of s n (Act p k ∷ D)) ≡ transit.bundles (history_of s n D)
  bundles_answered =
      bundles_kept s n (Act p k) D (no_settle p k D (λ j. ap (transit.is_settle_of j) there)) (λ q. refl) (λ q. refl)
      ∙ ap (λ (more : List Gift). transit.bundles (history_of s n D) ++ filter (is_pinned D) (new_items D (sent (history_of s n D)) more)) dirty_gives
      ∙ ap (λ more. transit.bundles (history_of s n D) ++ more) (answer_unpinned (objects.is_live s index D))
      ∙ append-nil (transit.bundles (history_of s n D))

-- ---- who is listed

entered_if : (here own shut entered : Bool) → (own ≡ true → shut ≡ false) → ((not shut && entered) || (here && own)) ≡ (not shut && (if own then (if here then true else entered) else entered))
entered_if true true true entered up = absurd (let bad : true ≡ false = up refl in absurd (cc))
entered_if true true false true up = refl
entered_if true true false false up = refl
entered_if true false true entered up = refl
entered_if true false false true up = refl
entered_if true false false false up = refl
entered_if false own true entered up = refl
entered_if false true false true up = refl
entered_if false true false false up = refl
entered_if false false false true up = refl
entered_if false false false false up = refl

-- the object that a client is entered for may be kept from outside
entered_have : (s : ℕ) (t u : Table) (bundles : List Pinned) (old new : List Listing) (index client : ℕ) (live : Bool) → SetsKept t u (own_ref s index) live → EntersIf live old new index client → HaveUsers s t bundles old → HaveUsers s u bundles new
entered_have s t u bundles old new index client true keeps enters have rep kept none =
    elim (is_same (own_ref s index) rep) as (λ b. is_same (own_ref s index) rep ≡ b → (if b then true else is_kept t rep) ≡ true → (rep.owner ≡ s) × (c : ℕ) × (lists new rep.index c ≡ true)) [
      | true ↦ λ here _. subst (λ (w : WireRep). (w.owner ≡ s) × (c : ℕ) × (lists new w.index c ≡ true)) (same_is (own_ref s index) rep here)
          (refl, client, enters index client ∙ rw (nat_eq_equiv.refl index, nat_eq_equiv.refl client) (elim (lists old index client) as (λ b. (b || true) ≡ true) [ true ↦ refl | false ↦ refl ]))
      | false ↦ λ _ before. (let it = have rep before none in (it.0, it.1, enters rep.index it.1 ∙ rw (it.2) refl))
    ] refl (sym (keeps rep) ∙ kept)
entered_have s t u bundles old new index client false keeps same have rep kept none =
    elim (is_same (own_ref s index) rep) as (λ b. (if b then false else is_kept t rep) ≡ true → (rep.owner ≡ s) × (c : ℕ) × (lists new rep.index c ≡ true)) [
      | true ↦ λ e. absurd (cc)
      | false ↦ λ before. (let it = have rep before none in (it.0, it.1, same rep.index it.1 ∙ it.2))
    ] (sym (keeps rep) ∙ kept)

unentered_if : (here own shut entered : Bool) → (here ≡ true → (not shut && entered) ≡ false) → (not shut && entered) ≡ (not shut && (if own then (if here then false else entered) else entered))
unentered_if true true shut entered none = none refl ∙ and_false shut
  where
    and_false : (b : Bool) → false ≡ (not b && false)
    and_false true = refl
    and_false false = refl
unentered_if true false shut entered none = refl
unentered_if false true shut entered none = refl
unentered_if false false shut entered none = refl

module _ {s n p k : ℕ} {limits : Limits} {st : State} {D : List Deed} (stands : Stands s n limits st D) (index : ℕ) (front : IsFront s n p k (items.Dirty index) D) (there : item_at p k D ≡ Some (items.Dirty index)) where
  -- nobody is listed for an object that isn't live
  unlisted : objects.is_live s index D ≡ false → (i c : ℕ) → index == i ≡ true → is_listed s i c D ≡ false
  unlisted gone i c here = elim (is_listed s i c D) as (λ b. is_listed s i c D ≡ b → b ≡ false) [
    | true ↦ λ listed.
        let live : objects.is_live s index D ≡ true = subst (λ j. objects.is_live s j D ≡ true) (sym ((Decides-eqb index i).0 here)) (listed_law s n limits D stands.right i c listed) in
        let bad : true ≡ false = sym live ∙ gone in absurd (cc)
    | false ↦ λ _. refl
  ] refl

  listed_answered : (dirty : List Listing) (live : Bool) → objects.is_live s index D ≡ live → EntersIf live st.dirty dirty index p → (i c : ℕ) → lists dirty i c ≡ is_listed s i c (Act p k ∷ D)
  listed_answered dirty true live enters i c =
      enters i c ∙ ap (λ b. b || (index == i && p == c)) (stands.listed i c)
      ∙ entered_if (index == i) (p == c) (closed c D) (is_entered s i c D) (λ own. subst (λ q. closed q D ≡ false) ((Decides-eqb p c).0 own) front.is_open)
      ∙ ap (λ b. not (closed c D) && (if p == c then (if index == i then b else is_entered s i c D) else is_entered s i c D)) (sym live)
      ∙ sym (listed_is s n p k (items.Dirty index) D there i c)
  listed_answered dirty false gone same i c =
      same i c ∙ stands.listed i c
      ∙ unentered_if (index == i) (p == c) (closed c D) (is_entered s i c D) (λ here. unlisted gone i c here)
      ∙ ap (λ b. not (closed c D) && (if p == c then (if index == i then b else is_entered s i c D) else is_entered s i c D)) (sym gone)
      ∙ sym (listed_is s n p k (items.Dirty index) D there i c)

-- an end that stands onward does so once its answer is sent and the item is taken
answered_onward : {me peer : ℕ} {limits : Limits} {old new : End} {L : List EndEntry} (payload : List ℕ) (number : ℕ) → StandsOnward me peer limits old L
    → ((M : List EndEntry) → session.Stands me peer limits old M → session.Stands me peer limits new (ends.Take ∷ ends.Send payload Note (Ok number) ∷ M)) → StandsOnward me peer limits new (ends.Take ∷ ends.Send payload Note (Ok number) ∷ L)
answered_onward payload number its call = made_onward (λ M. ends.Take ∷ ends.Send payload Note (Ok number) ∷ M) both its call
  where
    both : (M N : List EndEntry) → AreAlike M N → AreAlike (ends.Take ∷ ends.Send payload Note (Ok number) ∷ M) (ends.Take ∷ ends.Send payload Note (Ok number) ∷ N)
    both M N alike = step_alike (ends.Send payload Note (Ok number) ∷ M) (ends.Send payload Note (Ok number) ∷ N) (step_alike M N alike (ends.Send payload Note (Ok number)) refl) ends.Take refl

module _ {s n p k : ℕ} {limits : Limits} {st : State} {D : List Deed} (stands : Stands s n limits st D) (place : ℕ) (at : place ≡ p - 1) (old new : Roomy) (is : old ≡ get_or st.sessions place old) where
  -- after a Dirty
  pub dirty_stands : (index : ℕ) → IsFront s n p k (items.Dirty index) D → send_refusal p Note st ≡ None → (live : Bool) → live ≡ objects.is_live s index D → (dirty : List Listing) → EntersIf live st.dirty dirty index p → (t : Table) → Unchanged st.table t → SetsKept st.table t (own_ref s index) live
      → ((me peer : ℕ) (limits : Limits) (L : List EndEntry) → session.Stands me peer limits old.end L → session.Stands me peer limits new.end (ends.Take ∷ ends.Send (payload_of (dirty_answer live index)) Note (Ok (old.end.handed + 1)) ∷ L))
      → Stands s n limits (record { sessions = set st.sessions place new; table = t; dirty = dirty; pins = st.pins; work = st.work; awaited = st.awaited; calls = st.calls; jobs = st.jobs }) (Act p k ∷ D)
  dirty_stands index front free live live_is dirty enters t same keeps answer =
      let there : item_at p k D ≡ Some (items.Dirty index) = front_is front limits stands.right in
      let seen : old ≡ get_or st.sessions (p - 1) old = subst (λ q. old ≡ get_or st.sessions q old) at is in
      let end = end_there s n limits st.sessions (history_of s n D) p old stands.ends front.peer seen in
      let count : old.end.handed ≡ length (handed (calls_at p (history_of s n D))) = ap (λ (e : End). e.handed) (onward_is end.2) in
      let after : StandsOnward s p limits new.end (calls_at p (history_of s n (Act p k ∷ D))) =
      subst (λ calls. StandsOnward s p limits new.end calls) (sym (calls_here front there))
      (subst (λ m. StandsOnward s p limits new.end (ends.Take ∷ ends.Send (payload_of (dirty_answer (objects.is_live s index D) index)) Note (Ok (m + 1)) ∷ calls_at p (history_of s n D))) count
      (subst (λ b. StandsOnward s p limits new.end (ends.Take ∷ ends.Send (payload_of (dirty_answer b index)) Note (Ok (old.end.handed + 1)) ∷ calls_at p (history_of s n D))) live_is (answered_onward (payload_of (dirty_answer live index)) (old.end.handed + 1) end.2 (λ M stood. answer s p limits M stood)))) in
      subst (λ q. Stands s n limits (record { sessions = set st.sessions q new; table = t; dirty = dirty; pins = st.pins; work = st.work; awaited = st.awaited; calls = st.calls; jobs = st.jobs }) (Act p k ∷ D)) (sym at)
      (note_stands s n p k (items.Dirty index) D there refl (λ rep. ap (λ found. turns_after s n p rep found D (turns s n rep D)) there)
      (set st.sessions (p - 1) new) dirty st.pins t stands same (entered_have s st.table t st.pins.bundles st.dirty dirty index p live keeps enters (users_there stands st.table stands.table.kept))
      (ends_changed s n limits st.sessions (history_of s n D) (history_of s n (Act p k ∷ D)) p new stands.ends end.0 after (λ q other. sym (calls_elsewhere front there q (nat_eq_equiv.symm p q ∙ other))))
      (listed_answered stands index front there dirty live (sym live_is) enters)
      (λ f. stands.pins f ∙ ap (λ sent_items. sum_by f (map bundle sent_items)) (sym (bundles_answered front there)))
      (act_is front limits (dirty_refusal stands index front ∙ free)))

module _ {s n : ℕ} {limits : Limits} {st : State} {D : List Deed} (stands : Stands s n limits st D) (p place : ℕ) (at : place ≡ p - 1) (old new : Roomy) (is : old ≡ get_or st.sessions place old) where
  -- where memory is wanted nothing is changed
  pub dirty_kept : is_peer s n p ≡ true → (dirty : List Listing) → ((i c : ℕ) → lists dirty i c ≡ lists st.dirty i c) → new.end ≡ old.end
      → Stands s n limits (record { sessions = set st.sessions place new; table = st.table; dirty = dirty; pins = st.pins; work = st.work; awaited = st.awaited; calls = st.calls; jobs = st.jobs }) D
  dirty_kept peer dirty same end_same =
      let seen : old ≡ get_or st.sessions (p - 1) old = subst (λ q. old ≡ get_or st.sessions q old) at is in
      let end = end_there s n limits st.sessions (history_of s n D) p old stands.ends peer seen in
      subst (λ q. Stands s n limits (record { sessions = set st.sessions q new; table = st.table; dirty = dirty; pins = st.pins; work = st.work; awaited = st.awaited; calls = st.calls; jobs = st.jobs }) D) (sym at)
      record {
        ends = ends_kept s n limits st.sessions (history_of s n D) p old new stands.ends end.0 end.1 end_same;
        table = stands.table;
        listed = λ i c. same i c ∙ stands.listed i c;
        pins = stands.pins;
        work = stands.work;
        awaited = stands.awaited;
        calls = stands.calls;
        jobs = stands.jobs;
        right = stands.right;
      }
