-- Acting on what an owner answered to a Dirty: what it leaves.
use Rattle.std.proofs.Common.{◌≡◌, ℕ, ◌+◌, ◌-◌, Bool, true, false, not, ◌&&◌, ◌||◌, ◌==◌, List, [], ◌∷◌, length, map, get_or, Some, None, if◌then◌else◌, refl, sym, ap, subst, ◌∙◌}
use lib.ListN.{set}
use Rattle.std.specs.List.{sum_by}
use Rattle.std.proofs.lemmas.Cmp.{nat_eq_equiv}
use Rattle.nob_ids.specs.Names.{is_same, is_counted}
use Rattle.nob_ids.specs.declared.limits.Limits.{Limits}
use Rattle.nob_ids.specs.declared.wire_rep.WireRep.{WireRep}
use Rattle.nob_item.specs.declared.item.Item.{Item}
use Rattle.nob_item.specs.declared.item.Item.TheVariants as items
use Rattle.nob_model_session.specs.declared.entry.EndEntry.{EndEntry}
use Rattle.nob_model_session.specs.declared.entry.EndEntry.TheVariants as ends
use Rattle.nob_session.specs.Stands as session
use Rattle.nob_session.specs.Stands.{Roomy}
use Rattle.nob_session.proofs.Alike.{stepped_onward}
use Rattle.nob_table_rows.specs.declared.standing.Standing.{Standing}
use Rattle.nob_table_rows.specs.declared.standing.State.{State as TableState}
use Rattle.nob_table_rows.specs.declared.standing.State.TheVariants as states
use Rattle.nob_table_rows.specs.Counts.{is_held}
use Rattle.nob_table_rows.specs.Standings as standings
use Rattle.nob_table_rows.specs.Standings.{in_state}
use Rattle.nob_table.specs.Table.{Table, standing, Becomes, ChangeLeaves}
use Rattle.nob_table_rows.proofs.Same.{same_laws}
use Rattle.nob_model_types.specs.declared.deed.Deed.{Deed}
use Rattle.nob_model_types.specs.declared.deed.Deed.TheVariants.{Act}
use Rattle.nob_model_types.specs.declared.message.Message.{Message}
use Rattle.nob_model_types.specs.declared.turns.OwnerAnswer.{OwnerAnswer}
use Rattle.nob_model_types.specs.declared.turns.OwnerAnswer.TheVariants as said
use Rattle.nob_model_types.specs.declared.turns.Turns.{Turns}
use Rattle.nob_model_types.specs.Sessions.{closed, item_at}
use Rattle.nob_model_types.specs.Turns.{turns, turns_after, is_own, is_lost, is_pending, is_granted, is_refused, names, with_answer}
use Rattle.nob_model_types.specs.Messages.{loan_after, copy_after, message_after}
use Rattle.nob_model_work.specs.declared.work.Outstanding.{Outstanding}
use Rattle.nob_model_work.specs.Work.{work, with_loans, run_after}
use Rattle.nob_model_work.specs.Gifts.{gifts_of_act}
use Rattle.nob_model_history.specs.Histories.{history_of}
use Rattle.nob_model_history.specs.Holds.{hand, times, lent_in}
use Rattle.nob_model_history.specs.Listing.{is_entered, is_entered_after, is_listed}
use Rattle.nob_model_history.specs.Transit as transit
use Rattle.nob_model_history.proofs.Turning.{after_answer}
use Rattle.nob_model_history.proofs.Turning as turning
use Rattle.nob_model_history.proofs.Unasked.{is_message}
use Rattle.nob_model_acting.specs.Acting.{act_refusal, fault_of}
use Rattle.nob_model.specs.Right.{own_ref}
use Rattle.nob_model.proofs.Made.{loans_made}
use Rattle.nob_space_state.specs.Parts.{State}
use Rattle.nob_space_state.specs.Shows.{TableShows, behind, far_state}
use Rattle.nob_space_messages.specs.Waiting.{is_awaited}
use Rattle.nob_space_state.specs.Stands.{Stands, AreAwaited, bundle}
use Rattle.nob_space_state.proofs.Awaited.{same_lost}
use Rattle.nob_space_state.proofs.Shows.{one_row}
use Rattle.nob_space_items.specs.Fronts.{IsFront}
use Rattle.nob_space_items.specs.Judging.{awaits_answer}
use Rattle.nob_space_items.proofs.Judged.{awaits_there}
use Rattle.nob_space_items.proofs.Lost.{far_lost, refused_awaited}
use Rattle.nob_space_items.proofs.Noted.{bundles_stay, fault_none, gives_none, listed_is, not_false}
use Rattle.nob_space_items.proofs.Taken.{act_is, front_is, ends_taken, note_dirties, note_loans}
use Rattle.nob_space_state.proofs.Marked.{used_still}

-- the state of a reference that its owner answered so
abbrev pub answered_state : OwnerAnswer → TableState
answered_state said.Pending = states.Pending
answered_state said.Granted = states.Granted
answered_state said.Refused = states.Refused

-- the note that answers so
abbrev pub answer_note : Bool → ℕ → Item
answer_note true index = items.DirtyOk index
answer_note false index = items.DirtyNo index

-- what a note that answers so says
abbrev pub said_by : Bool → OwnerAnswer
said_by true = said.Granted
said_by false = said.Refused

-- a reference is named where it is the one to the object of an index of p
names_same : (p index : ℕ) (rep : WireRep) → names rep p index ≡ is_same (own_ref p index) rep
names_same p index rep = λ i. nat_eq_equiv.symm rep.owner p i && nat_eq_equiv.symm rep.index index i

note_is : (granted : Bool) (index : ℕ) → is_message (Some (answer_note granted index)) ≡ false
note_is true index = refl
note_is false index = refl

-- an answer without a fault is awaited
module _ {s n p k : ℕ} {D : List Deed} (granted : Bool) (index : ℕ) (front : IsFront s n p k (answer_note granted index) D) where
  pub awaited : is_pending (turns s n (own_ref p index) D) ≡ true
  unfolding fault_of
  awaited = split granted front.sound
    where
      split : (b : Bool) → fault_of s n p (answer_note b index) (history_of s n D) ≡ None → is_pending (turns s n (own_ref p index) D) ≡ true
      split true none = not_false (is_pending (turns s n (own_ref p index) D)) (fault_none _ _ none)
      split false none = not_false (is_pending (turns s n (own_ref p index) D)) (fault_none _ _ none)

  module _ (there : item_at p k D ≡ Some (answer_note granted index)) where
    -- the turns of the reference have that answer more, and the others stay
    pub turned : (rep : WireRep) → turns s n rep (Act p k ∷ D) ≡ (if is_same (own_ref p index) rep then with_answer (said_by granted) (turns s n rep D) else turns s n rep D)
    turned rep =
        ap (λ found. turns_after s n p rep found D (turns s n rep D)) there
        ∙ elim granted as (λ b. turns_after s n p rep (Some (answer_note b index)) D (turns s n rep D) ≡ (if names rep p index then with_answer (said_by b) (turns s n rep D) else turns s n rep D)) [ true ↦ refl | false ↦ refl ]
        ∙ ap (λ b. if b then with_answer (said_by granted) (turns s n rep D) else turns s n rep D) (names_same p index rep)

    -- and every other one is lost as before
    pub others_lost : (rep : WireRep) → is_same (own_ref p index) rep ≡ false → is_lost s n rep (Act p k ∷ D) ≡ is_lost s n rep D
    others_lost rep differs = same_lost s n rep D (Act p k ∷ D) refl (turned rep ∙ ap (λ b. if b then with_answer (said_by granted) (turns s n rep D) else turns s n rep D) differs)

-- ---- the table

-- how a reference stands that was answered
answered_far : (granted held : Bool) (t : Turns) → is_pending t ≡ true → answered_state (said_by granted) ≡ far_state false held (with_answer (said_by granted) t)
answered_far true held t pending = let stands = after_answer said.Granted t pending in rw (stands.0, stands.1) refl
answered_far false held t pending = let stands = after_answer said.Refused t pending in rw (stands.0, stands.1, stands.2) refl

-- a pending reference is a surrogate that isn't live, and so is one that was answered
pending_is : (state : TableState) → standings.is_pending state ≡ true → (standings.is_live state ≡ false) × (standings.is_surrogate state ≡ true)
pending_is states.Unknown e = absurd (cc)
pending_is states.Live e = absurd (cc)
pending_is states.Withdrawn e = absurd (cc)
pending_is states.Pending e = (refl, refl)
pending_is states.Granted e = absurd (cc)
pending_is states.Refused e = absurd (cc)
pending_is states.Lost e = absurd (cc)

answered_is : (granted : Bool) → (standings.is_live (answered_state (said_by granted)) ≡ false) × (standings.is_surrogate (answered_state (said_by granted)) ≡ true)
answered_is true = (refl, refl)
answered_is false = (refl, refl)

not_first : (b c : Bool) → (not b && c) ≡ true → (b ≡ false) × (c ≡ true)
not_first true c e = absurd (cc)
not_first false c e = (refl, e)

-- an owner's answer lists nobody
module _ {s n p k : ℕ} {D : List Deed} (granted : Bool) (index : ℕ) (front : IsFront s n p k (answer_note granted index) D) (there : item_at p k D ≡ Some (answer_note granted index)) where
  entered : (b own : Bool) (i c : ℕ) → (if own then is_entered_after s i (Some (answer_note b index)) D (is_entered s i c D) else is_entered s i c D) ≡ is_entered s i c D
  entered true true i c = refl
  entered false true i c = refl
  entered b false i c = refl

  pub answer_listed : (i c : ℕ) → is_listed s i c (Act p k ∷ D) ≡ is_listed s i c D
  answer_listed i c = listed_is s n p k (answer_note granted index) D there i c ∙ ap (λ b. not (closed c D) && b) (entered granted (p == c) i c)

module _ {s n p k : ℕ} {limits : Limits} {st : State} {D : List Deed} (stands : Stands s n limits st D) (granted : Bool) (index : ℕ) (front : IsFront s n p k (answer_note granted index) D) where
  -- the table has the reference pending
  pub pending_known : (not (index == 0) ≡ true) × (standings.is_pending (standing st.table (own_ref p index)).state ≡ true)
  pending_known =
      let both : awaits_answer p index st ≡ true = awaits_there stands p index front.peer front.is_open ∙ awaited granted index front in
      let parts = not_first (index == 0) (standings.is_pending (standing st.table (own_ref p index)).state) both in
      (ap not parts.0, parts.1)

  -- the table once it has the answer: the loans are what they were
  pub answered_shows : (u : Table) → ChangeLeaves st.table u → Becomes st.table u (own_ref p index) (in_state (answered_state (said_by granted)) (standing st.table (own_ref p index)))
      → TableShows s n u (history_of s n (Act p k ∷ D)) (λ rep. hand rep D) (λ rep. times rep (lent_in s (work s n D)))
  unfolding gifts_of_act
  answered_shows u leaves becomes =
      let there : item_at p k D ≡ Some (answer_note granted index) = front_is front limits stands.right in
      let was = pending_is (standing st.table (own_ref p index)).state pending_known.1 in
      let is = answered_is granted in
      let after : Standing = in_state (answered_state (said_by granted)) (standing st.table (own_ref p index)) in
      let dirties = note_dirties s n p k (answer_note granted index) D there (note_is granted index) in
      let gives : gifts_of_act s n p D (Some (answer_note granted index)) ≡ [] = elim granted as (λ b. gifts_of_act s n p D (Some (answer_note b index)) ≡ []) [ true ↦ refl | false ↦ refl ] in
      let none = gives_none s n p k (answer_note granted index) D there gives in
      let settles : (j : ℕ) → transit.is_settle_of j (Some (answer_note granted index)) ≡ false = λ j. elim granted as (λ b. transit.is_settle_of j (Some (answer_note b index)) ≡ false) [ true ↦ refl | false ↦ refl ] in
      record {
        me = leaves.objects.me ∙ stands.table.me;
        exported = leaves.objects.exported ∙ stands.table.exported;
        live = λ i. one_row (λ other it. standings.is_live it.state ≡ standings.is_live (standing st.table other).state) (own_ref p index) (standing st.table) (standing u) after becomes (is.0 ∙ sym was.0) (λ other differs. refl) (own_ref s i) ∙ stands.table.live i;
        far = one_row (λ other it. is_counted other ≡ true → is_own s other ≡ false → it.state ≡ far_state (closed other.owner D) (is_held it.counts) (turns s n other (Act p k ∷ D))) (own_ref p index) (standing st.table) (standing u) after becomes
            (λ counted away.
            answered_far granted (is_held after.counts) (turns s n (own_ref p index) D) (awaited granted index front)
            ∙ ap (λ b. far_state b (is_held after.counts) (with_answer (said_by granted) (turns s n (own_ref p index) D))) (sym front.is_open)
            ∙ ap (far_state (closed p D) (is_held after.counts)) (sym (turned granted index front there (own_ref p index) ∙ ap (λ b. if b then with_answer (said_by granted) (turns s n (own_ref p index) D) else turns s n (own_ref p index) D) (same_self (own_ref p index)))))
            (λ other differs counted away. stands.table.far other counted away ∙ ap (far_state (closed other.owner D) (is_held (standing st.table other).counts)) (sym (turned granted index front there other ∙ ap (λ b. if b then with_answer (said_by granted) (turns s n other D) else turns s n other D) differs)));
        hands = one_row (λ other it. is_counted other ≡ true → it.counts.hand ≡ hand other D) (own_ref p index) (standing st.table) (standing u) after becomes (stands.table.hands (own_ref p index)) (λ other differs. stands.table.hands other);
        loans = one_row (λ other it. is_counted other ≡ true → it.counts.lent ≡ times other (lent_in s (work s n D))) (own_ref p index) (standing st.table) (standing u) after becomes (stands.table.loans (own_ref p index)) (λ other differs. stands.table.loans other);
        passed = stands.table.passed;
        dirties = ap (λ k. stands.table.passed + k) leaves.surrogates.dirties ∙ stands.table.dirties ∙ ap length (sym dirties);
        places = λ other. ap (behind stands.table.passed) (leaves.surrogates.places other) ∙ stands.table.places other
            ∙ ap (λ b. if b then transit.place other (history_of s n D) else None) (sym (one_row (λ w it. standings.is_surrogate it.state ≡ standings.is_surrogate (standing st.table w).state) (own_ref p index) (standing st.table) (standing u) after becomes (is.1 ∙ sym was.1) (λ w differs. refl) other))
            ∙ ap (λ reps. if standings.is_surrogate (standing u other).state then transit.last_place other reps else None) (sym dirties);
        kept = used_still s st.table u (history_of s n D) (history_of s n (Act p k ∷ D)) leaves.objects.kept (bundles_stay s n p k (answer_note granted index) D there settles none) (answer_listed granted index front there) stands.table.kept;
      }
    where
      same_self : (rep : WireRep) → is_same rep rep ≡ true
      same_self rep = rw (nat_eq_equiv.refl rep.owner) (nat_eq_equiv.refl rep.index)

module _ {s n p k : ℕ} {limits : Limits} {st : State} {D : List Deed} (stands : Stands s n limits st D) (place : ℕ) (at : place ≡ p - 1) (old new : Roomy) (is : old ≡ get_or st.sessions place old)
    (take : (me peer : ℕ) (limits : Limits) (L : List EndEntry) → session.Stands me peer limits old.end L → session.Stands me peer limits new.end (ends.Take ∷ L)) where
  -- the state with the answer, once its loans are made
  pub answer_stands : (granted : Bool) (index : ℕ) → IsFront s n p k (answer_note granted index) D → (t : Table) (W : Outstanding) (awaits : List WireRep)
      → AreAwaited s n awaits W.waiting (Act p k ∷ D) → TableShows s n t (history_of s n (Act p k ∷ D)) (λ rep. hand rep D) (λ rep. times rep (lent_in s W)) → W ≡ with_loans s n (Act p k ∷ D) (work s n D)
      → Stands s n limits (record { sessions = set st.sessions place new; table = t; dirty = st.dirty; pins = st.pins; work = W; awaited = awaits; calls = st.calls; jobs = st.jobs }) (Act p k ∷ D)
  unfolding gifts_of_act act_refusal
  answer_stands granted index front t W awaits are shows loans =
      let there : item_at p k D ≡ Some (answer_note granted index) = front_is front limits stands.right in
      let gives : gifts_of_act s n p D (Some (answer_note granted index)) ≡ [] = elim granted as (λ b. gifts_of_act s n p D (Some (answer_note b index)) ≡ []) [ true ↦ refl | false ↦ refl ] in
      let none = gives_none s n p k (answer_note granted index) D there gives in
      let settles : (j : ℕ) → transit.is_settle_of j (Some (answer_note granted index)) ≡ false = λ j. elim granted as (λ b. transit.is_settle_of j (Some (answer_note b index)) ≡ false) [ true ↦ refl | false ↦ refl ] in
      let free : act_refusal s n p (answer_note granted index) (history_of s n D) ≡ None = elim granted as (λ b. act_refusal s n p (answer_note b index) (history_of s n D) ≡ None) [ true ↦ refl | false ↦ refl ] in
      let outstanding : W ≡ work s n (Act p k ∷ D) = loans ∙ sym (note_loans s n p k (answer_note granted index) D there (note_is granted index)) in
      subst (λ q. Stands s n limits (record { sessions = set st.sessions q new; table = t; dirty = st.dirty; pins = st.pins; work = W; awaited = awaits; calls = st.calls; jobs = st.jobs }) (Act p k ∷ D)) (sym at)
      record {
        ends = ends_taken s n p k D limits st.sessions old new none stands.ends front.peer (subst (λ q. old ≡ get_or st.sessions q old) at is) (λ before. stepped_onward ends.Take refl before (λ M stood. take s p limits M stood));
        table = subst (λ V. TableShows s n t (history_of s n (Act p k ∷ D)) (λ rep. hand rep D) (λ rep. times rep (lent_in s V))) outstanding shows;
        listed = λ i c. stands.listed i c ∙ sym (answer_listed granted index front there i c);
        pins = λ f. stands.pins f ∙ ap (λ sent_items. sum_by f (map bundle sent_items)) (sym (bundles_stay s n p k (answer_note granted index) D there settles none));
        work = outstanding;
        awaited = are;
        calls = stands.calls;
        jobs = stands.jobs;
        right = (act_is front limits free, stands.right);
      }

-- ---- a refusal

-- what was pending is granted neither before nor after a refusal
still_unusable : (t : Turns) → is_pending t ≡ true → is_granted (with_answer said.Refused t) ≡ is_granted t
still_unusable t pending = (after_answer said.Refused t pending).1 ∙ sym ((turning.waiting_stands t (turning.pending_waits t pending)).1)

module _ {s n p k : ℕ} {D : List Deed} (index : ℕ) (front : IsFront s n p k (items.DirtyNo index) D) (there : item_at p k D ≡ Some (items.DirtyNo index)) where
  granted_same : (rep : WireRep) → is_granted (turns s n rep (Act p k ∷ D)) ≡ is_granted (turns s n rep D)
  granted_same rep = ap is_granted (turned false index front there rep) ∙ elim (is_same (own_ref p index) rep) as (λ b. is_same (own_ref p index) rep ≡ b → is_granted (if b then with_answer said.Refused (turns s n rep D) else turns s n rep D) ≡ is_granted (turns s n rep D)) [
    | true ↦ λ same. still_unusable (turns s n rep D) (subst (λ (w : WireRep). is_pending (turns s n w D) ≡ true) (turning.same_ref (own_ref p index) rep same) (awaited false index front))
    | false ↦ λ _. refl
  ] refl

  -- no loan can be made now that couldn't be made before
  pub refused_loans : with_loans s n (Act p k ∷ D) (work s n D) ≡ work s n D
  unfolding with_loans message_after run_after copy_after
  refused_loans =
      ap (λ (all : WireRep → Bool). record {
        waiting = map (λ message. record { from = message.from; session = message.session; number = message.number; item = message.item; copies = map (λ copy. record { rep = copy.rep; loan = loan_after (is_own s copy.rep || (all copy.rep && not (closed copy.rep.owner D))) copy.loan }) message.copies }) (work s n D).waiting;
        ready = map (λ message. record { from = message.from; session = message.session; number = message.number; item = message.item; copies = map (λ copy. record { rep = copy.rep; loan = loan_after (is_own s copy.rep || (all copy.rep && not (closed copy.rep.owner D))) copy.loan }) message.copies }) (work s n D).ready;
        running = map (λ run. record { job = run.job; message = record { from = run.message.from; session = run.message.session; number = run.message.number; item = run.message.item; copies = map (λ copy. record { rep = copy.rep; loan = loan_after (is_own s copy.rep || (all copy.rep && not (closed copy.rep.owner D))) copy.loan }) run.message.copies } }) (work s n D).running;
        replies = map (λ message. record { from = message.from; session = message.session; number = message.number; item = message.item; copies = map (λ copy. record { rep = copy.rep; loan = loan_after (is_own s copy.rep || (all copy.rep && not (closed copy.rep.owner D))) copy.loan }) message.copies }) (work s n D).replies;
        calls = (work s n D).calls;
      }) (λ i rep. granted_same rep i)
      ∙ loans_made s n D

  -- the reference is lost
  refused_lost : is_lost s n (own_ref p index) (Act p k ∷ D) ≡ true
  refused_lost =
      far_lost s n (own_ref p index) (Act p k ∷ D) front.peer front.is_open
      ∙ ap is_refused (turned false index front there (own_ref p index) ∙ ap (λ b. if b then with_answer said.Refused (turns s n (own_ref p index) D) else turns s n (own_ref p index) D) (same_laws.refl (own_ref p index)))
      ∙ (after_answer said.Refused (turns s n (own_ref p index) D) (awaited false index front)).2

module _ {s n p k : ℕ} {limits : Limits} {st : State} {D : List Deed} (stands : Stands s n limits st D) (place : ℕ) (at : place ≡ p - 1) (old new : Roomy) (is : old ≡ get_or st.sessions place old)
    (take : (me peer : ℕ) (limits : Limits) (L : List EndEntry) → session.Stands me peer limits old.end L → session.Stands me peer limits new.end (ends.Take ∷ L)) where
  -- after a DirtyNo
  pub refused_stands : (index : ℕ) → IsFront s n p k (items.DirtyNo index) D → (t : Table) → ChangeLeaves st.table t → Becomes st.table t (own_ref p index) (in_state states.Refused (standing st.table (own_ref p index)))
      → (waiting : List Message) → waiting ≡ st.work.waiting → (awaits : List WireRep) → ((other : WireRep) → is_awaited awaits other ≡ (not (is_same (own_ref p index) other) && is_awaited st.awaited other))
      → Stands s n limits (record { sessions = set st.sessions place new; table = t; dirty = st.dirty; pins = st.pins; work = record { waiting = waiting; ready = st.work.ready; running = st.work.running; replies = st.work.replies; calls = st.work.calls }; awaited = awaits; calls = st.calls; jobs = st.jobs }) (Act p k ∷ D)
  refused_stands index front t leaves becomes waiting same awaits ends =
      let there : item_at p k D ≡ Some (items.DirtyNo index) = front_is front limits stands.right in
      let W : Outstanding = record { waiting = waiting; ready = st.work.ready; running = st.work.running; replies = st.work.replies; calls = st.work.calls } in
      let kept : W ≡ work s n D = (λ i. record { waiting = same i; ready = st.work.ready; running = st.work.running; replies = st.work.replies; calls = st.work.calls }) ∙ stands.work in
      answer_stands stands place at old new is take false index front t W awaits
      (subst (λ ms. AreAwaited s n awaits ms (Act p k ∷ D)) (sym same) (refused_awaited s n D (Act p k ∷ D) (own_ref p index) (others_lost false index front there) st.awaited awaits st.work.waiting stands.awaited ends (refused_lost index front there)))
      (subst (λ V. TableShows s n t (history_of s n (Act p k ∷ D)) (λ rep. hand rep D) (λ rep. times rep (lent_in s V))) (sym kept) (answered_shows stands false index front t leaves becomes))
      (kept ∙ sym (refused_loans index front there))
