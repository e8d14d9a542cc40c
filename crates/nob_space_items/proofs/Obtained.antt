-- Acting on a DirtyOk: the loans that it makes can be made, and what it leaves.
use Rattle.std.proofs.Common.{◌≡◌, ℕ, ◌+◌, ◌-◌, ◌*◌, ◌<◌, ◌≤◌, Bool, true, false, not, ◌&&◌, List, ◌∷◌, map, get_or, Some, if◌then◌else◌, refl, sym, ap, subst, ◌∙◌, arith}
use Prim.Native.Nat.{zero, suc}
use lib.ListN.{set, replicate}
use Rattle.std.specs.List.{AllByRecursion}
use Rattle.nob_ids.specs.Names.{is_same}
use Rattle.nob_ids.specs.declared.limits.Limits.{Limits}
use Rattle.nob_ids.specs.declared.wire_rep.WireRep.{WireRep}
use Rattle.nob_item.specs.declared.item.Item.TheVariants as items
use Rattle.nob_model_session.specs.declared.entry.EndEntry.{EndEntry}
use Rattle.nob_model_session.specs.declared.entry.EndEntry.TheVariants as ends
use Rattle.nob_session.specs.Stands as session
use Rattle.nob_session.specs.Stands.{Roomy}
use Rattle.nob_table_rows.specs.declared.standing.Standing.{Standing}
use Rattle.nob_table_rows.specs.declared.standing.State.TheVariants as states
use Rattle.nob_table_rows.specs.Standings.{in_state, is_known}
use Rattle.nob_table.specs.Table.{Table, standing, Becomes, ChangeLeaves}
use Rattle.nob_table_rows.proofs.Same.{same_laws, same_is}
use Rattle.nob_model_types.specs.declared.deed.Deed.{Deed}
use Rattle.nob_model_types.specs.declared.deed.Deed.TheVariants.{Act}
use Rattle.nob_model_types.specs.declared.message.Message.{Message}
use Rattle.nob_model_types.specs.Sessions.{item_at}
use Rattle.nob_model_work.specs.declared.work.Outstanding.{Outstanding}
use Rattle.nob_model_work.specs.Work.{work, with_loans}
use Rattle.nob_model_history.specs.Histories.{history_of}
use Rattle.nob_model_history.specs.Holds.{hand, times, lent_in}
use Rattle.nob_model_acting.specs.Acting.{act_refusal}
use Rattle.nob_model.specs.Lists.{IsRightDeed}
use Rattle.nob_model.specs.Right.{own_ref}
use Rattle.nob_space_state.specs.Parts.{State}
use Rattle.nob_space_state.specs.Shows.{TableShows}
use Rattle.nob_space_state.specs.Stands.{Stands, AreAwaited}
use Rattle.nob_space_items.specs.Fronts.{IsFront}
use Rattle.nob_space_messages.specs.Waiting.{granted_message, due_to_all, is_awaited, is_due_in}
use Rattle.nob_space_items.specs.Lending.{CanLend, Lends}
use Rattle.nob_space_items.proofs.Bounded.{lent_low}
use Rattle.nob_space_items.proofs.Crowds.{few_messages}
use Rattle.nob_space_items.proofs.Granted.{of_times, with_granted, granted_loans, granted_lends, times_replicate}
use Rattle.nob_space_items.proofs.Lost.{granted_awaited, pending_open}
use Rattle.nob_space_items.proofs.Owners.{awaited, others_lost, pending_known, answered_shows, answer_stands}
use Rattle.nob_space_items.proofs.Taken.{act_is, front_is, note_loans}

all_replicate : {A : Type 0} (P : A → Type 0) (x : A) → P x → (count : ℕ) → AllByRecursion P (replicate count x)
all_replicate P x its zero = tt
all_replicate P x its (suc count) = (its, all_replicate P x its count)

-- a reference stands in a list of one and the same only where it is that
some_same : (b : Bool) (count : ℕ) → 1 ≤ (if b then count else 0) → b ≡ true
some_same true count some = refl
some_same false count some = absurd (omega (arith, some))

module _ {s n p k : ℕ} {limits : Limits} {st : State} {D : List Deed} (stands : Stands s n limits st D) (index : ℕ) (front : IsFront s n p k (items.DirtyOk index) D) where
  its_right : IsRightDeed s n limits (Act p k) D
  unfolding act_refusal
  its_right = act_is front limits refl

  -- the outstanding work, as the state has it, with the loans made
  pub loans_there : with_granted (own_ref p index) st.work ≡ with_loans s n (Act p k ∷ D) (work s n D)
  loans_there =
      let there : item_at p k D ≡ Some (items.DirtyOk index) = front_is front limits stands.right in
      ap (with_granted (own_ref p index)) stands.work ∙ sym (granted_loans index front there limits stands.right)

  work_then : with_granted (own_ref p index) st.work ≡ work s n (Act p k ∷ D)
  work_then =
      let there : item_at p k D ≡ Some (items.DirtyOk index) = front_is front limits stands.right in
      loans_there ∙ sym (note_loans s n p k (items.DirtyOk index) D there refl)

  -- with the loans made a reference is lent so often and no more
  lent_then : (rep : WireRep) → times rep (lent_in s st.work) + of_times (own_ref p index) rep (due_to_all (own_ref p index) st.work.waiting) ≤ 33 * 65536
  lent_then rep =
      let after = granted_lends s (own_ref p index) rep st.work in
      let same : times rep (lent_in s (with_granted (own_ref p index) st.work)) ≡ times rep (lent_in s (work s n (Act p k ∷ D))) = ap (λ W. times rep (lent_in s W)) work_then in
      let low = lent_low s n rep (Act p k ∷ D) in
      let few = few_messages s n limits (Act p k ∷ D) (its_right, stands.right) in
      omega (arith, after, same, low, few)

  -- where it is due it is awaited
  pub due_awaited : is_due_in st.work.waiting (own_ref p index) ≡ true → is_awaited st.awaited (own_ref p index) ≡ true
  due_awaited due = stands.awaited (own_ref p index) due ∙ ap not (pending_open s n (own_ref p index) D front.peer front.is_open (awaited true index front))

  -- the loans that are due can be counted
  pub due_low : due_to_all (own_ref p index) st.work.waiting < 18446744073709551616
  due_low =
      let low = lent_then (own_ref p index) in
      let here : of_times (own_ref p index) (own_ref p index) (due_to_all (own_ref p index) st.work.waiting) ≡ due_to_all (own_ref p index) st.work.waiting = rw (same_laws.refl (own_ref p index)) refl in
      omega (arith, low, here)

  module _ (u : Table) (leaves : ChangeLeaves st.table u) (becomes : Becomes st.table u (own_ref p index) (in_state states.Granted (standing st.table (own_ref p index)))) where
    granted_there : standing u (own_ref p index) ≡ in_state states.Granted (standing st.table (own_ref p index))
    granted_there = becomes (own_ref p index) ∙ rw (same_laws.refl (own_ref p index)) refl

    -- the reference can be lent as often as is due
    pub can_lend : CanLend u (replicate (due_to_all (own_ref p index) st.work.waiting) (own_ref p index))
    can_lend = record {
      known = all_replicate (λ rep. is_known (standing u rep).state ≡ true) (own_ref p index) (ap (λ (it : Standing). is_known it.state) granted_there) (due_to_all (own_ref p index) st.work.waiting);
      room = λ rep some.
          let often = times_replicate (own_ref p index) rep (due_to_all (own_ref p index) st.work.waiting) in
          let same : is_same (own_ref p index) rep ≡ true = some_same (is_same (own_ref p index) rep) (due_to_all (own_ref p index) st.work.waiting) (subst (λ m. 1 ≤ m) often some) in
          let is : own_ref p index ≡ rep = same_is (own_ref p index) rep same in
          let here : (standing u rep).counts.lent ≡ (standing st.table (own_ref p index)).counts.lent = ap (λ (r : WireRep). (standing u r).counts.lent) (sym is) ∙ ap (λ (it : Standing). it.counts.lent) granted_there in
          let loans : (standing st.table (own_ref p index)).counts.lent ≡ times (own_ref p index) (lent_in s st.work) = stands.table.loans (own_ref p index) (pending_known stands true index front).0 ∙ ap (λ W. times (own_ref p index) (lent_in s W)) (sym stands.work) in
          let moved : times (own_ref p index) (lent_in s st.work) ≡ times rep (lent_in s st.work) = ap (λ (r : WireRep). times r (lent_in s st.work)) is in
          let low = lent_then rep in
          omega (arith, often, here, loans, moved, low);
    }

    -- the table once it is
    pub granted_shows : (v : Table) → Lends u v (replicate (due_to_all (own_ref p index) st.work.waiting) (own_ref p index)) → TableShows s n v (history_of s n (Act p k ∷ D)) (λ rep. hand rep D) (λ rep. times rep (lent_in s (with_granted (own_ref p index) st.work)))
    granted_shows v lends =
        subst (λ (loans : WireRep → ℕ). TableShows s n v (history_of s n (Act p k ∷ D)) (λ rep. hand rep D) loans)
        (λ i rep. (ap (λ W. times rep (lent_in s W) + times rep (replicate (due_to_all (own_ref p index) st.work.waiting) (own_ref p index))) (sym stands.work)
        ∙ ap (λ m. times rep (lent_in s st.work) + m) (times_replicate (own_ref p index) rep (due_to_all (own_ref p index) st.work.waiting))
        ∙ sym (granted_lends s (own_ref p index) rep st.work)) i)
        (lends.shows s n (history_of s n (Act p k ∷ D)) (λ rep. hand rep D) (λ rep. times rep (lent_in s (work s n D))) (answered_shows stands true index front u leaves becomes))

module _ {s n p k : ℕ} {limits : Limits} {st : State} {D : List Deed} (stands : Stands s n limits st D) (place : ℕ) (at : place ≡ p - 1) (old new : Roomy) (is : old ≡ get_or st.sessions place old)
    (take : (me peer : ℕ) (limits : Limits) (L : List EndEntry) → session.Stands me peer limits old.end L → session.Stands me peer limits new.end (ends.Take ∷ L)) where
  -- after a DirtyOk
  pub granted_stands : (index : ℕ) → IsFront s n p k (items.DirtyOk index) D → (u v : Table) → ChangeLeaves st.table u → Becomes st.table u (own_ref p index) (in_state states.Granted (standing st.table (own_ref p index)))
      → (count : ℕ) → count ≡ due_to_all (own_ref p index) st.work.waiting → Lends u v (replicate count (own_ref p index)) → (waiting : List Message) → waiting ≡ map (granted_message (own_ref p index)) st.work.waiting
      → (awaits : List WireRep) → ((other : WireRep) → is_awaited awaits other ≡ (not (is_same (own_ref p index) other) && is_awaited st.awaited other))
      → Stands s n limits (record { sessions = set st.sessions place new; table = v; dirty = st.dirty; pins = st.pins; work = record { waiting = waiting; ready = st.work.ready; running = st.work.running; replies = st.work.replies; calls = st.work.calls }; awaited = awaits; calls = st.calls; jobs = st.jobs }) (Act p k ∷ D)
  granted_stands index front u v leaves becomes count due lends waiting made awaits ends =
      let there : item_at p k D ≡ Some (items.DirtyOk index) = front_is front limits stands.right in
      let W : Outstanding = record { waiting = waiting; ready = st.work.ready; running = st.work.running; replies = st.work.replies; calls = st.work.calls } in
      let made_work : W ≡ with_granted (own_ref p index) st.work = λ i. record { waiting = made i; ready = st.work.ready; running = st.work.running; replies = st.work.replies; calls = st.work.calls } in
      answer_stands stands place at old new is take true index front v W awaits
      (subst (λ ms. AreAwaited s n awaits ms (Act p k ∷ D)) (sym made) (granted_awaited s n D (Act p k ∷ D) (own_ref p index) (others_lost true index front there) st.awaited awaits st.work.waiting stands.awaited ends))
      (subst (λ V. TableShows s n v (history_of s n (Act p k ∷ D)) (λ rep. hand rep D) (λ rep. times rep (lent_in s V))) (sym made_work)
      (granted_shows stands index front u leaves becomes v (subst (λ c. Lends u v (replicate c (own_ref p index))) due lends)))
      (made_work ∙ loans_there stands index front)
