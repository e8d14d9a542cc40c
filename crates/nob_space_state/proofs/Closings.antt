-- The closing of a session: what it gives back, and the state that it leaves.
use Rattle.std.proofs.Common.{◌≡◌, ℕ, ◌+◌, ◌-◌, ◌≤◌, Bool, true, false, cond, not, ◌&&◌, ◌||◌, ◌==◌, List, [], ◌∷◌, ◌++◌, map, filter, flat_map, get_or, slice_get, None, Ok, Err, Some, refl, sym, ap, subst, ◌∙◌, arith, if◌then◌else◌}
use lib.ListN.{set}
use Rattle.std.specs.List.{AllByRecursion, sum_by}
use Rattle.std.proofs.lemmas.Bool.Decides.{nat_tests}
use Rattle.std.proofs.lemmas.Cmp.{nat_eq_equiv}
use Rattle.std.proofs.lemmas.List.Sorted.{sum_by-IsPermutation}
use Rattle.std.proofs.lemmas.List.Sums.{sum_by-cons}
use Rattle.nob_ids.specs.Names.{is_counted}
use Rattle.nob_ids.specs.declared.limits.Limits.{Limits}
use Rattle.nob_ids.specs.declared.reason.Reason.{Reason}
use Rattle.nob_ids.specs.declared.reason.Reason.TheVariants.{Asked}
use Rattle.nob_ids.specs.declared.wire_rep.WireRep.{WireRep}
use Rattle.nob_dirty.specs.declared.sets.Listing.{Listing}
use Rattle.nob_dirty.specs.Sets.{lists, LeavesAll}
use Rattle.nob_pins.specs.Bundles.{Pinned, of_others, TakesOutAll}
use Rattle.nob_session.specs.Stands as session
use Rattle.nob_session.specs.Onward.{StandsOnward}
use Rattle.nob_session.proofs.Alike.{onward_is}
use Rattle.nob_session.specs.Stands.{End, Roomy}
use Rattle.nob_model_session.specs.declared.entry.EndEntry.{EndEntry}
use Rattle.nob_model_session.specs.declared.entry.Ending.{Ending}
use Rattle.nob_model_types.specs.declared.answer.Answer.TheVariants as answers
use Rattle.nob_model_types.specs.declared.refusal.Refusal.TheVariants as refusals
use Rattle.nob_table_rows.specs.Counts.{is_held}
use Rattle.nob_table_rows.specs.declared.counts.Counts.{Counts}
use Rattle.nob_table_rows.specs.declared.standing.Standing.{Standing}
use Rattle.nob_table_rows.specs.declared.standing.State.TheVariants as states
use Rattle.nob_table_rows.specs.Standings.{after_close, in_state, unknown, is_live, is_surrogate}
use Rattle.nob_table.specs.Table.{Table, standing, place_of}
use Rattle.nob_model_types.specs.declared.deed.Deed.{Deed}
use Rattle.nob_model_types.specs.declared.deed.Deed.TheVariants.{Closing}
use Rattle.nob_model_types.specs.declared.deed.Cause.{Cause}
use Rattle.nob_model_types.specs.declared.message.Loan.{Loan}
use Rattle.nob_model_types.specs.declared.message.Loan.TheVariants as loans
use Rattle.nob_model_types.specs.declared.message.Message.{Message}
use Rattle.nob_model_types.specs.declared.message.RefCopy.{RefCopy}
use Rattle.nob_model_types.specs.Messages.{is_not_from, loan_after, copy_after, message_after}
use Rattle.nob_model_types.specs.Sessions.{closed, is_peer}
use Rattle.nob_model_types.specs.Turns.{is_own, is_usable, is_granted, turns}
use Rattle.nob_model_work.specs.declared.work.Outstanding.{Outstanding}
use Rattle.nob_model_work.specs.declared.work.OwnCall.{OwnCall}
use Rattle.nob_model_work.specs.declared.work.Run.{Run}
use Rattle.nob_model_work.specs.Gifts.{gifts, gifts_of}
use Rattle.nob_model_work.specs.Work as work
use Rattle.nob_model_work.specs.Work.{work, work_after, run_after}
use Rattle.nob_model_history.specs.declared.history.History.{History}
use Rattle.nob_model_history.specs.Ends.{calls_at, call_of_closing}
use Rattle.nob_model_history.specs.Histories.{history_of}
use Rattle.nob_model_history.specs.Holds.{hand, times, loans_of, lent_in}
use Rattle.nob_model_history.specs.Listing.{is_entered, is_listed}
use Rattle.nob_model_history.specs.Transit as transit
use Rattle.nob_model_history.specs.declared.transit.SentItem.{SentItem}
use Rattle.nob_model_history.proofs.Pinning.{bundles_closed}
use Rattle.nob_model.proofs.Made.{AreFixed, all_fixed, fixed_map, work_fixed, fixed_stays}
use Rattle.nob_model.proofs.Waiting.{all_weaker}
use Rattle.nob_model.specs.Lists.{IsRightDeed}
use Rattle.nob_model.specs.Right.{own_ref, right_closing}
use Rattle.nob_space_state.specs.Returns.{is_from, lent_from}
use Rattle.nob_space_state.specs.Closing.{lent_in_vain, LosesOwner, TableLoses, ClosesDown}
use Rattle.nob_space_state.specs.Looks.{has_closed, HaveUsers}
use Rattle.nob_space_state.specs.Parts.{State, with_sessions}
use Rattle.nob_space_state.specs.Returns.{HasLent}
use Rattle.nob_space_state.specs.Shows.{TableShows, TableStands, AreUsed, behind, far_state}
use Rattle.nob_space_state.specs.Stands.{Stands, EndsStand, PinsStand, AreAwaited, bundle}
use Rattle.nob_space_state.proofs.Awaited.{closing_awaited}
use Rattle.nob_space_state.proofs.Claiming.{times_lent}
use Rattle.nob_space_state.proofs.Ends.{end_there, ends_changed}
use Rattle.nob_space_state.proofs.Finishing.{none_of, counted_append, counted_copies, counted_target, state_sound}
use Rattle.nob_space_state.proofs.Counted.{times_both}
use Rattle.nob_space_state.proofs.Running.{IsSound, AreSound, all_filter}
use Rattle.nob_space_state.proofs.Shows.{no_holds}
use Rattle.nob_space_state.proofs.Told.{closed_there}
use Rattle.nob_model_history.proofs.Inbox.{open_calls}
use Rattle.nob_space_state.proofs.Kept.{used_of, users_there}

-- ---- what messages from a space have lent

-- each reference stands among all loans as often as among those of the space's messages and of the others
from_parts : (s p : ℕ) (rep : WireRep) (messages : List Message) → times rep (flat_map (loans_of s) messages) ≡ times rep (lent_from s p messages) + times rep (flat_map (loans_of s) (filter (is_not_from p) messages))
from_parts s p rep [] = refl
from_parts s p rep (message ∷ messages) =
    let before = from_parts s p rep messages in
    let all = times_both rep (loans_of s message) (flat_map (loans_of s) messages) in
    let mine = times_both rep (loans_of s message) (lent_from s p messages) in
    let others = times_both rep (loans_of s message) (flat_map (loans_of s) (filter (is_not_from p) messages)) in
    elim (message.from == p) as (λ b. times rep (loans_of s message ++ flat_map (loans_of s) messages) ≡ times rep (flat_map (loans_of s) (cond b (message ∷ filter (is_from p) messages) (filter (is_from p) messages))) + times rep (flat_map (loans_of s) (cond (not b) (message ∷ filter (is_not_from p) messages) (filter (is_not_from p) messages)))) [
      | true ↦ omega (arith, all, before, mine)
      | false ↦ omega (arith, all, before, others)
    ]

-- all that is lent, without what was lent in vain
lent_less : (s p : ℕ) (rep : WireRep) (W : Outstanding) → times rep (lent_in s W) ≡ times rep (lent_in_vain s p W) + times rep (lent_in s (work.after_close p W))
unfolding work.after_close
lent_less s p rep W =
    let before = times_lent s rep W in
    let after = times_lent s rep (work.after_close p W) in
    let vain = times_both rep (lent_from s p W.waiting) (lent_from s p W.ready) in
    let waiting = from_parts s p rep W.waiting in
    let ready = from_parts s p rep W.ready in
    omega (arith, before, after, vain, waiting, ready)

-- what sound messages have lent is counted
counted_messages : (s n : ℕ) (messages : List Message) → AllByRecursion (IsSound s n) messages → AllByRecursion (λ (w : WireRep). is_counted w ≡ true) (flat_map (loans_of s) messages)
counted_messages s n [] all = tt
counted_messages s n (message ∷ messages) all =
    counted_append (loans_of s message) (flat_map (loans_of s) messages)
    (counted_append _ _ (counted_target s message.item) (counted_copies message.copies all.0.counted))
    (counted_messages s n messages all.1)

-- ---- the table

-- what is lost keeps its counts
lost_counts : (it : Standing) → (after_close it).counts ≡ it.counts
lost_counts it = elim (is_held it.counts) as (λ b. is_held it.counts ≡ b → (if b then in_state states.Lost it else unknown).counts ≡ it.counts) [ true ↦ λ _. refl | false ↦ λ free. sym (no_holds it.counts free) ] refl

-- and is lost as long as it is held
lost_state : (it : Standing) → (after_close it).state ≡ (if is_held (after_close it).counts then states.Lost else states.Unknown)
lost_state it = elim (is_held it.counts) as (λ b. (if b then in_state states.Lost it else unknown).state ≡ (if b then states.Lost else states.Unknown)) [ true ↦ refl | false ↦ refl ] ∙ ap (λ (c : Counts). if is_held c then states.Lost else states.Unknown) (sym (lost_counts it))

-- and is no surrogate
lost_no_surrogate : (it : Standing) → is_surrogate (after_close it).state ≡ false
lost_no_surrogate it = elim (is_held it.counts) as (λ b. is_surrogate (if b then in_state states.Lost it else unknown).state ≡ false) [ true ↦ refl | false ↦ refl ]

other_space : (p q : ℕ) → q == p ≡ true → (me : ℕ) → p == me ≡ false → q == me ≡ false
other_space p q same me differs = grind (arith, nat_tests, same, differs)

module _ (t u : Table) (p : ℕ) (loses : LosesOwner t u p) where
  -- a reference to an object of the owner
  row_lost : (rep : WireRep) → rep.owner == p ≡ true → p == t.me ≡ false → standing u rep ≡ after_close (standing t rep)
  row_lost rep its other = loses.closed rep ∙ rw (its, other_space p rep.owner its t.me other) refl

  -- and any other
  row_kept : (rep : WireRep) → rep.owner == p ≡ false → standing u rep ≡ standing t rep
  row_kept rep differs = loses.closed rep ∙ rw differs refl

  -- no counts change
  counts_kept : (rep : WireRep) → p == t.me ≡ false → (standing u rep).counts ≡ (standing t rep).counts
  counts_kept rep other = elim (rep.owner == p) as (λ b. rep.owner == p ≡ b → (standing u rep).counts ≡ (standing t rep).counts) [
    | true ↦ λ its. ap (λ (it : Standing). it.counts) (row_lost rep its other) ∙ lost_counts (standing t rep)
    | false ↦ λ differs. ap (λ (it : Standing). it.counts) (row_kept rep differs)
  ] refl

-- what the table shows once the session with p has closed
lost_shows : (s n p : ℕ) (reason : Reason) (cause : Cause) (D : List Deed) (H L : WireRep → ℕ) (t u : Table) → is_peer s n p ≡ true → TableShows s n t (history_of s n D) H L → LosesOwner t u p → AreUsed s u (history_of s n (Closing p reason cause ∷ D))
    → TableShows s n u (history_of s n (Closing p reason cause ∷ D)) H L
unfolding gifts gifts_of
lost_shows s n p reason cause D H L t u peer shows loses kept =
    let not_me : p == t.me ≡ false = subst (λ me. p == me ≡ false) (sym shows.me) (grind (arith, nat_tests, peer)) in
    let not_own : s == p ≡ false = grind (arith, nat_tests, peer) in
    record {
      me = loses.me ∙ shows.me;
      exported = loses.exported ∙ shows.exported;
      live = λ index. ap (λ (it : Standing). is_live it.state) (row_kept t u p loses (own_ref s index) not_own) ∙ shows.live index;
      far = λ rep counted own. elim (rep.owner == p) as (λ b. rep.owner == p ≡ b → (standing u rep).state ≡ far_state (closed rep.owner (Closing p reason cause ∷ D)) (is_held (standing u rep).counts) (turns s n rep D)) [
        | true ↦ λ its.
            let cut : closed rep.owner (Closing p reason cause ∷ D) ≡ true = rw (nat_eq_equiv.symm p rep.owner, its) refl in
            rw cut (subst (λ (it : Standing). it.state ≡ (if is_held it.counts then states.Lost else states.Unknown)) (sym (row_lost t u p loses rep its not_me)) (lost_state (standing t rep)))
        | false ↦ λ differs.
            let kept : closed rep.owner (Closing p reason cause ∷ D) ≡ closed rep.owner D = rw (nat_eq_equiv.symm p rep.owner, differs) refl in
            rw kept (subst (λ (it : Standing). it.state ≡ far_state (closed rep.owner D) (is_held it.counts) (turns s n rep D)) (sym (row_kept t u p loses rep differs)) (shows.far rep counted own))
      ] refl;
      hands = λ rep counted. ap (λ (c : Counts). c.hand) (counts_kept t u p loses rep not_me) ∙ shows.hands rep counted;
      loans = λ rep counted. ap (λ (c : Counts). c.lent) (counts_kept t u p loses rep not_me) ∙ shows.loans rep counted;
      passed = shows.passed;
      dirties = ap (λ k. shows.passed + k) loses.dirties ∙ shows.dirties;
      places = λ rep. elim (rep.owner == p) as (λ b. rep.owner == p ≡ b → behind shows.passed (place_of u rep) ≡ (if is_surrogate (standing u rep).state then transit.place rep (history_of s n D) else None)) [
        | true ↦ λ its. ap (behind shows.passed) (loses.places rep) ∙ rw (its, row_lost t u p loses rep its not_me, lost_no_surrogate (standing t rep)) refl
        | false ↦ λ differs. ap (behind shows.passed) (loses.places rep) ∙ rw (differs, row_kept t u p loses rep differs) (shows.places rep)
      ] refl;
      kept = kept;
    }

-- ---- the outstanding work

-- a loan that isn't due, or isn't made, is the same where less can be used
loan_less : (before after : Bool) (loan : Loan) → (after ≡ true → before ≡ true) → loan_after before loan ≡ loan → loan_after after loan ≡ loan
loan_less before true loans.Due less same = let is : before ≡ true = less refl in absurd (let bad : loans.Lent ≡ loans.Due = ap (λ b. loan_after b loans.Due) (sym is) ∙ same in cc)
loan_less before false loans.Due less same = refl
loan_less before after loans.Lent less same = refl
loan_less before after loans.Never less same = refl

usable_less : (own granted here cut : Bool) → (own || (granted && not (here || cut))) ≡ true → (own || (granted && not cut)) ≡ true
usable_less true granted here cut e = refl
usable_less false true true cut e = absurd (cc)
usable_less false true false cut e = e
usable_less false false here cut e = e

module _ (s n p : ℕ) (reason : Reason) (cause : Cause) (D : List Deed) where
  copy_less : (copy : RefCopy) → copy_after s n D copy ≡ copy → copy_after s n (Closing p reason cause ∷ D) copy ≡ copy
  unfolding copy_after
  copy_less copy same = λ i. record {
    rep = copy.rep;
    loan = loan_less (is_own s copy.rep || is_usable s n copy.rep D) (is_own s copy.rep || is_usable s n copy.rep (Closing p reason cause ∷ D)) copy.loan
        (usable_less (is_own s copy.rep) (is_granted (turns s n copy.rep D)) (p == copy.rep.owner) (closed copy.rep.owner D))
        (ap (λ (c : RefCopy). c.loan) same) i;
  }

  message_less : (message : Message) → message_after s n D message ≡ message → message_after s n (Closing p reason cause ∷ D) message ≡ message
  unfolding message_after
  message_less message same =
      let copies : map (λ copy. copy_after s n (Closing p reason cause ∷ D) copy) message.copies ≡ message.copies =
      fixed_map (λ copy. copy_after s n (Closing p reason cause ∷ D) copy) message.copies
      (all_weaker (λ copy. copy_after s n D copy ≡ copy) (λ copy. copy_after s n (Closing p reason cause ∷ D) copy ≡ copy) copy_less message.copies
      (all_fixed (λ copy. copy_after s n D copy) message.copies (ap (λ (m : Message). m.copies) same))) in
      λ i. record { from = message.from; session = message.session; number = message.number; item = message.item; copies = copies i }

  run_less : (run : Run) → run_after s n D run ≡ run → run_after s n (Closing p reason cause ∷ D) run ≡ run
  unfolding run_after
  run_less run same = λ i. record { job = run.job; message = message_less run.message (ap (λ (r : Run). r.message) same) i }

  -- the outstanding work after the closing
  closed_work : work s n (Closing p reason cause ∷ D) ≡ work.after_close p (work s n D)
  unfolding work_after work.after_close
  closed_work =
      let fixed : AreFixed s n D (work s n D) = work_fixed s n D in
      let messages : (ms : List Message) → AllByRecursion (λ message. message_after s n D message ≡ message) ms → AllByRecursion (λ message. message_after s n (Closing p reason cause ∷ D) message ≡ message) ms =
      all_weaker (λ message. message_after s n D message ≡ message) (λ message. message_after s n (Closing p reason cause ∷ D) message ≡ message) message_less in
      fixed_stays s n (Closing p reason cause ∷ D) (work.after_close p (work s n D)) record {
        waiting = all_filter (λ message. message_after s n (Closing p reason cause ∷ D) message ≡ message) (is_not_from p) (work s n D).waiting (messages (work s n D).waiting fixed.waiting);
        ready = all_filter (λ message. message_after s n (Closing p reason cause ∷ D) message ≡ message) (is_not_from p) (work s n D).ready (messages (work s n D).ready fixed.ready);
        running = all_weaker (λ run. run_after s n D run ≡ run) (λ run. run_after s n (Closing p reason cause ∷ D) run ≡ run) run_less (work s n D).running fixed.running;
        replies = messages (work s n D).replies fixed.replies;
      }

-- ---- the pins

-- a sum over those that pass a test
sum_filter : {X : Type 0} (f : X → ℕ) (test : X → Bool) (xs : List X) → sum_by f (filter test xs) ≡ sum_by (λ x. cond (test x) (f x) 0) xs
sum_filter f test [] = refl
sum_filter {X} f test (x ∷ xs) =
    let rest = sum_filter f test xs in
    let all = sum_by-cons (λ (y : X). cond (test y) (f y) 0) x xs in
    let one = sum_by-cons f x (filter test xs) in
    elim (test x) as (λ b. sum_by (λ (y : X). cond (test y) (f y) 0) (x ∷ xs) ≡ cond b (f x) 0 + sum_by (λ (y : X). cond (test y) (f y) 0) xs → sum_by f (cond b (x ∷ filter test xs) (filter test xs)) ≡ sum_by (λ (y : X). cond (test y) (f y) 0) (x ∷ xs)) [
      | true ↦ λ e. omega (arith, rest, one, e)
      | false ↦ λ e. omega (arith, rest, e)
    ] all

bundles_of_others : (p : ℕ) (items : List SentItem) → filter (λ (one : Pinned). not (one.peer == p)) (map bundle items) ≡ map bundle (filter (λ (one : SentItem). not (one.to == p)) items)
bundles_of_others p [] = refl
bundles_of_others p (one ∷ items) = elim (one.to == p) as (λ b. cond (not b) (bundle one ∷ filter (λ (x : Pinned). not (x.peer == p)) (map bundle items)) (filter (λ (x : Pinned). not (x.peer == p)) (map bundle items)) ≡ map bundle (cond (not b) (one ∷ filter (λ (x : SentItem). not (x.to == p)) items) (filter (λ (x : SentItem). not (x.to == p)) items))) [
  | true ↦ bundles_of_others p items
  | false ↦ ap (λ bs. bundle one ∷ bs) (bundles_of_others p items)
]

closing_pins : (s n p : ℕ) (reason : Reason) (cause : Cause) (D : List Deed) (old new : List Pinned) → PinsStand old (history_of s n D) → TakesOutAll old new p → PinsStand new (history_of s n (Closing p reason cause ∷ D))
closing_pins s n p reason cause D old new stand takes = λ f.
    sum_by-IsPermutation f (of_others p old) new takes
    ∙ sum_filter f (λ (one : Pinned). not (one.peer == p)) old
    ∙ stand (λ one. cond (not (one.peer == p)) (f one) 0)
    ∙ sym (sum_filter f (λ (one : Pinned). not (one.peer == p)) (map bundle (transit.bundles (history_of s n D))))
    ∙ ap (sum_by f) (bundles_of_others p (transit.bundles (history_of s n D)))
    ∙ ap (λ (items : List SentItem). sum_by f (map bundle items)) (sym (bundles_closed s n p reason cause D))

-- ---- the calls on the ends, and who is listed

-- the calls on the end of the session, and on the others
closing_calls : (s n p q : ℕ) (reason : Reason) (cause : Cause) (D : List Deed) → calls_at q (history_of s n (Closing p reason cause ∷ D)) ≡ (if p == q then call_of_closing q reason cause ∷ calls_at q (history_of s n D) else calls_at q (history_of s n D))
unfolding gifts gifts_of
closing_calls s n p q reason cause D = refl

listed_less : (here cut entered : Bool) → (not here && (not cut && entered)) ≡ (not (here || cut) && entered)
listed_less true cut entered = refl
listed_less false cut entered = refl

-- ---- the whole

-- the messages that wait after a closing
thrown_waiting : (p : ℕ) (W : Outstanding) → (work.after_close p W).waiting ≡ filter (is_not_from p) W.waiting
unfolding work.after_close
thrown_waiting p W = refl

module _ {s n : ℕ} {limits : Limits} {st : State} {D : List Deed} (stands : Stands s n limits st D) (p : ℕ) where
  -- what was lent in vain, the table has
  pub vain_lent : HasLent st.table (lent_in_vain s p st.work)
  vain_lent = λ rep. elim (is_counted rep) as (λ b. is_counted rep ≡ b → times rep (lent_in_vain s p st.work) ≤ (standing st.table rep).counts.lent) [
    | true ↦ λ counted.
        let loans : (standing st.table rep).counts.lent ≡ times rep (lent_in s st.work) = stands.table.loans rep counted ∙ ap (λ W. times rep (lent_in s W)) (sym stands.work) in
        let parts = lent_less s p rep st.work in
        omega (arith, loans, parts)
    | false ↦ λ uncounted.
        let sound : AreSound s n st.work = state_sound stands 0 in
        let none = none_of rep (lent_in_vain s p st.work) uncounted
        (counted_append (lent_from s p st.work.waiting) (lent_from s p st.work.ready)
        (counted_messages s n (filter (is_from p) st.work.waiting) (all_filter (IsSound s n) (is_from p) st.work.waiting sound.waiting))
        (counted_messages s n (filter (is_from p) st.work.ready) (all_filter (IsSound s n) (is_from p) st.work.ready sound.ready))) in
        omega (arith, none)
  ] refl

  -- who is listed after the closing
  closing_listed : (reason : Reason) (cause : Cause) (dirty : List Listing) → LeavesAll st.dirty dirty p → (index client : ℕ) → lists dirty index client ≡ is_listed s index client (Closing p reason cause ∷ D)
  closing_listed reason cause dirty leaves index client = leaves index client ∙ ap (λ b. not (p == client) && b) (stands.listed index client) ∙ listed_less (p == client) (closed client D) (is_entered s index client D)

  -- the table after the closing
  closing_table : (reason : Reason) (cause : Cause) (after : State) → is_peer s n p ≡ true → TableLoses s p st.table st.pins.bundles st.dirty st.work after.table after.pins.bundles after.dirty → LeavesAll st.dirty after.dirty p → PinsStand after.pins.bundles (history_of s n (Closing p reason cause ∷ D)) → TableStands s n after.table (history_of s n (Closing p reason cause ∷ D))
  closing_table reason cause after peer table leaves pinned =
      let before = table.gives.shows s n (history_of s n D) (λ rep. hand rep D) (λ rep. times rep (lent_in s (work s n D))) stands.table in
      let have : HaveUsers s table.back st.pins.bundles st.dirty = users_there stands table.back before.kept in
      let kept : AreUsed s after.table (history_of s n (Closing p reason cause ∷ D)) = used_of s after.table after.pins.bundles after.dirty (history_of s n (Closing p reason cause ∷ D)) pinned (closing_listed reason cause after.dirty leaves) (table.kept have) in
      let shows = lost_shows s n p reason cause D (λ rep. hand rep D) (λ rep. times rep (lent_in s (work s n D)) - times rep (lent_in_vain s p st.work)) table.back after.table peer before table.loses kept in
      subst (λ (lent : WireRep → ℕ). TableShows s n after.table (history_of s n (Closing p reason cause ∷ D)) (λ rep. hand rep D) lent)
      (λ i rep. less (times rep (lent_in s (work s n D))) (times rep (lent_in_vain s p st.work)) (times rep (lent_in s (work s n (Closing p reason cause ∷ D))))
      (ap (λ W. times rep (lent_in s W)) (sym stands.work) ∙ lent_less s p rep st.work ∙ ap (λ W. times rep (lent_in_vain s p st.work) + times rep (lent_in s W)) (ap (work.after_close p) stands.work ∙ sym (closed_work s n p reason cause D))) i)
      shows
    where
      less : (a b c : ℕ) → a ≡ b + c → a - b ≡ c
      less a b c sum = omega (arith, sum)

  -- after the closing of the session with p
  pub closing_stands : (reason : Reason) (cause : Cause) (old end : Roomy) (after : State) → is_peer s n p ≡ true → IsRightDeed s n limits (Closing p reason cause) D → old ≡ get_or st.sessions (p - 1) old
      → StandsOnward s p limits end.end (call_of_closing p reason cause ∷ calls_at p (history_of s n D)) → ClosesDown s p (with_sessions (set st.sessions (p - 1) end) st) after → Stands s n limits after (Closing p reason cause ∷ D)
  closing_stands reason cause old end after peer its is stands_closed down =
      let there = end_there s n limits st.sessions (history_of s n D) p old stands.ends peer is in
      let here : calls_at p (history_of s n (Closing p reason cause ∷ D)) ≡ call_of_closing p reason cause ∷ calls_at p (history_of s n D) = closing_calls s n p p reason cause D ∙ rw (nat_eq_equiv.refl p) refl in
      record {
        ends = subst (λ (sessions : List Roomy). EndsStand s n limits sessions (history_of s n (Closing p reason cause ∷ D))) (sym down.sessions)
            (ends_changed s n limits st.sessions (history_of s n D) (history_of s n (Closing p reason cause ∷ D)) p end stands.ends there.0
            (subst (λ calls. StandsOnward s p limits end.end calls) (sym here) stands_closed)
            (λ q other. sym (closing_calls s n p q reason cause D ∙ rw (nat_eq_equiv.symm p q, other) refl)));
        table = closing_table reason cause after peer down.table down.listed (closing_pins s n p reason cause D st.pins.bundles after.pins.bundles stands.pins down.pins);
        listed = closing_listed reason cause after.dirty down.listed;
        pins = closing_pins s n p reason cause D st.pins.bundles after.pins.bundles stands.pins down.pins;
        work = down.work ∙ ap (work.after_close p) stands.work ∙ sym (closed_work s n p reason cause D);
        awaited = subst (λ (ms : List Message). AreAwaited s n after.awaited ms (Closing p reason cause ∷ D)) (sym (ap (λ (W : Outstanding). W.waiting) down.work ∙ thrown_waiting p st.work))
            (closing_awaited s n p reason cause D st.awaited after.awaited st.work.waiting peer stands.awaited down.awaited);
        calls = down.calls ∙ stands.calls;
        jobs = down.jobs ∙ stands.jobs;
        right = (its, stands.right);
      }

-- the outstanding work once messages are thrown away and calls ended
pub thrown_work : (p : ℕ) (W : Outstanding) (waiting ready : List Message) (running : List Run) (replies : List Message) (calls : List OwnCall)
    → waiting ≡ filter (is_not_from p) W.waiting → ready ≡ filter (is_not_from p) W.ready → running ≡ W.running → replies ≡ W.replies → calls ≡ map (work.call_after_close p W.replies) W.calls
    → record { waiting = waiting; ready = ready; running = running; replies = replies; calls = calls } ≡ work.after_close p W
unfolding work.after_close
thrown_work p W waiting ready running replies calls a b c d e = λ i. record { waiting = a i; ready = b i; running = c i; replies = d i; calls = e i }

-- ---- by whichever event

-- the end with a peer is open where it hasn't closed
pub open_end : (sessions : List Roomy) (p : ℕ) (end : Roomy) → 1 ≤ p → slice_get sessions (p - 1) ≡ Some end → has_closed sessions p ≡ false → session.is_open_end end.end ≡ true
open_end sessions p end low there still =
    let some : p == 0 ≡ false = grind (arith, nat_tests, low) in
    let test : not (session.is_open_end end.end) ≡ false = sym (rw (some, there) refl) ∙ still in
    elim (session.is_open_end end.end) as (λ b. not b ≡ false → b ≡ true) [ true ↦ λ _. refl | false ↦ λ e. absurd (cc) ] test

-- after a call that closed the end with p
pub ended_stands : {s n : ℕ} {limits : Limits} {st : State} {D : List Deed} → Stands s n limits st D → (p : ℕ) (reason : Reason) (cause : Cause) (entry : Ending → EndEntry) → call_of_closing p reason cause ≡ entry (record { peer = p; reason = reason })
    → (old new : Roomy) (after : State) (ending : Ending) → is_peer s n p ≡ true → old ≡ get_or st.sessions (p - 1) old → ending.reason ≡ reason → ending.peer ≡ old.end.peer
    → (StandsOnward s p limits old.end (calls_at p (history_of s n D)) → StandsOnward s p limits new.end (entry ending ∷ calls_at p (history_of s n D)))
    → ClosesDown s ending.peer (with_sessions (set st.sessions (p - 1) new) st) after → IsRightDeed s n limits (Closing p reason cause) D → Stands s n limits after (Closing p reason cause ∷ D)
ended_stands {s} {n} {limits} {st} {D} stands p reason cause entry call_is old new after ending peer is reason_is peer_is answer down its =
    let there = end_there s n limits st.sessions (history_of s n D) p old stands.ends peer is in
    let with_p : ending.peer ≡ p = peer_is ∙ ap (λ (e : End). e.peer) (onward_is there.2) in
    let one : ending ≡ record { peer = p; reason = reason } = λ i. record { peer = with_p i; reason = reason_is i } in
    closing_stands stands p reason cause old new after peer its is
    (subst (λ (call : EndEntry). StandsOnward s p limits new.end (call ∷ calls_at p (history_of s n D))) (sym call_is)
    (subst (λ (e : Ending). StandsOnward s p limits new.end (entry e ∷ calls_at p (history_of s n D))) one (answer there.2)))
    (subst (λ (q : ℕ). ClosesDown s q (with_sessions (set st.sessions (p - 1) new) st) after) with_p down)

-- what is right for a Close
pub close_of_none : (s n p : ℕ) (h : History) → is_peer s n p ≡ false → right_closing s n p h ≡ Err refusals.NoPeer
unfolding right_closing
close_of_none s n p h stranger = rw stranger refl

module _ {s n : ℕ} {limits : Limits} {st : State} {D : List Deed} (stands : Stands s n limits st D) (p : ℕ) (peer : is_peer s n p ≡ true) where
  pub close_of_closed : has_closed st.sessions p ≡ true → right_closing s n p (history_of s n D) ≡ Err refusals.Closed
  unfolding right_closing
  close_of_closed cut = rw (peer, open_calls s n p D, sym (closed_there stands p), cut) refl

  pub close_of_open : has_closed st.sessions p ≡ false → right_closing s n p (history_of s n D) ≡ Ok (answers.Closed Asked)
  unfolding right_closing
  close_of_open still = rw (peer, open_calls s n p D, sym (closed_there stands p), still) refl
