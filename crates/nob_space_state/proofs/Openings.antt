-- The opening of a session anew: what the looks tell, and the state that it leaves. The session had closed and nothing of
-- its peer's objects was left, so that what the words say anew is what the state has.
use Rattle.std.proofs.Common.{◌≡◌, ℕ, ◌+◌, ◌-◌, ◌≤◌, ◌<◌, max, Bool, true, false, cond, not, ◌&&◌, ◌||◌, ◌==◌, List, [], ◌∷◌, ◌++◌, length, map, filter, flat_map, get_or, slice_get, Some, None, Ok, Err, refl, sym, ap, subst, ◌∙◌, arith, if◌then◌else◌}
use Rattle.std.specs.Prelude.{nat_lt, nat_le}
use lib.ListN.{set}
use Rattle.std.specs.List.{AllByRecursion, list_any, sum_by}
use Rattle.std.proofs.lemmas.Bool.Decides.{nat_tests, Decides-eqb}
use Rattle.std.proofs.lemmas.Cmp.{nat_eq_equiv}
use Rattle.nob_ids.specs.Names.{is_counted, is_same}
use Rattle.nob_ids.specs.declared.limits.Limits.{Limits}
use Rattle.nob_ids.specs.declared.wire_rep.WireRep.{WireRep}
use Rattle.nob_item.specs.Kinds.{counted_in, refs_carried}
use Rattle.nob_pins.specs.Bundles.{Pinned, CountsOf, count_of}
use Rattle.nob_session.specs.Calls.{reopening_of}
use Rattle.nob_session.specs.Stands as session
use Rattle.nob_session.specs.Onward.{StandsOnward}
use Rattle.nob_session.proofs.Alike.{onward_is}
use Rattle.nob_session.specs.Stands.{End, Roomy}
use Rattle.nob_table_rows.proofs.Same.{same_is, same_laws}
use Rattle.nob_table_rows.specs.Counts as counts
use Rattle.nob_table_rows.specs.Standings as standings
use Rattle.nob_table_rows.specs.Standings.{unknown, is_known}
use Rattle.nob_table_rows.specs.declared.standing.Standing.{Standing}
use Rattle.nob_table_rows.specs.declared.standing.State.TheVariants as states
use Rattle.nob_table.specs.Table.{Table, standing, is_of, KnowsOf}
use Rattle.nob_model_session.specs.End.{last_session, number, seen}
use Rattle.nob_model_session.specs.declared.entry.EndEntry.TheVariants as ends
use Rattle.nob_model_types.specs.declared.answer.Answer.TheVariants as answers
use Rattle.nob_model_types.specs.declared.refusal.Refusal.TheVariants as refusals
use Rattle.nob_model_types.specs.declared.deed.Deed.{Deed}
use Rattle.nob_model_types.specs.declared.deed.Deed.TheVariants.{Open}
use Rattle.nob_model_types.specs.declared.message.Message.{Message}
use Rattle.nob_model_types.specs.declared.message.RefCopy.{RefCopy}
use Rattle.nob_model_types.specs.declared.turns.Turns.{Turns}
use Rattle.nob_model_types.specs.Sessions.{is_peer, closed}
use Rattle.nob_model_types.specs.Turns.{turns, no_turns, is_own, is_lost}
use Rattle.nob_model_work.specs.declared.work.Outstanding.{Outstanding}
use Rattle.nob_model_work.specs.Work.{work}
use Rattle.nob_model_history.specs.declared.history.History.{History}
use Rattle.nob_model_history.specs.declared.transit.SentItem.{SentItem}
use Rattle.nob_model_history.specs.Ends.{calls_at}
use Rattle.nob_model_history.specs.Histories.{history_of}
use Rattle.nob_model_history.specs.Holds.{times, gains, releases, lent_in, is_held}
use Rattle.nob_model_history.specs.Listing.{is_listed, is_entered}
use Rattle.nob_model_history.specs.Transit as transit
use Rattle.nob_model_acting.specs.Sending.{◌or_else◌, refuse_if, unless}
use Rattle.nob_model_history.proofs.Anew.{calls_opened, calls_other, dirties_opened, work_opened}
use Rattle.nob_model_history.proofs.Sessions.{number_is}
use Rattle.nob_model.proofs.Reopening.{open_peer, open_closed, open_unheld, open_uncarried, opened_bundles}
use Rattle.nob_model.specs.Lists.{IsRightDeed}
use Rattle.nob_model.specs.Opening.{is_owned_by, holds_any_of, still_held, next_number, right_open}
use Rattle.nob_model.specs.Opening as opening
use Rattle.nob_space_messages.specs.Waiting.{carries_any_of, waits_for, due_to_all, is_awaited}
use Rattle.nob_space_state.specs.Shows.{TableStands, far_state}
use Rattle.nob_space_state.proofs.Marked.{used_still}
use Rattle.nob_space_state.specs.Looks.{has_closed}
use Rattle.nob_space_state.specs.Opening.{next_of}
use Rattle.nob_space_state.specs.Parts.{State, with_sessions}
use Rattle.nob_space_state.specs.Stands.{Stands, AreAwaited, bundle}
use Rattle.nob_space_state.proofs.Awaited.{same_lost}
use Rattle.nob_space_state.proofs.Ends.{end_there, ends_changed}
use Rattle.nob_space_state.proofs.Finishing.{none_of, counted_append}
use Rattle.nob_space_state.proofs.Pinned.{pins_there}
use Rattle.nob_space_state.proofs.Rows.{differ}
use Rattle.nob_space_state.proofs.Running.{filter_counted}
use Rattle.nob_space_state.proofs.Counted.{times_both}
use Rattle.nob_space_state.proofs.Told.{closed_there, held_there}

-- ---- lists

or_true : (b : Bool) → (b || true) ≡ true
or_true true = refl
or_true false = refl

-- a test that a reference passes is passed in each list with that reference
passed_there : (test : WireRep → Bool) (rep : WireRep) (reps : List WireRep) → test rep ≡ true → 1 ≤ times rep reps → list_any test reps ≡ true
passed_there test rep [] is some = absurd (omega (arith, some))
passed_there test rep (other ∷ reps) is some = elim (is_same rep other) as (λ b. is_same rep other ≡ b → 1 ≤ length (cond b (other ∷ filter (is_same rep) reps) (filter (is_same rep) reps)) → (test other || list_any test reps) ≡ true) [
  | true ↦ λ same _. let here : test other ≡ true = subst (λ (w : WireRep). test w ≡ true) (same_is rep other same) is in rw here refl
  | false ↦ λ _ rest. rw (passed_there test rep reps is rest) (or_true (test other))
] refl some

more_times : (rep other : WireRep) (reps : List WireRep) → 1 ≤ times rep reps → 1 ≤ times rep (other ∷ reps)
more_times rep other reps some = elim (is_same rep other) as (λ b. 1 ≤ length (cond b (other ∷ filter (is_same rep) reps) (filter (is_same rep) reps))) [ true ↦ omega arith | false ↦ some ]

first_times : (rep : WireRep) (reps : List WireRep) → 1 ≤ times rep (rep ∷ reps)
first_times rep reps = rw (same_laws.refl rep) (omega arith)

-- and a test that none of them passes isn't
none_passes : (test : WireRep → Bool) (reps : List WireRep) → ((rep : WireRep) → 1 ≤ times rep reps → test rep ≡ false) → list_any test reps ≡ false
none_passes test [] none = refl
none_passes test (rep ∷ reps) none = rw (none rep (first_times rep reps)) (none_passes test reps (λ other some. none other (more_times other rep reps some)))

-- ---- what the table, the pins and the messages that wait have

some_held : (total : ℕ) → not (total == 0) ≡ true → 1 ≤ total
some_held total held = grind (arith, nat_tests, held)

-- what is held came into the hand or is lent
held_stands : (s : ℕ) (rep : WireRep) (h : History) → is_held s rep h ≡ true → 1 ≤ times rep (gains h.deeds ++ lent_in s h.work)
held_stands s rep h held =
    let some = some_held ((times rep (gains h.deeds) + times rep (lent_in s h.work)) - times rep (releases h.deeds)) held in
    let both = times_both rep (gains h.deeds) (lent_in s h.work) in
    omega (arith, some, both)

-- what items carry is counted
carried_counted : (items : List SentItem) → AllByRecursion (λ (w : WireRep). is_counted w ≡ true) (flat_map (λ (one : SentItem). counted_in one.item) items)
carried_counted [] = tt
carried_counted (one ∷ items) = counted_append (counted_in one.item) (flat_map (λ (one : SentItem). counted_in one.item) items) (filter_counted (refs_carried one.item)) (carried_counted items)

known_holds : (has : Bool) → is_known (if has then states.Lost else states.Unknown) ≡ true → has ≡ true
known_holds true e = refl
known_holds false e = absurd (cc)

-- the table has nothing of an object of the owner, another space
abbrev pub KnowsNoneOf : Table → ℕ → Type 0
KnowsNoneOf t p = (rep : WireRep) → is_of t p rep ≡ true → standing t rep ≡ unknown

-- no reference of the owner is in transit
abbrev pub CountsNoneOf : List Pinned → ℕ → Type 0
CountsNoneOf bundles p = (rep : WireRep) → rep.owner ≡ p → count_of bundles rep ≡ 0

module _ {s n : ℕ} {limits : Limits} {st : State} {D : List Deed} (stands : Stands s n limits st D) (p : ℕ) (peer : is_peer s n p ≡ true) where
  -- which references are far ones of the peer's
  is_of_there : (rep : WireRep) → rep.owner == p ≡ true → is_of st.table p rep ≡ true
  is_of_there rep its =
      let other : rep.owner == st.table.me ≡ false = subst (λ me. rep.owner == me ≡ false) (sym stands.table.me) (grind (arith, nat_tests, its, peer)) in
      rw (its, other) refl

  not_own : (rep : WireRep) → rep.owner == p ≡ true → is_own s rep ≡ false
  not_own rep its = grind (arith, nat_tests, its, peer)

  -- what the table knows of the peer's once its session has closed is held
  pub known_held : closed p D ≡ true → KnowsOf st.table p → holds_any_of s p (history_of s n D) ≡ true
  known_held shut knows =
      let rep : WireRep = knows.rep in
      let its : rep.owner == p ≡ true = elim (rep.owner == p) as (λ b. (b && not (rep.owner == st.table.me)) ≡ true → b ≡ true) [ true ↦ λ _. refl | false ↦ λ e. absurd (cc) ] knows.of in
      let cut : closed rep.owner D ≡ true = subst (λ q. closed q D ≡ true) (sym ((Decides-eqb rep.owner p).0 its)) shut in
      let stood : (standing st.table rep).state ≡ (if counts.is_held (standing st.table rep).counts then states.Lost else states.Unknown) = stands.table.far rep knows.counted (not_own rep its) ∙ ap (λ b. far_state b (counts.is_held (standing st.table rep).counts) (turns s n rep D)) cut in
      let has : counts.is_held (standing st.table rep).counts ≡ true = known_holds (counts.is_held (standing st.table rep).counts) (sym (ap is_known stood) ∙ knows.known) in
      let held : is_held s rep (history_of s n D) ≡ true = sym (held_there stands rep knows.counted) ∙ has in
      passed_there (λ w. is_owned_by p w && is_held s w (history_of s n D)) rep (gains D ++ lent_in s (work s n D)) (rw (its, knows.counted, held) refl) (held_stands s rep (history_of s n D) held)

  -- where it knows nothing of the peer's nothing is held
  pub unknown_unheld : KnowsNoneOf st.table p → holds_any_of s p (history_of s n D) ≡ false
  unknown_unheld none = none_passes (λ w. is_owned_by p w && is_held s w (history_of s n D)) (gains D ++ lent_in s (work s n D)) (λ rep some.
      elim (rep.owner == p) as (λ b. rep.owner == p ≡ b → ((b && is_counted rep) && is_held s rep (history_of s n D)) ≡ false) [
        | true ↦ λ its. elim (is_counted rep) as (λ b. is_counted rep ≡ b → (b && is_held s rep (history_of s n D)) ≡ false) [
          | true ↦ λ counted. sym (held_there stands rep counted) ∙ ap (λ (it : Standing). counts.is_held it.counts) (none rep (is_of_there rep its))
          | false ↦ λ _. refl
        ] refl
        | false ↦ λ _. refl
      ] refl)

  -- a reference of the peer's in transit is pinned
  pub counted_pinned : CountsOf st.pins.bundles p → list_any (is_owned_by p) (transit.pinned (history_of s n D)) ≡ true
  counted_pinned counted =
      let rep : WireRep = counted.0 in
      let pins_are : count_of st.pins.bundles rep ≡ times rep (transit.pinned (history_of s n D)) = pins_there stands rep in
      let many = counted.2 in
      let some : 1 ≤ times rep (transit.pinned (history_of s n D)) = omega (arith, pins_are, many) in
      let its : rep.owner == p ≡ true = (Decides-eqb rep.owner p).1 counted.1 in
      let is : is_counted rep ≡ true = elim (is_counted rep) as (λ b. is_counted rep ≡ b → b ≡ true) [ true ↦ λ _. refl | false ↦ λ un. absurd (let none = none_of rep (transit.pinned (history_of s n D)) un (carried_counted (transit.bundles (history_of s n D))) in omega (arith, none, some)) ] refl in
      passed_there (is_owned_by p) rep (transit.pinned (history_of s n D)) (rw (its, is) refl) some

  -- and without one nothing of the peer's is
  pub uncounted_unpinned : CountsNoneOf st.pins.bundles p → list_any (is_owned_by p) (transit.pinned (history_of s n D)) ≡ false
  uncounted_unpinned none = none_passes (is_owned_by p) (transit.pinned (history_of s n D)) (λ rep some.
      elim (rep.owner == p) as (λ b. rep.owner == p ≡ b → (b && is_counted rep) ≡ false) [
        | true ↦ λ its. absurd (let free = sym (pins_there stands rep) ∙ none rep ((Decides-eqb rep.owner p).0 its) in omega (arith, free, some))
        | false ↦ λ _. refl
      ] refl)

  -- what the messages that wait carry
  pub carried_is : list_any (carries_any_of p) st.work.waiting ≡ list_any (opening.carries_any_of p) (work s n D).waiting
  carried_is = ap (λ (w : Outstanding). list_any (carries_any_of p) w.waiting) stands.work

-- ---- what is answered

module _ (s n p : ℕ) (h : History) where
  pub open_of_none : is_peer s n p ≡ false → right_open s n p h ≡ Err refusals.NoPeer
  unfolding right_open
  open_of_none stranger = λ i. unless (refuse_if (not (stranger i)) refusals.NoPeer or_else (refuse_if (not (closed p h.deeds)) refusals.StillOpen or_else (refuse_if (still_held s p h) refusals.StillHeld or_else refuse_if (nat_lt last_session (next_number p h)) refusals.Limit))) (answers.Opened (next_number p h))

  module _ (peer : is_peer s n p ≡ true) where
    pub open_of_open : closed p h.deeds ≡ false → right_open s n p h ≡ Err refusals.StillOpen
    unfolding right_open
    open_of_open still = λ i. unless (refuse_if (not (peer i)) refusals.NoPeer or_else (refuse_if (not (still i)) refusals.StillOpen or_else (refuse_if (still_held s p h) refusals.StillHeld or_else refuse_if (nat_lt last_session (next_number p h)) refusals.Limit))) (answers.Opened (next_number p h))

    module _ (shut : closed p h.deeds ≡ true) where
      pub open_of_held : still_held s p h ≡ true → right_open s n p h ≡ Err refusals.StillHeld
      unfolding right_open
      open_of_held held = λ i. unless (refuse_if (not (peer i)) refusals.NoPeer or_else (refuse_if (not (shut i)) refusals.StillOpen or_else (refuse_if (held i) refusals.StillHeld or_else refuse_if (nat_lt last_session (next_number p h)) refusals.Limit))) (answers.Opened (next_number p h))

      pub open_of_last : still_held s p h ≡ false → nat_lt last_session (next_number p h) ≡ true → right_open s n p h ≡ Err refusals.Limit
      unfolding right_open
      open_of_last free last = λ i. unless (refuse_if (not (peer i)) refusals.NoPeer or_else (refuse_if (not (shut i)) refusals.StillOpen or_else (refuse_if (free i) refusals.StillHeld or_else refuse_if (last i) refusals.Limit))) (answers.Opened (next_number p h))

      pub open_of_free : still_held s p h ≡ false → nat_lt last_session (next_number p h) ≡ false → right_open s n p h ≡ Ok (answers.Opened (next_number p h))
      unfolding right_open
      open_of_free free more = λ i. unless (refuse_if (not (peer i)) refusals.NoPeer or_else (refuse_if (not (shut i)) refusals.StillOpen or_else (refuse_if (free i) refusals.StillHeld or_else refuse_if (more i) refusals.Limit))) (answers.Opened (next_number p h))

-- what is held in one of the three ways
held_first : (a b c : Bool) → a ≡ true → (a || b || c) ≡ true
held_first a b c e = rw e refl

held_second : (a b c : Bool) → b ≡ true → (a || b || c) ≡ true
held_second a b c e = elim a as (λ x. (x || b || c) ≡ true) [ true ↦ refl | false ↦ rw e refl ]

held_third : (a b c : Bool) → c ≡ true → (a || b || c) ≡ true
held_third a b c e = elim a as (λ x. (x || b || c) ≡ true) [ true ↦ refl | false ↦ rw e (or_true b) ]

-- the number of the next session of an end
next_is : (s n p : ℕ) (limits : Limits) (D : List Deed) (e : End) → StandsOnward s p limits e (calls_at p (history_of s n D)) → next_of e ≡ next_number p (history_of s n D)
next_is s n p limits D e stood =
    let at : e.number ≡ number (calls_at p (history_of s n D)) = ap (λ (one : End). one.number) (onward_is stood) in
    let latest : max e.number e.seen ≡ max (number (calls_at p (history_of s n D))) (seen (calls_at p (history_of s n D))) = ap (λ (one : End). one.seen) (onward_is stood) in
    let next : max (e.number + 1) e.seen ≡ max (number (calls_at p (history_of s n D)) + 1) (seen (calls_at p (history_of s n D))) = omega (arith, at, latest) in
    next ∙ ap (λ k. max (k + 1) (seen (calls_at p (history_of s n D)))) (number_is s n p D)

above_last : (k : ℕ) → last_session < k → nat_lt last_session k ≡ true
above_last k far = grind (arith, nat_tests, far)

within_last : (k : ℕ) → k ≤ last_session → nat_lt last_session k ≡ false
within_last k low = grind (arith, nat_tests, low)

module _ {s n : ℕ} {limits : Limits} {st : State} {D : List Deed} (stands : Stands s n limits st D) (p : ℕ) (peer : is_peer s n p ≡ true) where
  pub open_of_open_there : has_closed st.sessions p ≡ false → right_open s n p (history_of s n D) ≡ Err refusals.StillOpen
  open_of_open_there still = open_of_open s n p (history_of s n D) peer (sym (closed_there stands p) ∙ still)

  module _ (cut : has_closed st.sessions p ≡ true) where
    shut : closed p D ≡ true
    shut = sym (closed_there stands p) ∙ cut

    pub open_of_known : KnowsOf st.table p → right_open s n p (history_of s n D) ≡ Err refusals.StillHeld
    open_of_known knows = open_of_held s n p (history_of s n D) peer shut (held_first (holds_any_of s p (history_of s n D)) _ _ (known_held stands p peer shut knows))

    pub open_of_counted : CountsOf st.pins.bundles p → right_open s n p (history_of s n D) ≡ Err refusals.StillHeld
    open_of_counted counted = open_of_held s n p (history_of s n D) peer shut (held_second (holds_any_of s p (history_of s n D)) _ _ (counted_pinned stands p peer counted))

    pub open_of_carried : list_any (carries_any_of p) st.work.waiting ≡ true → right_open s n p (history_of s n D) ≡ Err refusals.StillHeld
    open_of_carried carried = open_of_held s n p (history_of s n D) peer shut (held_third (holds_any_of s p (history_of s n D)) (list_any (is_owned_by p) (transit.pinned (history_of s n D))) _ (sym (carried_is stands p peer) ∙ carried))

    module _ (none : KnowsNoneOf st.table p) (uncounted : CountsNoneOf st.pins.bundles p) (uncarried : list_any (carries_any_of p) st.work.waiting ≡ false) where
      unheld : still_held s p (history_of s n D) ≡ false
      unheld = λ i. unknown_unheld stands p peer none i || uncounted_unpinned stands p peer uncounted i || (sym (carried_is stands p peer) ∙ uncarried) i

      module _ (end : Roomy) (is : end ≡ get_or st.sessions (p - 1) end) where
        next_there : next_of end.end ≡ next_number p (history_of s n D)
        next_there = next_is s n p limits D end.end (end_there s n limits st.sessions (history_of s n D) p end stands.ends peer is).2

        pub open_of_full : last_session < next_of end.end → right_open s n p (history_of s n D) ≡ Err refusals.Limit
        open_of_full far = open_of_last s n p (history_of s n D) peer shut unheld (above_last (next_number p (history_of s n D)) (subst (λ k. last_session < k) next_there far))

        pub open_of_next : (k : ℕ) → k ≡ next_of end.end → k ≤ last_session → right_open s n p (history_of s n D) ≡ Ok (answers.Opened k)
        open_of_next k next low =
            let same : k ≡ next_number p (history_of s n D) = next ∙ next_there in
            open_of_free s n p (history_of s n D) peer shut unheld (within_last (next_number p (history_of s n D)) (subst (λ j. j ≤ last_session) same low))
            ∙ ap (λ j. Ok (answers.Opened j)) (sym same)

-- the end with a peer has closed
closed_end : (sessions : List Roomy) (p : ℕ) (end : Roomy) → 1 ≤ p → slice_get sessions (p - 1) ≡ Some end → has_closed sessions p ≡ true → session.is_open_end end.end ≡ false
closed_end sessions p end low there cut =
    let some : p == 0 ≡ false = grind (arith, nat_tests, low) in
    let test : not (session.is_open_end end.end) ≡ true = sym (rw (some, there) refl) ∙ cut in
    elim (session.is_open_end end.end) as (λ b. not b ≡ true → b ≡ false) [ true ↦ λ e. absurd (cc) | false ↦ λ _. refl ] test

-- a closed end opens under its next number
next_opens : (e : End) (k : ℕ) → session.is_open_end e ≡ false → k ≡ next_of e → k ≤ last_session → reopening_of k e ≡ Ok tt
next_opens e k shut next low =
    let above : nat_lt e.number k ≡ true = grind (arith, nat_tests, next) in
    let seen_below : nat_le e.seen k ≡ true = grind (arith, nat_tests, next) in
    let last : nat_le k last_session ≡ true = grind (arith, nat_tests, low) in
    rw (shut, above, seen_below, last) refl

-- so the end with a peer does, wherever its next number was read
pub may_open : {s n : ℕ} {limits : Limits} {st : State} {D : List Deed} → Stands s n limits st D → (p : ℕ) → is_peer s n p ≡ true → has_closed st.sessions p ≡ true
    → (one end : Roomy) → one ≡ get_or st.sessions (p - 1) one → end ≡ get_or st.sessions (p - 1) end → (k : ℕ) → k ≡ next_of one.end → k ≤ last_session → reopening_of k end.end ≡ Ok tt
may_open {s} {n} {limits} {st} {D} stands p peer cut one end one_is end_is k next low =
    let there = end_there s n limits st.sessions (history_of s n D) p end stands.ends peer end_is in
    let first = end_there s n limits st.sessions (history_of s n D) p one stands.ends peer one_is in
    next_opens end.end k (closed_end st.sessions p end there.0 there.1 cut) (next ∙ next_is s n p limits D one.end first.2 ∙ sym (next_is s n p limits D end.end there.2)) low

-- ---- one deed more

opened_listed : (here cut entered : Bool) → (here ≡ true → cut ≡ true) → (not (if here then false else cut) && (if here then false else entered)) ≡ (not cut && entered)
opened_listed true true entered shut = refl
opened_listed true false entered shut = absurd (let bad : false ≡ true = shut refl in cc)
opened_listed false cut entered shut = refl

-- what isn't held of a session that closed, the table doesn't know
far_unknown : (cut has : Bool) (t : Turns) → cut ≡ true → has ≡ false → far_state cut has t ≡ states.Unknown
far_unknown cut has t shut free = λ i. far_state (shut i) (free i) t

-- no copy of the peer's, none that waits for a reference of the peer's
none_waits : (p : ℕ) (rep : WireRep) (copies : List RefCopy) → rep.owner ≡ p → AllByRecursion (λ (copy : RefCopy). (p == copy.rep.owner) ≡ false) copies → length (filter (waits_for rep) copies) ≡ 0
none_waits p rep [] its none = refl
none_waits p rep (copy ∷ copies) its none =
    let apart : rep.owner == copy.rep.owner ≡ false = subst (λ q. q == copy.rep.owner ≡ false) (sym its) none.0 in
    rw apart (none_waits p rep copies its none.1)

none_due : (p : ℕ) (rep : WireRep) (messages : List Message) → rep.owner ≡ p → AllByRecursion (λ (m : Message). AllByRecursion (λ (copy : RefCopy). (p == copy.rep.owner) ≡ false) m.copies) messages → due_to_all rep messages ≡ 0
none_due p rep [] its none = refl
none_due p rep (message ∷ messages) its none =
    let here = none_waits p rep message.copies its none.0 in
    let rest = none_due p rep messages its none.1 in
    omega (arith, here, rest)

nothing_due : (many : ℕ) → many ≡ 0 → nat_lt 0 many ≡ false
nothing_due many none = grind (arith, nat_tests, none)

module _ {s n : ℕ} {limits : Limits} {st : State} {D : List Deed} (stands : Stands s n limits st D) (p k : ℕ) (its : IsRightDeed s n limits (Open p k) D) where
  -- nobody is listed anew, nor given up
  listed_then : (index client : ℕ) → is_listed s index client (Open p k ∷ D) ≡ is_listed s index client D
  listed_then index client = opened_listed (p == client) (closed client D) (is_entered s index client D) (λ same. subst (λ q. closed q D ≡ true) ((Decides-eqb p client).0 same) (open_closed s n limits p k D its))

  bundles_then : transit.bundles (history_of s n (Open p k ∷ D)) ≡ transit.bundles (history_of s n D)
  bundles_then = opened_bundles s n limits p k D (its, stands.right)

  -- the table knows nothing of the peer's
  unknown_then : (rep : WireRep) → is_counted rep ≡ true → is_own s rep ≡ false → rep.owner ≡ p → (standing st.table rep).state ≡ states.Unknown
  unknown_then rep counted own is =
      stands.table.far rep counted own
      ∙ far_unknown (closed rep.owner D) (counts.is_held (standing st.table rep).counts) (turns s n rep D)
      (subst (λ q. closed q D ≡ true) (sym is) (open_closed s n limits p k D its))
      (held_there stands rep counted ∙ open_unheld s n limits p k D its rep is counted)

  -- so it shows what is said of the new session too
  table_then : TableStands s n st.table (history_of s n (Open p k ∷ D))
  table_then = record {
    me = stands.table.me;
    exported = stands.table.exported;
    live = stands.table.live;
    far = λ rep counted own. elim (p == rep.owner) as (λ b. p == rep.owner ≡ b → (standing st.table rep).state ≡ far_state (if b then false else closed rep.owner D) (counts.is_held (standing st.table rep).counts) (if b then no_turns else turns s n rep D)) [
      | true ↦ λ same. unknown_then rep counted own (sym ((Decides-eqb p rep.owner).0 same))
      | false ↦ λ other. stands.table.far rep counted own
    ] refl;
    hands = stands.table.hands;
    loans = λ rep counted. stands.table.loans rep counted ∙ ap (λ w. times rep (lent_in s w)) (sym (work_opened s n p k D));
    passed = stands.table.passed;
    dirties = stands.table.dirties ∙ ap length (sym (dirties_opened s n p k D));
    places = λ rep. stands.table.places rep ∙ ap (λ reps. if standings.is_surrogate (standing st.table rep).state then transit.last_place rep reps else None) (sym (dirties_opened s n p k D));
    kept = used_still s st.table st.table (history_of s n D) (history_of s n (Open p k ∷ D)) (λ rep. refl) bundles_then listed_then stands.table.kept;
  }

  -- what is awaited is others', and these are lost as before
  awaited_then : AreAwaited s n st.awaited st.work.waiting (Open p k ∷ D)
  awaited_then = λ rep due. elim (p == rep.owner) as (λ b. p == rep.owner ≡ b → is_awaited st.awaited rep ≡ not (is_lost s n rep (Open p k ∷ D))) [
    | true ↦ λ same.
        let uncarried : AllByRecursion (λ (m : Message). AllByRecursion (λ (copy : RefCopy). (p == copy.rep.owner) ≡ false) m.copies) st.work.waiting = subst (λ (w : Outstanding). AllByRecursion (λ (m : Message). AllByRecursion (λ (copy : RefCopy). (p == copy.rep.owner) ≡ false) m.copies) w.waiting) (sym stands.work) (open_uncarried s n limits p k D its) in
        absurd (differ due (nothing_due (due_to_all rep st.work.waiting) (none_due p rep st.work.waiting (sym ((Decides-eqb p rep.owner).0 same)) uncarried)))
    | false ↦ λ other. stands.awaited rep due ∙ ap not (sym (same_lost s n rep D (Open p k ∷ D) (rw other refl) (rw other refl)))
  ] refl

  -- after the opening
  pub opened_stands : (old new : Roomy) → old ≡ get_or st.sessions (p - 1) old → StandsOnward s p limits new.end (ends.Reopen k (Ok tt) ∷ calls_at p (history_of s n D))
      → Stands s n limits (with_sessions (set st.sessions (p - 1) new) st) (Open p k ∷ D)
  opened_stands old new is after =
      let there = end_there s n limits st.sessions (history_of s n D) p old stands.ends (open_peer s n limits p k D its) is in
      record {
        ends = ends_changed s n limits st.sessions (history_of s n D) (history_of s n (Open p k ∷ D)) p new stands.ends there.0
            (subst (λ calls. StandsOnward s p limits new.end calls) (sym (calls_opened s n p k D)) after)
            (λ q other. sym (calls_other s n q p k D (nat_eq_equiv.symm p q ∙ other)));
        table = table_then;
        listed = λ index client. stands.listed index client ∙ sym (listed_then index client);
        pins = λ f. stands.pins f ∙ ap (λ items. sum_by f (map bundle items)) (sym bundles_then);
        work = stands.work ∙ sym (work_opened s n p k D);
        awaited = awaited_then;
        calls = stands.calls;
        jobs = stands.jobs;
        right = (its, stands.right);
      }
