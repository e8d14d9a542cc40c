-- Clean: what is right is what the state tells, and what it leaves.
use Rattle.std.proofs.Common.{◌≡◌, ℕ, ◌+◌, ◌-◌, ◌<◌, Bool, true, false, not, ◌&&◌, ◌||◌, nat_le, List, [], ◌∷◌, length, get_or, None, Ok, Err, IsOk, if◌then◌else◌, refl, sym, ap, subst, ◌∙◌, arith}
use lib.ListN.{set}
use Rattle.std.proofs.lemmas.Bool.Decides.{nat_tests}
use Rattle.std.proofs.lemmas.Bool.{and_parts, not-true}
use Rattle.nob_ids.specs.Names.{is_counted, is_same}
use Rattle.nob_ids.specs.declared.limits.Limits.{Limits}
use Rattle.nob_ids.specs.declared.wire_rep.WireRep.{WireRep}
use Rattle.nob_item.specs.declared.item.Item.TheVariants as items
use Rattle.nob_model_session.specs.End.{handed, last_item}
use Rattle.nob_model_session.specs.declared.entry.EndEntry.TheVariants as ends
use Rattle.nob_model_session.specs.declared.entry.Kind.TheVariants.{Note}
use Rattle.nob_session.specs.Calls.{next_of}
use Rattle.nob_session.specs.Onward.{StandsOnward}
use Rattle.nob_session.proofs.Alike.{onward_is}
use Rattle.nob_session.specs.Stands.{End, Roomy, is_open_end}
use Rattle.nob_table_rows.specs.Counts.{is_held, no_counts}
use Rattle.nob_table_rows.specs.declared.counts.Counts.{Counts}
use Rattle.nob_table_rows.specs.declared.standing.Standing.{Standing}
use Rattle.nob_table_rows.specs.declared.standing.State.{State as TableState}
use Rattle.nob_table_rows.specs.declared.standing.State.TheVariants as states
use Rattle.nob_table_rows.specs.Standings as standings
use Rattle.nob_table_rows.specs.Standings.{unknown}
use Rattle.nob_table.specs.Table.{Table, standing, place_of, Becomes, Places, RemovalLeaves, SetsKept, is_kept}
use Rattle.nob_table_rows.proofs.Same.{same_laws}
use Rattle.nob_model_types.specs.declared.answer.Answer.TheVariants as answers
use Rattle.nob_model_types.specs.declared.event.Event.TheVariants as events
use Rattle.nob_model_types.specs.declared.refusal.Refusal.TheVariants as refusals
use Rattle.nob_model_types.specs.Deeds.{deed_by}
use Rattle.nob_model_types.specs.declared.deed.Deed.{Deed}
use Rattle.nob_model_types.specs.declared.deed.Deed.TheVariants.{Clean}
use Rattle.nob_model_types.specs.declared.turns.Turns.{Turns}
use Rattle.nob_model_types.specs.Sessions.{closed, is_peer}
use Rattle.nob_model_types.specs.Turns.{turns, is_own, is_usable, is_granted, is_refused, is_lost, with_clean}
use Rattle.nob_model_work.specs.Work.{work, work_after}
use Rattle.nob_model_work.specs.Gifts.{gifts, gifts_of}
use Rattle.nob_model_history.specs.Histories.{history_of}
use Rattle.nob_model_history.specs.Ends.{calls_at, payload_of}
use Rattle.nob_model_history.specs.Holds.{hand, times, lent_in}
use Rattle.nob_model_history.specs.Transit as transit
use Rattle.nob_model_history.proofs.Turning.{granted_answered, same_ref}
use Rattle.nob_model.proofs.Made.{work_fixed, fixed_stays}
use Rattle.nob_space_items.proofs.Fixing.{still_fixed}
use Rattle.nob_model.specs.Lists.{IsRightDeed}
use Rattle.nob_model.specs.Right.{right_after, right_clean, clean_of, own_ref}
use Rattle.nob_space_state.specs.Parts.{State}
use Rattle.nob_space_state.specs.Shows.{TableStands, behind, far_state}
use Rattle.nob_space_state.specs.Stands.{Stands}
use Rattle.nob_space_state.proofs.Awaited.{still_awaited}
use Rattle.nob_space_state.proofs.Ends.{end_there}
use Rattle.nob_space_state.proofs.Shows.{one_row, no_holds}
use Rattle.nob_space_items.specs.Cleaning.{NoneSpareBelow, IsFirstSpare}
use Rattle.nob_space_items.proofs.Noting.{GivesNotes, same_dirties, sent_next, stands_noted, open_there, same_bundles}
use Rattle.nob_space_items.proofs.Resolving.{granted_kept}
use Rattle.nob_space_items.proofs.Spares.{asked_there, idle_there, first_there, none_there}
use Rattle.nob_space_state.proofs.Marked.{same_pins, used_then}
use Rattle.nob_space_state.proofs.Exported.{kept_before}

-- ---- what is right

pub clean_is : (s n : ℕ) (limits : Limits) (D : List Deed) (rep : WireRep) → right_clean s n (history_of s n D) ≡ Ok (answers.Cleaned rep) → IsRightDeed s n limits (Clean rep) D
unfolding right_after
clean_is s n limits D rep is = (events.Clean, ap (deed_by events.Clean) is)

module _ {s n : ℕ} {limits : Limits} {st : State} {D : List Deed} (stands : Stands s n limits st D) where
  -- nothing can be given up
  pub clean_none : NoneSpareBelow st st.table.dirties → right_clean s n (history_of s n D) ≡ Err refusals.Nothing
  unfolding right_clean clean_of
  clean_none none = ap (λ found. clean_of found (history_of s n D)) (none_there stands none)

  module _ (rep : WireRep) (first : IsFirstSpare st rep) (end : Roomy) (is : end ≡ get_or st.sessions (rep.owner - 1) end) where
    count_there : end.end.handed ≡ length (handed (calls_at rep.owner (history_of s n D)))
    count_there = ap (λ (e : End). e.handed) (onward_is (end_there s n limits st.sessions (history_of s n D) rep.owner end stands.ends (asked_there stands rep first).1 is).2)

    -- the session with its owner has no number left
    pub clean_full : last_item - end.end.handed ≡ 0 → right_clean s n (history_of s n D) ≡ Err refusals.SeqEnd
    unfolding right_clean clean_of
    clean_full none =
        let count = count_there in
        let full : nat_le (length (handed (calls_at rep.owner (history_of s n D))) + 1) last_item ≡ false = grind (arith, nat_tests, none, count) in
        ap (λ found. clean_of found (history_of s n D)) (first_there stands rep first) ∙ rw full refl

    -- else it is given up
    pub clean_right : 0 < last_item - end.end.handed → right_clean s n (history_of s n D) ≡ Ok (answers.Cleaned rep)
    unfolding right_clean clean_of
    clean_right some =
        let count = count_there in
        let free : nat_le (length (handed (calls_at rep.owner (history_of s n D))) + 1) last_item ≡ true = grind (arith, nat_tests, some, count) in
        ap (λ found. clean_of found (history_of s n D)) (first_there stands rep first) ∙ rw free refl

    pub clean_wants : 0 < last_item - end.end.handed → IsOk (right_clean s n (history_of s n D))
    clean_wants some = subst IsOk (sym (clean_right some)) refl

    -- its turns, and the session with its owner
    granted_there : (is_granted (turns s n rep D) ≡ true) × (closed rep.owner D ≡ false)
    granted_there =
        let usable = and_parts _ _ (and_parts _ _ (and_parts _ _ (idle_there stands rep first)).0).0 in
        (usable.0, not-true (closed rep.owner D) usable.1)

    -- so it has a number for the Clean
    pub clean_next : 0 < last_item - end.end.handed → IsOk (next_of Note end.end)
    clean_next some =
        let still : is_open_end end.end ≡ true = open_there stands rep.owner end (asked_there stands rep first).1 is granted_there.1 in
        let free : nat_le last_item end.end.handed ≡ false = grind (arith, nat_tests, some) in
        rw (still, free) refl

    -- a Clean gives the owner a note
    clean_notes : GivesNotes s n (Clean rep) D rep.owner (items.Clean rep.index ∷ [])
    unfolding gifts gifts_of
    clean_notes =
        let asks = (granted_answered (turns s n rep D) granted_there.0).0 in
        record {
          gives = rw (asks, (asked_there stands rep first).1) refl;
          bare = (refl, tt);
          asks_nothing = refl;
          makes_no_call = λ q calls. refl;
          closes_nothing = λ q. refl;
          opens_nothing = λ q. refl;
          settles_nothing = λ q k. refl;
          exports = refl;
          withdrawn = λ index. refl;
          same_gains = refl;
          same_releases = refl;
          listed = λ index client. refl;
          calls = refl;
          jobs = refl;
        }

    clean_work : work s n (Clean rep ∷ D) ≡ work s n D
    unfolding work_after
    clean_work = fixed_stays s n (Clean rep ∷ D) (work s n D) (still_fixed s n D (Clean rep ∷ D) fewer (work s n D) (work_fixed s n D))
      where
        fewer : (other : WireRep) → is_usable s n other (Clean rep ∷ D) ≡ true → is_usable s n other D ≡ true
        fewer other = elim (is_same other rep) as (λ b. (is_granted (if b then with_clean (turns s n other D) else turns s n other D) && not (closed other.owner D)) ≡ true → is_usable s n other D ≡ true) [
          | true ↦ λ e. let bad : false ≡ true = e in absurd (cc)
          | false ↦ λ e. e
        ]

    -- what is given up isn't lost, and wasn't
    clean_lost : (other : WireRep) → is_lost s n other (Clean rep ∷ D) ≡ is_lost s n other D
    clean_lost other = elim (is_same other rep) as (λ b. is_same other rep ≡ b → lost_by (if b then with_clean (turns s n other D) else turns s n other D) ≡ lost_by (turns s n other D)) [
      | true ↦ λ same. let kept = granted_kept (turns s n other D) (subst (λ (r : WireRep). is_granted (turns s n r D) ≡ true) (sym (same_ref other rep same)) granted_there.0) in λ i. not (is_own s other) && (not (is_peer s n other.owner) || closed other.owner D || sym kept i)
      | false ↦ λ differs. refl
    ] refl
      where
        lost_by : Turns → Bool
        lost_by t = not (is_own s other) && (not (is_peer s n other.owner) || closed other.owner D || is_refused t)

    -- the table without the surrogate
    clean_shows : (u : Table) → Becomes st.table u rep unknown → Places st.table u rep None → SetsKept st.table u rep false → RemovalLeaves st.table u → TableStands s n u (history_of s n (Clean rep ∷ D))
    clean_shows u becomes places unkept leaves = record {
      me = leaves.objects.me ∙ stands.table.me;
      exported = leaves.objects.exported ∙ stands.table.exported;
      live = λ index. one_row (λ other it. standings.is_live it.state ≡ standings.is_live (standing st.table other).state) rep (standing st.table) (standing u) unknown becomes (sym (idle_row.1)) (λ other differs. refl) (own_ref s index) ∙ stands.table.live index;
      far = one_row (λ other it. is_counted other ≡ true → is_own s other ≡ false → it.state ≡ far_state (closed other.owner D) (is_held it.counts) (turns s n other (Clean rep ∷ D))) rep (standing st.table) (standing u) unknown becomes
          (λ counted far. sym far_cleaned)
          (λ other differs counted far. stands.table.far other counted far ∙ ap (λ t. far_state (closed other.owner D) (is_held (standing st.table other).counts) t) (sym (rw (same_laws.symm other rep ∙ differs) refl)));
      hands = one_row (λ other it. is_counted other ≡ true → it.counts.hand ≡ hand other D) rep (standing st.table) (standing u) unknown becomes
          (λ counted. ap (λ (c : Counts). c.hand) (sym idle_row.0) ∙ stands.table.hands rep counted)
          (λ other differs counted. stands.table.hands other counted);
      loans = one_row (λ other it. is_counted other ≡ true → it.counts.lent ≡ times other (lent_in s (work s n (Clean rep ∷ D)))) rep (standing st.table) (standing u) unknown becomes
          (λ counted. ap (λ (c : Counts). c.lent) (sym idle_row.0) ∙ stands.table.loans rep counted ∙ ap (λ W. times rep (lent_in s W)) (sym clean_work))
          (λ other differs counted. stands.table.loans other counted ∙ ap (λ W. times other (lent_in s W)) (sym clean_work));
      passed = stands.table.passed;
      dirties = ap (λ k. stands.table.passed + k) leaves.dirties ∙ stands.table.dirties ∙ ap length (sym (same_dirties clean_notes));
      places = λ other. elim (is_same rep other) as (λ b. is_same rep other ≡ b → behind stands.table.passed (place_of u other) ≡ (if standings.is_surrogate (standing u other).state then transit.place other (history_of s n (Clean rep ∷ D)) else None)) [
        | true ↦ λ same.
            let gone : place_of u other ≡ None = places other ∙ rw same refl in
            let row : standing u other ≡ unknown = becomes other ∙ rw same refl in
            ap (behind stands.table.passed) gone ∙ sym (ap (λ (it : Standing). if standings.is_surrogate it.state then transit.place other (history_of s n (Clean rep ∷ D)) else None) row)
        | false ↦ λ differs.
            let kept : place_of u other ≡ place_of st.table other = places other ∙ rw differs refl in
            let row : standing u other ≡ standing st.table other = becomes other ∙ rw differs refl in
            ap (behind stands.table.passed) kept ∙ stands.table.places other
            ∙ ap (λ (it : Standing). if standings.is_surrogate it.state then transit.place other (history_of s n D) else None) (sym row)
            ∙ ap (λ reps. if standings.is_surrogate (standing u other).state then transit.last_place other reps else None) (sym (same_dirties clean_notes))
      ] refl;
      kept = used_then s st.table u (history_of s n D) (history_of s n (Clean rep ∷ D)) (λ other kept. kept_before (is_same rep other) (is_kept st.table other) (sym (unkept other) ∙ kept)) (λ other none. same_pins (history_of s n D) (history_of s n (Clean rep ∷ D)) (same_bundles clean_notes) other ∙ none) clean_notes.listed stands.table.kept;
    }
      where
        idle_parts : (state : TableState) (counts : Counts) → standings.is_idle (record { state = state; counts = counts }) ≡ true → (counts ≡ no_counts) × (standings.is_live state ≡ false)
        idle_parts states.Granted counts idle = (no_holds counts (not-true (is_held counts) idle), refl)
        idle_parts (_) counts idle = let bad : false ≡ true = idle in absurd (cc)

        idle_row : ((standing st.table rep).counts ≡ no_counts) × (standings.is_live (standing st.table rep).state ≡ false)
        idle_row = idle_parts (standing st.table rep).state (standing st.table rep).counts (and_parts _ _ first.2).0

        far_cleaned : far_state (closed rep.owner D) (is_held unknown.counts) (turns s n rep (Clean rep ∷ D)) ≡ states.Unknown
        far_cleaned = rw (same_laws.refl rep, granted_there.1) refl

    -- after a Clean
    pub clean_stands : (new : Roomy) (u : Table) (payload : List ℕ) (number : ℕ) → IsRightDeed s n limits (Clean rep) D → payload ≡ payload_of (items.Clean rep.index) → number ≡ end.end.handed + 1
        → (StandsOnward s rep.owner limits end.end (calls_at rep.owner (history_of s n D)) → StandsOnward s rep.owner limits new.end (ends.Send payload Note (Ok number) ∷ calls_at rep.owner (history_of s n D)))
        → Becomes st.table u rep unknown → Places st.table u rep None → SetsKept st.table u rep false → RemovalLeaves st.table u
        → Stands s n limits (record { sessions = set st.sessions (rep.owner - 1) new; table = u; dirty = st.dirty; pins = st.pins; work = st.work; awaited = st.awaited; calls = st.calls; jobs = st.jobs }) (Clean rep ∷ D)
    clean_stands new u payload number its spelled next answer becomes places unkept leaves =
        stands_noted clean_notes end new u st.work stands (asked_there stands rep first).1 is
        (λ before. sent_next s rep.owner limits end.end new.end (calls_at rep.owner (history_of s n D)) (items.Clean rep.index) payload Note number before answer spelled refl next)
        (clean_shows u becomes places unkept leaves) (stands.work ∙ sym clean_work) (still_awaited s n st.awaited st.work.waiting D (Clean rep ∷ D) stands.awaited clean_lost) its
