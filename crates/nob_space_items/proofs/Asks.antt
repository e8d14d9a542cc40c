-- What the table shows once the Dirties of a message are sent.
use Rattle.std.proofs.Common.{◌≡◌, ℕ, ◌+◌, Bool, true, false, ◌||◌, ◌==◌, cond, List, [], ◌∷◌, ◌++◌, length, Option, Some, None, if◌then◌else◌, refl, sym, ap, ◌∙◌, arith}
use Rattle.std.specs.List.{AllByRecursion, list_any}
use Rattle.std.proofs.lemmas.Bool.{or_parts}
use Rattle.std.proofs.lemmas.Bool.Decides.{nat_tests}
use Rattle.std.proofs.lemmas.List.{append-nil, append_assoc, length-append}
use Rattle.nob_ids.specs.Names.{is_same, is_counted}
use Rattle.nob_ids.specs.declared.limits.Limits.{Limits}
use Rattle.nob_ids.specs.declared.wire_rep.WireRep.{WireRep}
use Rattle.nob_item.specs.Kinds.{counted_in, refs_carried}
use Rattle.nob_item.specs.declared.item.Item.{Item}
use Rattle.nob_table_rows.specs.declared.counts.Counts.{Counts}
use Rattle.nob_table_rows.specs.declared.standing.State.TheVariants as states
use Rattle.nob_table_rows.specs.declared.standing.Standing.{Standing}
use Rattle.nob_table_rows.specs.declared.standing.Surrogate.{Surrogate}
use Rattle.nob_table_rows.specs.declared.standing.Grant.TheVariants as grants
use Rattle.nob_table_rows.specs.Counts.{is_held, no_counts}
use Rattle.nob_rows.specs.Rows.{row_at}
use Rattle.nob_table_rows.specs.Standings as standings
use Rattle.nob_table_rows.specs.Standings.{is_unknown, is_surrogate, own_standing, far_standing, pending_standing}
use Rattle.nob_table.specs.Table.{Table, standing, place_of, was_given}
use Rattle.nob_model_types.specs.declared.deed.Deed.{Deed}
use Rattle.nob_model_types.specs.declared.deed.Deed.TheVariants.{Act}
use Rattle.nob_model_types.specs.Sessions.{is_peer, closed}
use Rattle.nob_model_types.specs.Turns.{turns, with_dirty, is_own}
use Rattle.nob_model_work.specs.Gifts.{once}
use Rattle.nob_model_work.specs.Work.{work}
use Rattle.nob_model_history.specs.Histories.{history_of}
use Rattle.nob_model_history.specs.Holds.{hand, times, lent_in}
use Rattle.nob_model_history.specs.Transit.{dirties, last_place}
use Rattle.nob_model_history.proofs.Dirtying.{place_push, same_flip}
use Rattle.nob_model.specs.Right.{own_ref}
use Rattle.nob_space_state.specs.Parts.{State}
use Rattle.nob_space_state.specs.Shows.{TableShows, behind, far_state}
use Rattle.nob_space_state.specs.Stands.{Stands}
use Rattle.nob_space_items.specs.Asking.{AsksFor, place_after}
use Rattle.nob_space_items.specs.Fronts.{IsFront}
use Rattle.nob_space_items.specs.Messages.{is_wanted, wanted_refs}
use Rattle.nob_space_items.specs.Placing.{IsMessage}
use Rattle.nob_space_items.proofs.Among.{any_of, filter_passes}
use Rattle.nob_space_items.proofs.Spares.{CanBeAsked, all_once}
use Rattle.nob_model.proofs.Waiting.{all_filter}
use Rattle.nob_space_items.proofs.Message.{all_peers, act_turns, wanted_turns, asked_turns, act_dirties, far_by, act_listed, act_bundles}
use Rattle.nob_space_state.proofs.Marked.{used_still}

-- nobody holds what the table has nothing of
unknown_free : (mine given : Bool) (row : Option Counts) (surrogate : Option Surrogate) (counts : Option Counts) → is_unknown (if mine then own_standing given row else far_standing surrogate counts).state ≡ true
    → (if mine then own_standing given row else far_standing surrogate counts).counts ≡ no_counts
unknown_free true given (Some c) surrogate counts unknown = absurd (cc)
unknown_free true true None surrogate counts unknown = refl
unknown_free true false None surrogate counts unknown = refl
unknown_free false given row surrogate None unknown = refl
unknown_free false given row None (Some c) unknown = absurd (cc)
unknown_free false given row (Some g) (Some c) unknown = absurd (elim g.grant as (λ k. is_unknown (standings.state_of k) ≡ true → ⊥) [ grants.Pending ↦ λ e. absurd (cc) | grants.Granted ↦ λ e. absurd (cc) | grants.Refused ↦ λ e. absurd (cc) ] unknown)

unknown_counts : (t : Table) (rep : WireRep) → is_unknown (standing t rep).state ≡ true → (standing t rep).counts ≡ no_counts
unknown_counts t rep unknown = unknown_free (rep.owner == t.me) (was_given t.exported rep.index) (row_at t.objects rep) (row_at t.surrogates rep) (row_at t.counted rep) unknown

-- the last place behind others
place_append : (reps ds : List WireRep) (rep : WireRep) → last_place rep (ds ++ reps) ≡ place_after (length ds) reps rep (last_place rep ds)
place_append [] ds rep = ap (last_place rep) (append-nil ds)
place_append (first ∷ reps) ds rep =
    ap (last_place rep) (sym (append_assoc ds (first ∷ []) reps))
    ∙ place_append reps (ds ++ first ∷ []) rep
    ∙ ap (λ n. place_after n reps rep (last_place rep (ds ++ first ∷ []))) (length-append ds (first ∷ []))
    ∙ ap (place_after (length ds + 1) reps rep) (place_push rep first ds ∙ ap (λ b. if b then Some (length ds) else last_place rep ds) (same_flip rep first))

-- what is among references has a place of its own among them, and what isn't keeps its place
place_among : (n : ℕ) (reps : List WireRep) (rep : WireRep) (one other : Option ℕ) → list_any (is_same rep) reps ≡ true → place_after n reps rep one ≡ place_after n reps rep other
place_among n [] rep one other there = absurd (cc)
place_among n (first ∷ reps) rep one other there = elim (is_same rep first) as (λ b. is_same rep first ≡ b → (b || list_any (is_same rep) reps) ≡ true → place_after (n + 1) reps rep (if is_same first rep then Some n else one) ≡ place_after (n + 1) reps rep (if is_same first rep then Some n else other)) [
  | true ↦ λ same _. rw (same_flip first rep ∙ same) refl
  | false ↦ λ differs later. rw (same_flip first rep ∙ differs) (place_among (n + 1) reps rep one other later)
] refl there

place_kept : (n : ℕ) (reps : List WireRep) (rep : WireRep) (before : Option ℕ) → list_any (is_same rep) reps ≡ false → place_after n reps rep before ≡ before
place_kept n [] rep before none = refl
place_kept n (first ∷ reps) rep before none =
    let parts = or_parts (is_same rep first) (list_any (is_same rep) reps) none in
    rw (same_flip first rep ∙ parts.0) (place_kept (n + 1) reps rep before parts.1)

-- the places after Dirties are counted from the first Dirty as those before them are
place_behind : (passed n : ℕ) (reps : List WireRep) (rep : WireRep) (before : Option ℕ) → behind passed (place_after n reps rep before) ≡ place_after (passed + n) reps rep (behind passed before)
place_behind passed n [] rep before = refl
place_behind passed n (first ∷ reps) rep before =
    place_behind passed (n + 1) reps rep (if is_same first rep then Some n else before)
    ∙ (let more : passed + (n + 1) ≡ passed + n + 1 = omega arith in ap (λ m. place_after m reps rep (behind passed (if is_same first rep then Some n else before))) more)
    ∙ ap (place_after (passed + n + 1) reps rep) (elim (is_same first rep) as (λ b. behind passed (if b then Some n else before) ≡ (if b then Some (passed + n) else behind passed before)) [ true ↦ refl | false ↦ refl ])

module _ {s n : ℕ} {limits : Limits} {st : State} {D : List Deed} (stands : Stands s n limits st D) (p k : ℕ) (item : Item) (front : IsFront s n p k item D) (message : IsMessage item) where
  -- those that get Dirties are counted and peers'
  pub all_asked : AllByRecursion (CanBeAsked s n) (wanted_refs s n st (counted_in item))
  all_asked = both (wanted_refs s n st (counted_in item)) (all_filter (λ rep. is_counted rep ≡ true) (is_wanted s n st) (once (counted_in item)) (all_once (λ rep. is_counted rep ≡ true) (counted_in item) (filter_passes is_counted (refs_carried item)))) (all_peers stands p k item front message)
    where
      both : (all : List WireRep) → AllByRecursion (λ rep. is_counted rep ≡ true) all → AllByRecursion (λ rep. is_peer s n rep.owner ≡ true) all → AllByRecursion (CanBeAsked s n) all
      both [] counted peers = tt
      both (rep ∷ rest) counted peers = ((counted.0, peers.0), both rest counted.1 peers.1)

  other_space : (rep : WireRep) → CanBeAsked s n rep → is_own s rep ≡ false
  other_space rep asked = (let peer = asked.1 in grind (arith, nat_tests, peer))

  -- the table has nothing of them
  pub wanted_unknown : (rep : WireRep) → list_any (is_same rep) (wanted_refs s n st (counted_in item)) ≡ true → (standing st.table rep).state ≡ states.Unknown
  wanted_unknown rep there =
      let asked : CanBeAsked s n rep = any_of (CanBeAsked s n) rep (wanted_refs s n st (counted_in item)) all_asked there in
      let before = wanted_turns stands p k item front message rep there in
      let pending = or_parts _ _ (or_parts _ _ before.0).0 in
      let refused = or_parts _ _ before.0 in
      stands.table.far rep asked.0 (other_space rep asked)
      ∙ ap (λ b. far_state b (is_held (standing st.table rep).counts) (turns s n rep D)) before.1
      ∙ far_by (is_held (standing st.table rep).counts) (turns s n rep D) false false false (pending.0, pending.1, refused.1)

  wanted_free : (rep : WireRep) → list_any (is_same rep) (wanted_refs s n st (counted_in item)) ≡ true → (standing st.table rep).counts ≡ no_counts
  wanted_free rep there = unknown_counts st.table rep (ap is_unknown (wanted_unknown rep there))

  -- an own reference gets none
  pub own_unasked : (index : ℕ) → list_any (is_same (own_ref s index)) (wanted_refs s n st (counted_in item)) ≡ false
  own_unasked index = elim (list_any (is_same (own_ref s index)) (wanted_refs s n st (counted_in item))) as (λ b. list_any (is_same (own_ref s index)) (wanted_refs s n st (counted_in item)) ≡ b → b ≡ false) [
    | true ↦ λ there. absurd (let peer : is_peer s n s ≡ true = (any_of (CanBeAsked s n) (own_ref s index) (wanted_refs s n st (counted_in item)) all_asked there).1 in grind (arith, nat_tests, peer))
    | false ↦ λ _. refl
  ] refl

  -- the table once their Dirties are sent, the loans as before
  pub asks_show : (mid : Table) → AsksFor st.table mid (wanted_refs s n st (counted_in item)) → TableShows s n mid (history_of s n (Act p k ∷ D)) (λ rep. hand rep D) (λ rep. times rep (lent_in s (work s n D)))
  asks_show mid asks =
      let reps : List WireRep = wanted_refs s n st (counted_in item) in
      let is_among : WireRep → Bool = λ rep. list_any (is_same rep) reps in
      let shows = stands.table in
      record {
        me = asks.objects.me ∙ shows.me;
        exported = asks.objects.exported ∙ shows.exported;
        live = λ index. ap (λ (it : Standing). standings.is_live it.state) (asks.standings (own_ref s index) ∙ ap (λ b. if b then pending_standing else standing st.table (own_ref s index)) (own_unasked index)) ∙ shows.live index;
        far = λ rep counted other. elim (is_among rep) as (λ b. is_among rep ≡ b → (standing mid rep).state ≡ far_state (closed rep.owner D) (is_held (standing mid rep).counts) (turns s n rep (Act p k ∷ D))) [
          | true ↦ λ there.
              let is : standing mid rep ≡ pending_standing = asks.standings rep ∙ ap (λ b. if b then pending_standing else standing st.table rep) there in
              let turned : turns s n rep (Act p k ∷ D) ≡ with_dirty (turns s n rep D) = act_turns stands p k item front message rep ∙ ap (λ b. cond b (with_dirty (turns s n rep D)) (turns s n rep D)) there in
              let pending : far_state false (is_held (standing mid rep).counts) (with_dirty (turns s n rep D)) ≡ states.Pending = far_by (is_held (standing mid rep).counts) (with_dirty (turns s n rep D)) true false false (asked_turns stands p k item front message rep there) in
              ap (λ (it : Standing). it.state) is
              ∙ sym pending
              ∙ sym (λ i. far_state ((wanted_turns stands p k item front message rep there).1 i) (is_held (standing mid rep).counts) (turned i))
          | false ↦ λ none.
              let is : standing mid rep ≡ standing st.table rep = asks.standings rep ∙ ap (λ b. if b then pending_standing else standing st.table rep) none in
              let turned : turns s n rep (Act p k ∷ D) ≡ turns s n rep D = act_turns stands p k item front message rep ∙ ap (λ b. cond b (with_dirty (turns s n rep D)) (turns s n rep D)) none in
              ap (λ (it : Standing). it.state) is ∙ shows.far rep counted other
              ∙ sym (λ i. far_state (closed rep.owner D) (is_held (is i).counts) (turned i))
        ] refl;
        hands = λ rep counted. elim (is_among rep) as (λ b. is_among rep ≡ b → (standing mid rep).counts.hand ≡ hand rep D) [
          | true ↦ λ there. ap (λ (it : Standing). it.counts.hand) (asks.standings rep ∙ ap (λ b. if b then pending_standing else standing st.table rep) there) ∙ sym (ap (λ (c : Counts). c.hand) (wanted_free rep there)) ∙ shows.hands rep counted
          | false ↦ λ none. ap (λ (it : Standing). it.counts.hand) (asks.standings rep ∙ ap (λ b. if b then pending_standing else standing st.table rep) none) ∙ shows.hands rep counted
        ] refl;
        loans = λ rep counted. elim (is_among rep) as (λ b. is_among rep ≡ b → (standing mid rep).counts.lent ≡ times rep (lent_in s (work s n D))) [
          | true ↦ λ there. ap (λ (it : Standing). it.counts.lent) (asks.standings rep ∙ ap (λ b. if b then pending_standing else standing st.table rep) there) ∙ sym (ap (λ (c : Counts). c.lent) (wanted_free rep there)) ∙ shows.loans rep counted
          | false ↦ λ none. ap (λ (it : Standing). it.counts.lent) (asks.standings rep ∙ ap (λ b. if b then pending_standing else standing st.table rep) none) ∙ shows.loans rep counted
        ] refl;
        passed = shows.passed;
        dirties =
            let more : shows.passed + (st.table.dirties + length reps) ≡ (shows.passed + st.table.dirties) + length reps = omega arith in
            ap (λ m. shows.passed + m) asks.dirties ∙ more ∙ ap (λ m. m + length reps) shows.dirties ∙ sym (ap length (act_dirties stands p k item front message) ∙ length-append (dirties (history_of s n D)) reps);
        places = λ rep.
            let ds : List WireRep = dirties (history_of s n D) in
            let later : last_place rep (dirties (history_of s n (Act p k ∷ D))) ≡ place_after (shows.passed + st.table.dirties) reps rep (last_place rep ds) = ap (last_place rep) (act_dirties stands p k item front message) ∙ place_append reps ds rep ∙ ap (λ m. place_after m reps rep (last_place rep ds)) (sym shows.dirties) in
            elim (is_among rep) as (λ b. is_among rep ≡ b → behind shows.passed (place_of mid rep) ≡ (if is_surrogate (standing mid rep).state then last_place rep (dirties (history_of s n (Act p k ∷ D))) else None)) [
              | true ↦ λ there.
                  ap (behind shows.passed) (asks.places rep) ∙ place_behind shows.passed st.table.dirties reps rep (place_of st.table rep)
                  ∙ place_among (shows.passed + st.table.dirties) reps rep (behind shows.passed (place_of st.table rep)) (last_place rep ds) there ∙ sym later
                  ∙ sym (ap (λ (it : Standing). if is_surrogate it.state then last_place rep (dirties (history_of s n (Act p k ∷ D))) else None) (asks.standings rep ∙ ap (λ b. if b then pending_standing else standing st.table rep) there))
              | false ↦ λ none.
                  ap (behind shows.passed) (asks.places rep) ∙ place_behind shows.passed st.table.dirties reps rep (place_of st.table rep)
                  ∙ place_kept (shows.passed + st.table.dirties) reps rep (behind shows.passed (place_of st.table rep)) none ∙ shows.places rep
                  ∙ ap (λ found. if is_surrogate (standing st.table rep).state then found else None) (sym (later ∙ place_kept (shows.passed + st.table.dirties) reps rep (last_place rep ds) none))
                  ∙ sym (ap (λ (it : Standing). if is_surrogate it.state then last_place rep (dirties (history_of s n (Act p k ∷ D))) else None) (asks.standings rep ∙ ap (λ b. if b then pending_standing else standing st.table rep) none))
            ] refl;
        kept = used_still s st.table mid (history_of s n D) (history_of s n (Act p k ∷ D)) asks.objects.kept (act_bundles stands p k item front message) (act_listed stands p k item front message) shows.kept;
      }
