-- What keeps a Call or a Reply in the inbox is what the state tells.
use Rattle.std.proofs.Common.{◌≡◌, ℕ, suc, ◌+◌, ◌-◌, ◌≤◌, Bool, true, false, not, ◌&&◌, ◌||◌, ◌==◌, cond, List, [], ◌∷◌, ◌++◌, length, map, filter, Option, Some, None, Ok, Err, is_some, option_map, if◌then◌else◌, refl, sym, ap, ◌∙◌, arith}
use Rattle.std.specs.Prelude.{nat_le, nat_lt}
use Rattle.std.specs.List.{AllByRecursion, list_any, list_all}
use Rattle.std.proofs.lemmas.Bool.{and_parts}
use Rattle.std.proofs.lemmas.Bool.Decides.{nat_tests}
use Rattle.std.proofs.lemmas.List.{length-append, length-map}
use Rattle.std.proofs.lemmas.Map.Entries.{length-keys_of}
use Rattle.std.proofs.lemmas.Map.Made.{length-from_same_keys}
use Rattle.std.proofs.lemmas.Map.Views.{any-filter_same}
use Rattle.nob_ids.specs.Names.{is_same, is_counted}
use Rattle.nob_ids.specs.declared.limits.Limits.{Limits}
use Rattle.nob_ids.specs.declared.wire_rep.WireRep.{WireRep}
use Rattle.nob_item.specs.Kinds.{counted_in, refs_carried}
use Rattle.nob_item.specs.declared.item.Item.{Item}
use Rattle.nob_model_session.specs.End.{handed, is_open, unacknowledged, last_item}
use Rattle.nob_model_session.specs.Right.{queue_limit, is_limited}
use Rattle.nob_model_session.specs.declared.refusal.EndRefusal.TheVariants as end_refusals
use Rattle.nob_model_session.specs.declared.entry.EndEntry.{EndEntry}
use Rattle.nob_model_session.specs.declared.entry.EndEntry.TheVariants as ends
use Rattle.nob_session.specs.Stands.{End}
use Rattle.nob_session.proofs.Alike.{onward_is}
use Rattle.nob_rows.specs.Rows.{IsOnce, reps_of, row_at}
use Rattle.nob_table_rows.specs.declared.standing.Surrogate.{Surrogate}
use Rattle.nob_table_rows.specs.Standings as standings
use Rattle.nob_table_rows.specs.declared.standing.State.TheVariants as states
use Rattle.nob_table_rows.specs.Counts.{is_held}
use Rattle.nob_table.specs.Table.{standing, place_of, surrogate_total}
use Rattle.nob_table_rows.proofs.Same.{same_is, same_laws}
use Rattle.nob_table_rows.proofs.Keys.{any_key}
use Rattle.nob_model_types.specs.declared.refusal.Refusal.TheVariants as refusals
use Rattle.nob_model_types.specs.declared.deed.Deed.{Deed}
use Rattle.nob_model_types.specs.declared.turns.Turns.{Turns}
use Rattle.nob_model_types.specs.Sessions.{is_peer, closed}
use Rattle.nob_model_types.specs.Turns.{turns, is_own, is_pending, is_granted, is_refused, is_standing, wants_dirty}
use Rattle.nob_model_work.specs.declared.gifts.Gift.{Gift}
use Rattle.nob_model_work.specs.Work.{work}
use Rattle.nob_model_work.specs.Gifts.{once, dirty_for, dirties_for}
use Rattle.nob_model_history.specs.Histories.{history_of}
use Rattle.nob_model_history.specs.Ends.{calls_at, items_to}
use Rattle.nob_model_history.specs.Transit.{dirties, last_place, once_last, by_last_dirty, surrogates}
use Rattle.nob_model_history.proofs.Dirtying.{none_placed}
use Rattle.nob_model_history.proofs.Surrogates.{has_surrogate}
use Rattle.nob_model_acting.specs.Acting as acting
use Rattle.nob_model_acting.specs.Acting.{messages, most_messages, most_surrogates, new_dirties, has_numbers_among, all_have_numbers}
use Rattle.nob_model.specs.Laws.{AreRightCalls}
use Rattle.nob_model.proofs.Calling.{calls_law}
use Rattle.nob_space_state.specs.Parts.{State}
use Rattle.nob_space_state.specs.Looks.{has_closed}
use Rattle.nob_space_state.specs.Shows.{far_state}
use Rattle.nob_space_state.specs.Stands.{Stands}
use Rattle.nob_space_state.proofs.Calling.{end_of_peer}
use Rattle.nob_space_state.proofs.Rows.{distinct_filtered}
use Rattle.nob_space_state.proofs.Told.{closed_there}
use Rattle.nob_space_items.specs.Messages.{is_wanted, wanted_refs, owner_count, has_free, has_numbers_for, message_refusal}
use Rattle.nob_space_items.proofs.Among.{any_of, any_last, last_distinct, filter_passes}
use Rattle.nob_space_items.proofs.Spares.{CanBeAsked, all_asked as dirties_asked, all_once}

-- ---- numbers

-- a Send that was right found a number
sent_low : (shut full : Bool) (count number : ℕ) → Ok number ≡ (if shut then Err end_refusals.Closed else if full then Err end_refusals.QueueFull else if nat_le last_item count then Err end_refusals.SeqEnd else Ok (count + 1)) → nat_le last_item count ≡ false
sent_low true full count number e = absurd (cc)
sent_low false true count number e = absurd (cc)
sent_low false false count number e = elim (nat_le last_item count) as (λ b. Ok number ≡ (if b then Err end_refusals.SeqEnd else Ok (count + 1)) → b ≡ false) [ true ↦ λ clash. absurd (cc) | false ↦ λ _. refl ] e

-- on an end with right calls no more items are handed than there are numbers
pub handed_low : (me peer : ℕ) (limits : Limits) (calls : List EndEntry) → AreRightCalls me peer limits calls → length (handed calls) ≤ last_item
handed_low me peer limits [] right = (let low : 0 ≤ last_item = omega arith in low)
handed_low me peer limits (ends.Send payload kind (Ok number) ∷ calls) right =
    let under : nat_le last_item (length (handed calls)) ≡ false = sent_low (not (is_open calls)) (is_limited kind && nat_le queue_limit (length (unacknowledged calls))) (length (handed calls)) number right.0 in
    let longer : length (handed calls ++ payload ∷ []) ≡ length (handed calls) + 1 = length-append (handed calls) (payload ∷ []) in
    grind (arith, nat_tests, under, longer)
handed_low me peer limits (ends.Reopen k (Ok done) ∷ calls) right = (let low : 0 ≤ last_item = omega arith in low)
handed_low me peer limits ((_) ∷ calls) right = handed_low me peer limits calls right.1

-- whether so many numbers are free, said in two ways
free_count : (before count : ℕ) → before ≤ last_item → nat_le (before + count) last_item ≡ nat_le count (last_item - before)
free_count before count low = elim (nat_le (before + count) last_item) as (λ b. nat_le (before + count) last_item ≡ b → b ≡ nat_le count (last_item - before)) [
  | true ↦ λ fits. grind (arith, nat_tests, fits, low)
  | false ↦ λ over. grind (arith, nat_tests, over, low)
] refl

-- how many Dirties go to a peer
count_to_owner : (p : ℕ) (reps : List WireRep) → length (items_to p (map dirty_for reps)) ≡ owner_count p reps
unfolding dirty_for
count_to_owner p [] = refl
count_to_owner p (rep ∷ reps) = elim (rep.owner == p) as (λ b. length (map (λ (gift : Gift). gift.item) (cond b (dirty_for rep ∷ filter (λ (gift : Gift). gift.to == p) (map dirty_for reps)) (filter (λ (gift : Gift). gift.to == p) (map dirty_for reps)))) ≡ length (cond b (rep ∷ filter (λ (other : WireRep). other.owner == p) reps) (filter (λ (other : WireRep). other.owner == p) reps))) [
  | true ↦ ap suc (count_to_owner p reps)
  | false ↦ count_to_owner p reps
]

-- ---- surrogates

no_place : (b : Bool) (found : Option ℕ) → found ≡ None → (if b then found else None) ≡ None
no_place true found none = none
no_place false found none = refl

some_mapped : {A B : Type 0} (f : A → B) (found : Option A) → is_some (option_map f found) ≡ is_some found
some_mapped f None = refl
some_mapped f (Some x) = refl

-- how a reference stands on an open session says whether it has a surrogate
open_state : (held : Bool) (t : Turns) → standings.is_surrogate (far_state false held t) ≡ is_standing t
open_state held t = elim (is_pending t) as (λ b. standings.is_surrogate (if b then states.Pending else if is_granted t then states.Granted else if is_refused t then states.Refused else states.Unknown) ≡ (b || is_granted t || is_refused t)) [
  | true ↦ refl
  | false ↦ elim (is_granted t) as (λ b. standings.is_surrogate (if b then states.Granted else if is_refused t then states.Refused else states.Unknown) ≡ (b || is_refused t)) [
    | true ↦ refl
    | false ↦ elim (is_refused t) as (λ b. standings.is_surrogate (if b then states.Refused else states.Unknown) ≡ b) [ true ↦ refl | false ↦ refl ]
  ]
]

closed_state : (held : Bool) (t : Turns) → standings.is_surrogate (far_state true held t) ≡ false
closed_state true t = refl
closed_state false t = refl

filter_agree : {A : Type 0} (p q : A → Bool) (xs : List A) → AllByRecursion (λ x. p x ≡ q x) xs → filter p xs ≡ filter q xs
filter_agree p q [] all = refl
filter_agree p q (x ∷ xs) all = λ i. cond (all.0 i) (x ∷ filter_agree p q xs all.1 i) (filter_agree p q xs all.1 i)

module _ {s n : ℕ} {limits : Limits} {st : State} {D : List Deed} (stands : Stands s n limits st D) where
  -- a peer isn't the space itself
  peer_not_own : (rep : WireRep) → is_peer s n rep.owner ≡ true → is_own s rep ≡ false
  peer_not_own rep peer = grind (arith, nat_tests, peer)

  -- how a peer's reference stands says whether it has a surrogate on an open session
  pub surrogate_at : (rep : WireRep) → CanBeAsked s n rep → standings.is_surrogate (standing st.table rep).state ≡ has_surrogate s n D rep
  surrogate_at rep asked =
      ap standings.is_surrogate (stands.table.far rep asked.0 (peer_not_own rep asked.1))
      ∙ elim (closed rep.owner D) as (λ b. standings.is_surrogate (far_state b (is_held (standing st.table rep).counts) (turns s n rep D)) ≡ (is_standing (turns s n rep D) && not b)) [
        | true ↦ closed_state (is_held (standing st.table rep).counts) (turns s n rep D) ∙ elim (is_standing (turns s n rep D)) as (λ b. false ≡ (b && false)) [ true ↦ refl | false ↦ refl ]
        | false ↦ open_state (is_held (standing st.table rep).counts) (turns s n rep D) ∙ elim (is_standing (turns s n rep D)) as (λ b. b ≡ (b && true)) [ true ↦ refl | false ↦ refl ]
      ]

  -- whether a counted reference gets a Dirty
  pub wanted_at : (rep : WireRep) → is_counted rep ≡ true → is_wanted s n st rep ≡ wants_dirty s n rep D (turns s n rep D)
  wanted_at rep counted = elim (is_peer s n rep.owner) as (λ b. is_peer s n rep.owner ≡ b → (b && not (has_closed st.sessions rep.owner) && not (standings.is_surrogate (standing st.table rep).state)) ≡ (b && not (closed rep.owner D) && not (is_standing (turns s n rep D)))) [
    | true ↦ λ peer. rw (closed_there stands rep.owner, surrogate_at rep (counted, peer)) (elim (closed rep.owner D) as (λ b. (not b && not (is_standing (turns s n rep D) && not b)) ≡ (not b && not (is_standing (turns s n rep D)))) [
      | true ↦ refl
      | false ↦ elim (is_standing (turns s n rep D)) as (λ b. not (b && true) ≡ not b) [ true ↦ refl | false ↦ refl ]
    ])
    | false ↦ λ _. refl
  ] refl

  -- the references that get Dirties
  pub wanted_there : (item : Item) → wanted_refs s n st (counted_in item) ≡ filter (λ (rep : WireRep). wants_dirty s n rep D (turns s n rep D)) (once (counted_in item))
  wanted_there item =
      filter_agree (is_wanted s n st) (λ (rep : WireRep). wants_dirty s n rep D (turns s n rep D)) (once (counted_in item))
      (all_once (λ rep. is_wanted s n st rep ≡ wants_dirty s n rep D (turns s n rep D)) (counted_in item) (weaker (counted_in item) (filter_passes is_counted (refs_carried item))))
    where
      weaker : (reps : List WireRep) → AllByRecursion (λ rep. is_counted rep ≡ true) reps → AllByRecursion (λ rep. is_wanted s n st rep ≡ wants_dirty s n rep D (turns s n rep D)) reps
      weaker [] all = tt
      weaker (rep ∷ reps) all = (wanted_at rep all.0, weaker reps all.1)

  -- the Dirties
  pub dirties_there : (item : Item) → new_dirties s n item (history_of s n D) ≡ map dirty_for (wanted_refs s n st (counted_in item))
  unfolding dirties_for
  dirties_there item = ap (map dirty_for) (sym (wanted_there item))

  -- a reference is among the surrogates of the history where the table has one of it
  pub among_surrogates : ((rep : WireRep) → is_some (place_of st.table rep) ≡ standings.is_surrogate (standing st.table rep).state) → (rep : WireRep) → list_any (is_same rep) (reps_of st.table.surrogates) ≡ list_any (is_same rep) (surrogates s n (history_of s n D))
  among_surrogates placed rep =
      let ds : List WireRep = dirties (history_of s n D) in
      let b : Bool = standings.is_surrogate (standing st.table rep).state in
      any_key (is_same rep) st.table.surrogates
      ∙ sym (some_mapped (λ (surrogate : Surrogate). surrogate.place) (row_at st.table.surrogates rep))
      ∙ placed rep
      ∙ elim (list_any (is_same rep) ds) as (λ c. list_any (is_same rep) ds ≡ c → b ≡ (has_surrogate s n D rep && c)) [
        | true ↦ λ there. surrogate_at rep (any_of (CanBeAsked s n) rep ds (dirties_asked s n D) there) ∙ elim (has_surrogate s n D rep) as (λ c. c ≡ (c && true)) [ true ↦ refl | false ↦ refl ]
        | false ↦ λ none.
            sym (placed rep) ∙ sym (some_mapped (λ place. stands.table.passed + place) (place_of st.table rep)) ∙ ap is_some (stands.table.places rep ∙ no_place b (last_place rep ds) (none_placed rep ds none))
            ∙ elim (has_surrogate s n D rep) as (λ c. false ≡ (c && false)) [ true ↦ refl | false ↦ refl ]
      ] refl
      ∙ sym (any-filter_same (is_same rep) (has_surrogate s n D) (has_surrogate s n D rep) (λ k same. ap (has_surrogate s n D) (sym (same_is rep k same))) (once_last ds) ∙ ap (λ c. has_surrogate s n D rep && c) (any_last rep ds))

  -- as many surrogates stand
  pub surrogates_there : IsOnce st.table.surrogates → ((rep : WireRep) → is_some (place_of st.table rep) ≡ standings.is_surrogate (standing st.table rep).state) → surrogate_total st.table ≡ length (surrogates s n (history_of s n D))
  surrogates_there apart placed =
      sym (length-keys_of st.table.surrogates)
      ∙ length-from_same_keys same_laws (reps_of st.table.surrogates) (surrogates s n (history_of s n D)) apart (distinct_filtered is_same (has_surrogate s n D) (by_last_dirty (history_of s n D)) (last_distinct (dirties (history_of s n D)))) (among_surrogates placed)

  -- whether the session with an owner has numbers free
  pub numbers_at : (reps : List WireRep) (rep : WireRep) → is_peer s n rep.owner ≡ true → has_numbers_among (map dirty_for reps) (history_of s n D) (dirty_for rep) ≡ has_numbers_for st reps rep
  unfolding dirty_for
  numbers_at reps rep peer =
      let there = end_of_peer stands rep.owner peer in
      let before : there.0.end.handed ≡ length (handed (calls_at rep.owner (history_of s n D))) = ap (λ (end : End). end.handed) (onward_is there.2) in
      ap (λ count. nat_le (length (handed (calls_at rep.owner (history_of s n D))) + count) last_item) (count_to_owner rep.owner reps)
      ∙ free_count (length (handed (calls_at rep.owner (history_of s n D)))) (owner_count rep.owner reps) (handed_low s rep.owner limits (calls_at rep.owner (history_of s n D)) (calls_law s n limits D stands.right rep.owner))
      ∙ ap (λ k. nat_le (owner_count rep.owner reps) (last_item - k)) (sym before)
      ∙ sym (ap (has_free (owner_count rep.owner reps)) there.1)

  -- so for all
  numbers_all : (reps rest : List WireRep) → AllByRecursion (λ rep. is_wanted s n st rep ≡ true) rest → list_all (has_numbers_among (map dirty_for reps) (history_of s n D)) (map dirty_for rest) ≡ list_all (has_numbers_for st reps) rest
  numbers_all reps [] all = refl
  numbers_all reps (rep ∷ rest) all = λ i. numbers_at reps rep (and_parts _ _ (and_parts _ _ all.0).0).0 i && numbers_all reps rest all.1 i

  -- what keeps a Call or a Reply in the inbox
  pub message_there : (item : Item) → IsOnce st.table.surrogates → ((rep : WireRep) → is_some (place_of st.table rep) ≡ standings.is_surrogate (standing st.table rep).state) → acting.message_refusal s n item (history_of s n D) ≡ message_refusal st (wanted_refs s n st (counted_in item))
  unfolding acting.message_refusal acting.is_too_much message_refusal
  message_there item apart placed =
      let reps : List WireRep = wanted_refs s n st (counted_in item) in
      let outstanding : work s n D ≡ st.work = sym stands.work in
      let known : length (surrogates s n (history_of s n D)) ≡ surrogate_total st.table = sym (surrogates_there apart placed) in
      let asked : new_dirties s n item (history_of s n D) ≡ map dirty_for reps = dirties_there item in
      let many : length (new_dirties s n item (history_of s n D)) ≡ length reps = ap length asked ∙ length-map reps dirty_for in
      let free : all_have_numbers (new_dirties s n item (history_of s n D)) (history_of s n D) ≡ list_all (has_numbers_for st reps) reps = ap (λ (gifts : List Gift). all_have_numbers gifts (history_of s n D)) asked ∙ numbers_all reps reps (filter_passes (is_wanted s n st) (once (counted_in item))) in
      λ i. if nat_le most_messages (messages (outstanding i)) || nat_lt most_surrogates (known i + many i) then Some refusals.Limit else if not (free i) then Some refusals.SeqEnd else None
