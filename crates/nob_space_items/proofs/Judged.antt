-- The faults of an item, by the state, are those by every list that the state stands for.
use Rattle.std.proofs.Common.{◌≡◌, ℕ, ◌+◌, ◌≤◌, Bool, true, false, not, cond, ◌&&◌, ◌||◌, ◌==◌, nat_lt, List, [], ◌∷◌, length, drop, map, filter, slice_get, Option, Some, None, if◌then◌else◌, refl, sym, ap, ◌∙◌, arith}
use Prim.Native.Nat.{zero, suc}
use Rattle.std.specs.List.{list_any, sum_by}
use lib.Seq.{drop-nil}
use Rattle.std.proofs.lemmas.List.Sums.{sum_by-cons}
use Rattle.std.proofs.lemmas.Option.{none-some}
use Rattle.std.proofs.lemmas.Bool.Decides.{nat_tests}
use Rattle.std.proofs.lemmas.Cmp.{nat_eq_equiv}
use Rattle.nob_ids.specs.Names.{is_counted, is_same}
use Rattle.nob_ids.specs.declared.limits.Limits.{Limits}
use Rattle.nob_ids.specs.declared.reason.Reason.TheVariants.{BadReference, OutOfPlace}
use Rattle.nob_ids.specs.declared.wire_rep.WireRep.{WireRep}
use Rattle.nob_pickle.specs.Spelling.{refs_in}
use Rattle.nob_item.specs.Kinds.{counted_in}
use Rattle.nob_item.specs.Spelling.{Fits}
use Rattle.nob_item.specs.declared.item.Item.{Item}
use Rattle.nob_item.specs.declared.item.Item.TheVariants as items
use Rattle.nob_pins.specs.Bundles.{Pinned, is_of, has_bundle}
use Rattle.nob_table_rows.specs.declared.counts.Counts.{Counts}
use Rattle.nob_table_rows.specs.declared.standing.Standing.{Standing}
use Rattle.nob_table_rows.specs.declared.standing.State.TheVariants as states
use Rattle.nob_table_rows.specs.Counts.{is_held}
use Rattle.nob_rows.specs.Rows.{row_at}
use Rattle.nob_table_rows.specs.Standings as standings
use Rattle.nob_table.specs.Table.{standing, was_given}
use Rattle.nob_model_types.specs.declared.deed.Deed.{Deed}
use Rattle.nob_model_types.specs.declared.deed.Deed.TheVariants.{Act, Clean, Open}
use Rattle.nob_model_types.specs.declared.turns.OwnerAnswer.TheVariants as said
use Rattle.nob_model_types.specs.declared.turns.Turns.{Turns}
use Rattle.nob_model_types.specs.Objects as objects
use Rattle.nob_model_types.specs.Sessions.{is_peer, closed, item_at}
use Rattle.nob_model_types.specs.Turns.{no_turns, turns, turns_after, is_own, is_pending, is_granted, is_refused, wants_dirty, with_dirty, with_answer, with_clean, carries, names}
use Rattle.nob_model_work.specs.declared.work.Outstanding.{Outstanding}
use Rattle.nob_model_history.specs.declared.transit.SentItem.{SentItem}
use Rattle.nob_model_history.specs.Histories.{history_of}
use Rattle.nob_model_history.specs.Transit as transit
use Rattle.nob_model_history.specs.Transit.{is_some_of}
use Rattle.nob_model_acting.specs.Acting.{fault_of, fault_if, first_fault, is_unknown, awaits_reply}
use Rattle.nob_model_acting.specs.Acting as model
use Rattle.nob_model.specs.Right.{own_ref}
use Rattle.nob_model_acting.specs.Sending.{is_gone}
use Rattle.nob_space_state.specs.Looks as looks
use Rattle.nob_space_state.specs.Parts.{State}
use Rattle.nob_space_state.specs.Shows.{far_state}
use Rattle.nob_space_state.specs.Stands.{Stands, bundle}
use Rattle.nob_space_state.proofs.Calling.{few_refs}
use Rattle.nob_space_state.proofs.Orderly.{orderly}
use Rattle.nob_space_state.proofs.Told.{gone_there}
use Rattle.nob_space_items.specs.Judging.{was_never_given, awaits_answer, item_fault}

-- ---- a walk over a list, until one passes

module _ {A : Type 0} (test : A → Bool) where
  -- behind one that fails it is to be told of the others
  pub any_next : (xs : List A) (k : ℕ) (x : A) → slice_get xs k ≡ Some x → test x ≡ false → list_any test (drop k xs) ≡ list_any test (drop (k + 1) xs)
  any_next [] k x there fails = absurd (none-some x there)
  any_next (first ∷ xs) zero x there fails = let same : first ≡ x = cc in rw (ap test same ∙ fails) refl
  any_next (first ∷ xs) (suc k) x there fails = let more : suc (k + 1) ≡ suc k + 1 = omega arith in any_next xs k x there fails ∙ ap (λ j. list_any test (drop j (first ∷ xs))) more

  -- one that passes tells
  pub any_first : (xs : List A) (k : ℕ) (x : A) → slice_get xs k ≡ Some x → test x ≡ true → list_any test (drop k xs) ≡ true
  any_first [] k x there passes = absurd (none-some x there)
  any_first (first ∷ xs) zero x there passes = let same : first ≡ x = cc in rw (ap test same ∙ passes) refl
  any_first (first ∷ xs) (suc k) x there passes = any_first xs k x there passes

  -- behind the last none passes
  pub any_last : (xs : List A) (k : ℕ) → slice_get xs k ≡ None → list_any test (drop k xs) ≡ false
  any_last [] k none = ap (list_any test) (drop-nil k)
  any_last (first ∷ xs) zero none = absurd (none-some first (sym none))
  any_last (first ∷ xs) (suc k) none = any_last xs k none

-- an item that has a spelling carries few counted references
pub few_carried : (item : Item) → Fits item → length (counted_in item) ≤ 32
few_carried (items.Call call target method value) fits = few_refs value fits.3
few_carried (items.Reply call status value) fits = few_refs value fits.2
few_carried (items.Settle item) fits = omega arith
few_carried (items.Dirty index) fits = omega arith
few_carried (items.DirtyOk index) fits = omega arith
few_carried (items.DirtyNo index) fits = omega arith
few_carried (items.Clean index) fits = omega arith

-- ---- what isn't counted is never asked for

uncounted_apart : (rep : WireRep) → is_counted rep ≡ false → (reps : List WireRep) → list_any (is_same rep) (filter is_counted reps) ≡ false
uncounted_apart rep uncounted [] = refl
uncounted_apart rep uncounted (other ∷ reps) = elim (is_counted other) as (λ b. is_counted other ≡ b → list_any (is_same rep) (cond b (other ∷ filter is_counted reps) (filter is_counted reps)) ≡ false) [
  | true ↦ λ counted. let apart : is_same rep other ≡ false = grind (arith, nat_tests, uncounted, counted) in rw apart (uncounted_apart rep uncounted reps)
  | false ↦ λ _. uncounted_apart rep uncounted reps
] refl

-- a reference that an item doesn't carry is asked for as before
not_carried : (b wants : Bool) (t : Turns) → b ≡ false → t.asks ≡ false → (if b && wants then with_dirty t else t).asks ≡ false
not_carried true wants t never idle = absurd (cc)
not_carried false wants t never idle = idle

unasked_after : (s n p : ℕ) (rep : WireRep) → is_counted rep ≡ false → (item : Option Item) (D : List Deed) → (turns s n rep D).asks ≡ false → (turns_after s n p rep item D (turns s n rep D)).asks ≡ false
unasked_after s n p rep uncounted None D idle = idle
unasked_after s n p rep uncounted (Some (items.Call call target method value)) D idle = not_carried (carries rep (items.Call call target method value)) (wants_dirty s n rep D (turns s n rep D)) (turns s n rep D) (uncounted_apart rep uncounted (refs_in value)) idle
unasked_after s n p rep uncounted (Some (items.Reply call status value)) D idle = not_carried (carries rep (items.Reply call status value)) (wants_dirty s n rep D (turns s n rep D)) (turns s n rep D) (uncounted_apart rep uncounted (refs_in value)) idle
unasked_after s n p rep uncounted (Some (items.Settle item)) D idle = idle
unasked_after s n p rep uncounted (Some (items.Dirty index)) D idle = idle
unasked_after s n p rep uncounted (Some (items.DirtyOk index)) D idle = elim (names rep p index) as (λ b. (if b then with_answer said.Granted (turns s n rep D) else turns s n rep D).asks ≡ false) [ true ↦ idle | false ↦ idle ]
unasked_after s n p rep uncounted (Some (items.DirtyNo index)) D idle = elim (names rep p index) as (λ b. (if b then with_answer said.Refused (turns s n rep D) else turns s n rep D).asks ≡ false) [ true ↦ idle | false ↦ idle ]
unasked_after s n p rep uncounted (Some (items.Clean index)) D idle = idle

-- nothing is asked of the owner of a reference that isn't counted
unasked : (s n : ℕ) (rep : WireRep) → is_counted rep ≡ false → (D : List Deed) → (turns s n rep D).asks ≡ false
unasked s n rep uncounted [] = refl
unasked s n rep uncounted (Act p k ∷ D) = unasked_after s n p rep uncounted (item_at p k D) D (unasked s n rep uncounted D)
unasked s n rep uncounted (Clean other ∷ D) = elim (is_same rep other) as (λ b. (if b then with_clean (turns s n rep D) else turns s n rep D).asks ≡ false) [ true ↦ refl | false ↦ unasked s n rep uncounted D ]
unasked s n rep uncounted (Open q k ∷ D) = elim (q == rep.owner) as (λ b. (if b then no_turns else turns s n rep D).asks ≡ false) [ true ↦ refl | false ↦ unasked s n rep uncounted D ]
unasked s n rep uncounted (_ ∷ D) = unasked s n rep uncounted D

-- ---- bundles

-- there is a bundle where there is one to count
bundle_counted : (p k : ℕ) (bundles : List Pinned) → has_bundle bundles p k ≡ nat_lt 0 (sum_by (λ (one : Pinned). cond (is_of p k one) 1 0) bundles)
bundle_counted p k [] = refl
bundle_counted p k (one ∷ bundles) =
    let rest = bundle_counted p k bundles in
    rw (sum_by-cons (λ (b : Pinned). cond (is_of p k b) 1 0) one bundles)
    (elim (is_of p k one) as (λ b. (b || has_bundle bundles p k) ≡ nat_lt 0 (cond b 1 0 + sum_by (λ (x : Pinned). cond (is_of p k x) 1 0) bundles)) [
      | true ↦ grind (arith, nat_tests)
      | false ↦ rest ∙ ap (nat_lt 0) (omega arith)
    ])

item_counted : (p k : ℕ) (sent_items : List SentItem) → is_some_of (filter (λ (one : SentItem). one.to == p && one.number == k) sent_items) ≡ nat_lt 0 (sum_by (λ (one : Pinned). cond (is_of p k one) 1 0) (map bundle sent_items))
item_counted p k [] = refl
item_counted p k (one ∷ sent_items) =
    let rest = item_counted p k sent_items in
    rw (sum_by-cons (λ (b : Pinned). cond (is_of p k b) 1 0) (bundle one) (map bundle sent_items))
    (elim (one.to == p && one.number == k) as (λ b. is_some_of (cond b (one ∷ filter (λ (x : SentItem). x.to == p && x.number == k) sent_items) (filter (λ (x : SentItem). x.to == p && x.number == k) sent_items)) ≡ nat_lt 0 (cond b 1 0 + sum_by (λ (x : Pinned). cond (is_of p k x) 1 0) (map bundle sent_items))) [
      | true ↦ grind (arith, nat_tests)
      | false ↦ rest ∙ ap (nat_lt 0) (omega arith)
    ])

-- ---- the state

-- an own index is unknown where it was never given
given_there : (given : Bool) (row : Option Counts) (exported withdrawn : Bool) → given ≡ exported → standings.is_live (standings.own_standing given row).state ≡ (exported && not withdrawn) → standings.is_unknown (standings.own_standing given row).state ≡ not exported
given_there given (Some counts) true withdrawn is live = refl
given_there given (Some counts) false withdrawn is live = absurd (cc)
given_there true None exported withdrawn is live = rw (sym is) refl
given_there false None exported withdrawn is live = rw (sym is) refl

never_zero : (index : ℕ) (exported : Bool) → (index == 0 ≡ true → exported ≡ false) → not exported ≡ (index == 0 || not exported)
never_zero index exported none = elim (index == 0) as (λ b. index == 0 ≡ b → not exported ≡ (b || not exported)) [ true ↦ λ zeroth. ap not (none zeroth) | false ↦ λ _. refl ] refl

-- on a session that is open here a reference is pending where its Dirty waits
pending_there : (held : Bool) (t : Turns) → standings.is_pending (far_state false held t) ≡ is_pending t
pending_there held t = elim (is_pending t) as (λ b. standings.is_pending (if b then states.Pending else if is_granted t then states.Granted else if is_refused t then states.Refused else states.Unknown) ≡ b) [
  | true ↦ refl
  | false ↦ elim (is_granted t) as (λ b. standings.is_pending (if b then states.Granted else if is_refused t then states.Refused else states.Unknown) ≡ false) [
    | true ↦ refl
    | false ↦ elim (is_refused t) as (λ b. standings.is_pending (if b then states.Refused else states.Unknown) ≡ false) [ true ↦ refl | false ↦ refl ]
  ]
]

module _ {s n : ℕ} {limits : Limits} {st : State} {D : List Deed} (stands : Stands s n limits st D) where
  -- an own index is live where the table has it so
  gone_index : (index : ℕ) → looks.is_gone s st.table (own_ref s index) ≡ (not (index == 0) && not (objects.is_live s index D))
  gone_index index =
      ap (λ b. not (index == 0) && (b && not (standings.is_live (standing st.table (own_ref s index)).state))) (nat_eq_equiv.refl s)
      ∙ ap (λ b. not (index == 0) && not b) (stands.table.live index)

  carried_there : (reps : List WireRep) → list_any (looks.is_gone s st.table) (filter is_counted reps) ≡ list_any (λ rep. is_gone s rep (history_of s n D)) (filter is_counted reps)
  carried_there [] = refl
  carried_there (rep ∷ reps) = elim (is_counted rep) as (λ b. is_counted rep ≡ b → list_any (looks.is_gone s st.table) (cond b (rep ∷ filter is_counted reps) (filter is_counted reps)) ≡ list_any (λ w. is_gone s w (history_of s n D)) (cond b (rep ∷ filter is_counted reps) (filter is_counted reps))) [
    | true ↦ λ counted.
        let here : looks.is_gone s st.table rep ≡ is_gone s rep (history_of s n D) = gone_there stands rep ∙ ap (λ b. b && is_gone s rep (history_of s n D)) counted in
        λ i. here i || carried_there reps i
    | false ↦ λ _. carried_there reps
  ] refl

  never_given_there : (index : ℕ) → was_never_given s index st ≡ is_unknown s index (history_of s n D)
  never_given_there index =
      let me : s == st.table.me ≡ true = ap (λ m. s == m) stands.table.me ∙ nat_eq_equiv.refl s in
      let given : was_given st.table.exported index ≡ objects.is_exported s index D = ap (λ m. was_given m index) stands.table.exported ∙ sym ((orderly stands).exported index) in
      let its : standing st.table (own_ref s index) ≡ standings.own_standing (was_given st.table.exported index) (row_at st.table.objects (own_ref s index)) = rw me refl in
      let live : standings.is_live (standings.own_standing (was_given st.table.exported index) (row_at st.table.objects (own_ref s index))).state ≡ objects.is_live s index D = ap (λ (it : Standing). standings.is_live it.state) (sym its) ∙ stands.table.live index in
      ap (λ (it : Standing). standings.is_unknown it.state) its
      ∙ given_there (was_given st.table.exported index) (row_at st.table.objects (own_ref s index)) (objects.is_exported s index D) (objects.is_withdrawn index D) given live
      ∙ never_zero index (objects.is_exported s index D) (λ zeroth. (orderly stands).exported index ∙ grind (arith, nat_tests, zeroth))

  -- there is a bundle of an item where it is pinned
  pub bundle_there : (p k : ℕ) → has_bundle st.pins.bundles p k ≡ transit.has_bundle p k (history_of s n D)
  bundle_there p k =
      bundle_counted p k st.pins.bundles
      ∙ ap (nat_lt 0) (stands.pins (λ (one : Pinned). cond (is_of p k one) 1 0))
      ∙ sym (item_counted p k (transit.bundles (history_of s n D)))

  -- a Dirty waits where the reference is pending
  pub awaits_there : (p index : ℕ) → is_peer s n p ≡ true → closed p D ≡ false → awaits_answer p index st ≡ model.awaits_answer s n p index (history_of s n D)
  awaits_there p index peer up = elim (index == 0) as (λ b. index == 0 ≡ b → (not b && standings.is_pending (standing st.table (own_ref p index)).state) ≡ is_pending (turns s n (own_ref p index) D)) [
    | true ↦ λ agent. let idle : (turns s n (own_ref p index) D).asks ≡ false = unasked s n (own_ref p index) (ap not agent) D in rw idle refl
    | false ↦ λ counted.
        let away : is_own s (own_ref p index) ≡ false = grind (arith, nat_tests, peer) in
        ap standings.is_pending (stands.table.far (own_ref p index) (ap not counted) away ∙ ap (λ b. far_state b (is_held (standing st.table (own_ref p index)).counts) (turns s n (own_ref p index) D)) up)
        ∙ pending_there (is_held (standing st.table (own_ref p index)).counts) (turns s n (own_ref p index) D)
  ] refl

  awaited_there : (p call : ℕ) → list_any (awaits_reply p call) st.work.calls ≡ list_any (awaits_reply p call) (history_of s n D).work.calls
  awaited_there p call = ap (λ (W : Outstanding). list_any (awaits_reply p call) W.calls) stands.work

  -- the first fault of an item
  pub fault_there : (p : ℕ) (item : Item) → is_peer s n p ≡ true → closed p D ≡ false → item_fault s p item st ≡ fault_of s n p item (history_of s n D)
  unfolding item_fault fault_of
  fault_there p (items.Call call target method value) peer up = λ i. first_fault (fault_if (gone_index target i) BadReference) (fault_if (carried_there (refs_in value) i) BadReference)
  fault_there p (items.Reply call status value) peer up = λ i. first_fault (fault_if (not (awaited_there p call i)) OutOfPlace) (fault_if (carried_there (refs_in value) i) BadReference)
  fault_there p (items.Settle item) peer up = λ i. fault_if (not (bundle_there p item i)) OutOfPlace
  fault_there p (items.Dirty index) peer up = λ i. fault_if (never_given_there index i) BadReference
  fault_there p (items.DirtyOk index) peer up = λ i. fault_if (not (awaits_there p index peer up i)) OutOfPlace
  fault_there p (items.DirtyNo index) peer up = λ i. fault_if (not (awaits_there p index peer up i)) OutOfPlace
  fault_there p (items.Clean index) peer up = λ i. fault_if (never_given_there index i) BadReference
