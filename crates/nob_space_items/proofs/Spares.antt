-- Which surrogate is given up: the first of the table that can be is the one that is right.
use Rattle.std.proofs.Common.{◌≡◌, ℕ, ◌+◌, ◌<◌, ◌≤◌, Bool, true, false, cond, not, nat_le, nat_lt, ◌&&◌, ◌||◌, ◌==◌, List, [], ◌∷◌, ◌++◌, length, filter, find, Option, Some, None, if◌then◌else◌, refl, sym, ap, subst, ◌∙◌, arith}
use Prim.Native.Nat.{suc}
use Rattle.std.specs.List.{AllByRecursion, list_any}
use Rattle.std.proofs.lemmas.Bool.{and_parts, both_ways}
use Rattle.std.proofs.lemmas.Bool.Decides.{nat_tests, Decides-eqb}
use Rattle.std.proofs.lemmas.Option.{none-some}
use Rattle.nob_ids.specs.Names.{is_same, is_counted}
use Rattle.nob_ids.specs.declared.limits.Limits.{Limits}
use Rattle.nob_ids.specs.declared.wire_rep.WireRep.{WireRep}
use Rattle.nob_item.specs.Kinds.{counted_in, refs_carried}
use Rattle.nob_item.specs.declared.item.Item.{Item}
use Rattle.nob_item.specs.declared.item.Item.TheVariants as items
use Rattle.nob_pins.specs.Bundles.{count_of}
use Rattle.nob_table_rows.specs.Counts.{is_held}
use Rattle.nob_table_rows.specs.Standings as standings
use Rattle.nob_table_rows.specs.declared.standing.State.{State as TableState}
use Rattle.nob_table_rows.specs.declared.standing.State.TheVariants as states
use Rattle.nob_table.specs.Table.{standing, place_of, is_kept, is_spare as is_unkept, NoneSpareFrom}
use Rattle.nob_table_rows.proofs.Same.{same_is, same_laws}
use Rattle.nob_model_types.specs.declared.deed.Deed.{Deed}
use Rattle.nob_model_types.specs.declared.deed.Deed.TheVariants as did
use Rattle.nob_model_types.specs.declared.turns.Turns.{Turns}
use Rattle.nob_model_types.specs.Sessions.{is_peer, closed, item_at}
use Rattle.nob_model_types.specs.Turns.{turns, is_own, is_usable, is_pending, is_granted, is_refused, wants_dirty}
use Rattle.nob_model_work.specs.Work.{work}
use Rattle.nob_model_work.specs.Gifts.{gifts, gifts_of_act, once}
use Rattle.nob_model_history.specs.Histories.{history_of}
use Rattle.nob_model_history.specs.Transit.{dirties, once_last, by_last_dirty, later_place, last_place, is_idle, first_idle}
use Rattle.nob_model_history.proofs.Dirtying.{asked_in, dirties_more, message_asks, RisesIn, IsBefore, places_rise}
use Rattle.nob_model_history.proofs.Turning.{pending_waits, waiting_stands}
use Rattle.nob_model_history.proofs.Unasked.{dirties_same}
use Rattle.nob_model.proofs.Carrying.{all_filter}
use Rattle.nob_model.proofs.Waiting.{all_weaker}
use Rattle.nob_space_state.specs.Parts.{State}
use Rattle.nob_space_state.specs.Shows.{behind, far_state}
use Rattle.nob_space_state.specs.Stands.{Stands}
use Rattle.nob_space_state.proofs.Told.{held_there}
use Rattle.nob_space_state.proofs.Pinned.{pins_there}
use Rattle.nob_space_state.proofs.Kept.{users_there}
use Rattle.nob_space_items.specs.Cleaning.{is_spare, NoneSpareBelow, IsFirstSpare, ArePlacedApart, ArePinned}
use Rattle.std.proofs.lemmas.Cmp.{nat_eq_equiv}

-- ---- the walk over the surrogates that nothing holds

-- an idle surrogate without pins can be given up
pub is_unpinned : (st : State) (rep : WireRep) → is_unkept st.table rep ≡ true → not (count_of st.pins.bundles rep == 0) ≡ false → is_spare st rep ≡ true
is_unpinned st rep spare free = let idle : standings.is_idle (standing st.table rep) ≡ true = (and_parts (standings.is_idle (standing st.table rep)) (not (is_kept st.table rep)) spare).0 in rw idle (elim (count_of st.pins.bundles rep == 0) as (λ b. not b ≡ false → b ≡ true) [ true ↦ λ _. refl | false ↦ λ e. absurd (let bad : true ≡ false = e in cc) ] free)

-- what is kept and has pins can't be given up, nor can what isn't kept but held
unspare : (idle kept free : Bool) → (idle && not kept) ≡ false → (kept ≡ true → free ≡ false) → (idle && free) ≡ false
unspare true true free e pinned = pinned refl
unspare true false free e pinned = absurd (let bad : true ≡ false = e in cc)
unspare false kept free e pinned = refl

-- where none before one place can be given up and the table finds none from there to another, none before that can
pub none_next : (st : State) (from to : ℕ) → ArePinned st → NoneSpareBelow st from → NoneSpareFrom st.table from to → NoneSpareBelow st to
none_next st from to pinned before between rep place at under = elim (not (nat_le from place)) as (λ b. not (nat_le from place) ≡ b → is_spare st rep ≡ false) [
  | true ↦ λ e. before rep place at (grind (arith, nat_tests, e))
  | false ↦ λ e. let low : from ≤ place = grind (arith, nat_tests, e) in unspare (standings.is_idle (standing st.table rep)) (is_kept st.table rep) (count_of st.pins.bundles rep == 0) (between rep place at low under) (pinned rep place at)
] refl

-- nor can one that has pins
pub none_past : (st : State) (rep : WireRep) (at : ℕ) → ArePlacedApart st.table → place_of st.table rep ≡ Some at → not (count_of st.pins.bundles rep == 0) ≡ true → NoneSpareBelow st at → NoneSpareBelow st (at + 1)
none_past st rep at apart here pinned before other place there under = elim (nat_lt place at) as (λ b. nat_lt place at ≡ b → is_spare st other ≡ false) [
  | true ↦ λ e. before other place there (grind (arith, nat_tests, e))
  | false ↦ λ e.
      let same : place ≡ at = grind (arith, nat_tests, e, under) in
      let one : rep ≡ other = same_is rep other (apart rep other at here (there ∙ ap Some same)) in
      ap (is_spare st) (sym one) ∙ no_spare (standings.is_idle (standing st.table rep)) (count_of st.pins.bundles rep == 0) pinned
] refl
  where
    no_spare : (idle free : Bool) → not free ≡ true → (idle && free) ≡ false
    no_spare true true e = absurd (let bad : false ≡ true = e in cc)
    no_spare false true e = refl
    no_spare true false e = refl
    no_spare false false e = refl

-- ---- whatever was asked for is counted, and a peer's

-- a reference that a Dirty may ask for
abbrev pub CanBeAsked : (s n : ℕ) → WireRep → Type 0
CanBeAsked s n rep = (is_counted rep ≡ true) × (is_peer s n rep.owner ≡ true)

pub all_append : {X : Type 0} (P : X → Type 0) (xs ys : List X) → AllByRecursion P xs → AllByRecursion P ys → AllByRecursion P (xs ++ ys)
all_append P [] ys all more = more
all_append P (x ∷ xs) ys all more = (all.0, all_append P xs ys all.1 more)

-- those that pass a test pass it
all_pass : {X : Type 0} (P : X → Type 0) (test : X → Bool) (xs : List X) → AllByRecursion P xs → AllByRecursion (λ x. P x × (test x ≡ true)) (filter test xs)
all_pass P test [] all = tt
all_pass P test (x ∷ xs) all = elim (test x) as (λ b. test x ≡ b → AllByRecursion (λ y. P y × (test y ≡ true)) (cond b (x ∷ filter test xs) (filter test xs))) [
  | true ↦ λ e. ((all.0, e), all_pass P test xs all.1)
  | false ↦ λ e. all_pass P test xs all.1
] refl

pub all_once : (P : WireRep → Type 0) (reps : List WireRep) → AllByRecursion P reps → AllByRecursion P (once reps)
all_once P [] all = tt
all_once P (rep ∷ reps) all = (all.0, all_filter P (λ other. not (is_same rep other)) (once reps) (all_once P reps all.1))

counted_all : (reps : List WireRep) → AllByRecursion (λ rep. is_counted rep ≡ true) (filter is_counted reps)
counted_all [] = tt
counted_all (rep ∷ reps) = elim (is_counted rep) as (λ b. is_counted rep ≡ b → AllByRecursion (λ w. is_counted w ≡ true) (cond b (rep ∷ filter is_counted reps) (filter is_counted reps))) [ true ↦ λ e. (e, counted_all reps) | false ↦ λ _. counted_all reps ] refl

-- the references of an item that want a Dirty
wanted_asked : (s n : ℕ) (item : Item) (D : List Deed) → AllByRecursion (CanBeAsked s n) (filter (λ (rep : WireRep). wants_dirty s n rep D (turns s n rep D)) (once (counted_in item)))
wanted_asked s n item D =
    all_weaker (λ rep. (is_counted rep ≡ true) × (wants_dirty s n rep D (turns s n rep D) ≡ true)) (CanBeAsked s n) (λ rep both. (both.0, (and_parts _ _ (and_parts _ _ both.1).0).0))
    (filter (λ (rep : WireRep). wants_dirty s n rep D (turns s n rep D)) (once (counted_in item)))
    (all_pass (λ rep. is_counted rep ≡ true) (λ (rep : WireRep). wants_dirty s n rep D (turns s n rep D)) (once (counted_in item)) (all_once (λ rep. is_counted rep ≡ true) (counted_in item) (counted_all (refs_carried item))))

-- what a deed asks for
message_asked : (s n p k : ℕ) (D : List Deed) (item : Option Item) → item_at p k D ≡ item → AllByRecursion (CanBeAsked s n) (dirties (history_of s n D)) → AllByRecursion (CanBeAsked s n) (dirties (history_of s n (did.Act p k ∷ D)))
unfolding gifts_of_act
message_asked s n p k D (Some (items.Call call target method value)) is before =
    subst (AllByRecursion (CanBeAsked s n)) (sym (dirties_more s n (did.Act p k) D))
    (all_append (CanBeAsked s n) (dirties (history_of s n D)) (asked_in (gifts s n (did.Act p k) D (work s n D))) before (subst (AllByRecursion (CanBeAsked s n)) (sym (message_asks s n p k (items.Call call target method value) D (work s n D) is refl)) (wanted_asked s n (items.Call call target method value) D)))
message_asked s n p k D (Some (items.Reply call status value)) is before =
    subst (AllByRecursion (CanBeAsked s n)) (sym (dirties_more s n (did.Act p k) D))
    (all_append (CanBeAsked s n) (dirties (history_of s n D)) (asked_in (gifts s n (did.Act p k) D (work s n D))) before (subst (AllByRecursion (CanBeAsked s n)) (sym (message_asks s n p k (items.Reply call status value) D (work s n D) is refl)) (wanted_asked s n (items.Reply call status value) D)))
message_asked s n p k D item is before = subst (AllByRecursion (CanBeAsked s n)) (sym (dirties_same s n (did.Act p k) D (rw is refl))) before

pub all_asked : (s n : ℕ) (D : List Deed) → AllByRecursion (CanBeAsked s n) (dirties (history_of s n D))
all_asked s n [] = tt
all_asked s n (did.Act p k ∷ D) = message_asked s n p k D (item_at p k D) refl (all_asked s n D)
all_asked s n (deed ∷ D) = subst (AllByRecursion (CanBeAsked s n)) (sym (dirties_same s n deed D refl)) (all_asked s n D)

all_last : (P : WireRep → Type 0) (reps : List WireRep) → AllByRecursion P reps → AllByRecursion P (once_last reps)
all_last P [] all = tt
all_last P (rep ∷ reps) all = elim (list_any (is_same rep) reps) as (λ b. AllByRecursion P (if b then once_last reps else rep ∷ once_last reps)) [ true ↦ all_last P reps all.1 | false ↦ (all.0, all_last P reps all.1) ]

-- ---- places

-- one place is one reference's
last_apart : (rep other : WireRep) (place : ℕ) (reps : List WireRep) → last_place rep reps ≡ Some place → last_place other reps ≡ Some place → is_same rep other ≡ true
last_apart rep other place [] here there = absurd (none-some place here)
last_apart rep other place (first ∷ reps) here there = apart (λ k. last_apart rep other k reps) (last_place rep reps) (last_place other reps) refl refl here there
  where
    some_same : {x y : ℕ} → Some x ≡ Some y → x ≡ y
    some_same e = cc

    at_first : (w : WireRep) (b : Bool) → is_same w first ≡ b → (if b then Some 0 else None) ≡ Some place → (is_same w first ≡ true) × (place ≡ 0)
    at_first w true is e = (is, sym (some_same e))
    at_first w false is e = absurd (none-some place e)

    past_first : (k : ℕ) → Some (k + 1) ≡ Some place → place ≡ k + 1
    past_first k e = sym (some_same e)

    apart : ((k : ℕ) → last_place rep reps ≡ Some k → last_place other reps ≡ Some k → is_same rep other ≡ true) → (one two : Option ℕ) → last_place rep reps ≡ one → last_place other reps ≡ two → later_place one (is_same rep first) ≡ Some place → later_place two (is_same other first) ≡ Some place → is_same rep other ≡ true
    apart again (Some a) (Some b) one two here there =
        let first_at = past_first a here in
        let other_at = past_first b there in
        let less : b ≡ a = omega (arith, first_at, other_at) in
        again a one (two ∙ ap Some less)
    apart again (Some a) None one two here there = let low = past_first a here in let none = (at_first other (is_same other first) refl there).1 in absurd (omega (arith, low, none))
    apart again None (Some b) one two here there = let low = past_first b there in let none = (at_first rep (is_same rep first) refl here).1 in absurd (omega (arith, low, none))
    apart again None None one two here there =
        let one_is : rep ≡ first = same_is rep first (at_first rep (is_same rep first) refl here).0 in
        let two_is : other ≡ first = same_is other first (at_first other (is_same other first) refl there).0 in
        subst (λ (w : WireRep). is_same rep w ≡ true) (one_is ∙ sym two_is) (same_laws.refl rep)

-- what has a place stands in the list
placed_stands : (rep : WireRep) (place : ℕ) (reps : List WireRep) → last_place rep reps ≡ Some place → list_any (is_same rep) reps ≡ true
placed_stands rep place [] at = absurd (none-some place at)
placed_stands rep place (first ∷ reps) at = elim (is_same rep first) as (λ b. later_place (last_place rep reps) b ≡ Some place → (b || list_any (is_same rep) reps) ≡ true) [
  | true ↦ λ _. refl
  | false ↦ λ e. elim (last_place rep reps) as (λ found. last_place rep reps ≡ found → later_place found false ≡ Some place → list_any (is_same rep) reps ≡ true) [
    | Some k ↦ λ there _. placed_stands rep k reps there
    | None ↦ λ none e. absurd (none-some place e)
  ] refl e
] at

-- and stands among each once
last_stands : (rep : WireRep) (reps : List WireRep) → list_any (is_same rep) reps ≡ true → list_any (is_same rep) (once_last reps) ≡ true
last_stands rep [] there = there
last_stands rep (first ∷ reps) there = elim (list_any (is_same first) reps) as (λ b. list_any (is_same first) reps ≡ b → list_any (is_same rep) (if b then once_last reps else first ∷ once_last reps) ≡ true) [
  | true ↦ λ again. last_stands rep reps (elim (is_same rep first) as (λ b. is_same rep first ≡ b → (b || list_any (is_same rep) reps) ≡ true → list_any (is_same rep) reps ≡ true) [
    | true ↦ λ same _. subst (λ (w : WireRep). list_any (is_same w) reps ≡ true) (sym (same_is rep first same)) again
    | false ↦ λ _ rest. rest
  ] refl there)
  | false ↦ λ _. elim (is_same rep first) as (λ b. (b || list_any (is_same rep) reps) ≡ true → (b || list_any (is_same rep) (once_last reps)) ≡ true) [ true ↦ λ _. refl | false ↦ λ rest. last_stands rep reps rest ] there
] refl

-- a place is there, below the length
abbrev IsPlacedBelow : ℕ → Option ℕ → Type 0
IsPlacedBelow k (Some place) = place < k
IsPlacedBelow k None = ⊥

-- each element of a list has a place below its length
all_below : (reps : List WireRep) → AllByRecursion (λ other. IsPlacedBelow (length reps) (last_place other reps)) reps
all_below [] = tt
all_below (rep ∷ reps) = (
  here (last_place rep reps) (all_low rep reps),
  all_weaker (λ other. IsPlacedBelow (length reps) (last_place other reps)) (λ other. IsPlacedBelow (length (rep ∷ reps)) (last_place other (rep ∷ reps))) (λ other below. later (last_place other reps) (is_same other rep) below) reps (all_below reps),
)
  where
    -- a place, if there is one, is below the length
    IsLow : ℕ → Option ℕ → Type 0
    IsLow k (Some place) = place < k
    IsLow k None = Unit {0}

    later_low : (k : ℕ) (found : Option ℕ) (b : Bool) → IsLow k found → IsLow (suc k) (later_place found b)
    later_low k (Some place) b less = let more : place + 1 < suc k = omega (arith, less) in more
    later_low k None true less = let more : 0 < suc k = omega arith in more
    later_low k None false less = tt

    all_low : (w : WireRep) (ws : List WireRep) → IsLow (length ws) (last_place w ws)
    all_low w [] = tt
    all_low w (x ∷ xs) = later_low (length xs) (last_place w xs) (is_same w x) (all_low w xs)

    here : (found : Option ℕ) → IsLow (length reps) found → IsPlacedBelow (length (rep ∷ reps)) (later_place found (is_same rep rep))
    here (Some place) less = let more : place + 1 < suc (length reps) = omega (arith, less) in more
    here None less = rw (same_laws.refl rep) (let more : 0 < suc (length reps) = omega arith in more)

    later : (found : Option ℕ) (b : Bool) → IsPlacedBelow (length reps) found → IsPlacedBelow (length (rep ∷ reps)) (later_place found b)
    later (Some place) b less = let more : place + 1 < suc (length reps) = omega (arith, less) in more
    later None b less = absurd less

-- ---- the first that passes a test, by places

first_found : (test : WireRep → Bool) (all : List WireRep) (rep : WireRep) (reps : List WireRep) → RisesIn all reps → list_any (is_same rep) reps ≡ true → test rep ≡ true
    → AllByRecursion (λ other. IsBefore (last_place other all) (last_place rep all) → test other ≡ false) reps → find test reps ≡ Some rep
first_found test all rep [] rise there passes before = let bad : false ≡ true = there in absurd (cc)
first_found test all rep (first ∷ reps) rise there passes before = elim (is_same rep first) as (λ b. is_same rep first ≡ b → (b || list_any (is_same rep) reps) ≡ true → cond (test first) (Some first) (find test reps) ≡ Some rep) [
  | true ↦ λ same _. let is : rep ≡ first = same_is rep first same in rw (ap test (sym is) ∙ passes) (ap Some (sym is))
  | false ↦ λ _ later. rw (before.0 (found_has reps later rise.0)) (first_found test all rep reps rise.1 later passes before.1)
] refl there
  where
    found_has : (xs : List WireRep) → list_any (is_same rep) xs ≡ true → AllByRecursion (λ other. IsBefore (last_place first all) (last_place other all)) xs → IsBefore (last_place first all) (last_place rep all)
    found_has [] there behind = let bad : false ≡ true = there in absurd (cc)
    found_has (x ∷ xs) there behind = elim (is_same rep x) as (λ b. is_same rep x ≡ b → (b || list_any (is_same rep) xs) ≡ true → IsBefore (last_place first all) (last_place rep all)) [
      | true ↦ λ same _. subst (λ (w : WireRep). IsBefore (last_place first all) (last_place w all)) (sym (same_is rep x same)) behind.0
      | false ↦ λ _ later. found_has xs later behind.1
    ] refl there

none_found : (test : WireRep → Bool) (reps : List WireRep) → AllByRecursion (λ other. test other ≡ false) reps → find test reps ≡ None
none_found test [] all = refl
none_found test (rep ∷ reps) all = rw all.0 (none_found test reps all.1)

-- ---- by the state

-- granted in the table is usable
pub granted_far : (has_closed held : Bool) (t : Turns) → standings.is_granted (far_state has_closed held t) ≡ (is_granted t && not has_closed)
granted_far true true t = elim (is_granted t) as (λ b. false ≡ (b && false)) [ true ↦ refl | false ↦ refl ]
granted_far true false t = elim (is_granted t) as (λ b. false ≡ (b && false)) [ true ↦ refl | false ↦ refl ]
granted_far false held t = elim (is_pending t) as (λ p. is_pending t ≡ p → standings.is_granted (far_state false held t) ≡ (is_granted t && true)) [
  | true ↦ λ pending. rw pending (elim (is_granted t) as (λ g. is_granted t ≡ g → false ≡ (g && true)) [ true ↦ λ granted. absurd (not_both t pending granted) | false ↦ λ _. refl ] refl)
  | false ↦ λ idle. rw idle (elim (is_granted t) as (λ g. standings.is_granted (if g then states.Granted else if is_refused t then states.Refused else states.Unknown) ≡ (g && true)) [ true ↦ refl | false ↦ elim (is_refused t) as (λ r. standings.is_granted (if r then states.Refused else states.Unknown) ≡ false) [ true ↦ refl | false ↦ refl ] ])
] refl
  where
    not_both : (t : Turns) → is_pending t ≡ true → is_granted t ≡ true → ⊥
    not_both t pending granted = both_ways (is_granted t) (waiting_stands t (pending_waits t pending)).1 granted

module _ {s n : ℕ} {limits : Limits} {st : State} {D : List Deed} (stands : Stands s n limits st D) where
  -- a place in the table is that of the last Dirty, behind those that were sent before the table began
  place_there : (rep : WireRep) (place : ℕ) → place_of st.table rep ≡ Some place → last_place rep (dirties (history_of s n D)) ≡ Some (stands.table.passed + place)
  place_there rep place at = elim (standings.is_surrogate (standing st.table rep).state) as (λ b. (if b then last_place rep (dirties (history_of s n D)) else None) ≡ Some (stands.table.passed + place) → last_place rep (dirties (history_of s n D)) ≡ Some (stands.table.passed + place)) [
    | true ↦ λ e. e
    | false ↦ λ e. absurd (none-some (stands.table.passed + place) e)
  ] (sym (stands.table.places rep) ∙ ap (behind stands.table.passed) at)

  pub apart_there : ArePlacedApart st.table
  apart_there rep other place here there = last_apart rep other (stands.table.passed + place) (dirties (history_of s n D)) (place_there rep place here) (place_there other place there)

  -- a reference of a peer is granted in the table exactly where it is usable
  pub usable_there : (rep : WireRep) → is_counted rep ≡ true → is_own s rep ≡ false → standings.is_granted (standing st.table rep).state ≡ is_usable s n rep D
  usable_there rep counted far = ap standings.is_granted (stands.table.far rep counted far) ∙ granted_far (closed rep.owner D) (is_held (standing st.table rep).counts) (turns s n rep D)

  -- a peer is another space
  peer_far : (rep : WireRep) → is_peer s n rep.owner ≡ true → is_own s rep ≡ false
  peer_far rep peer = elim (rep.owner == s) as (λ b. rep.owner == s ≡ b → b ≡ false) [ true ↦ λ own. absurd (grind (arith, nat_tests, own, peer)) | false ↦ λ _. refl ] refl

  -- a surrogate can be given up by the state exactly where it can by the list
  pub spare_there : (rep : WireRep) → is_counted rep ≡ true → is_peer s n rep.owner ≡ true → is_spare st rep ≡ is_idle s n (history_of s n D) rep
  spare_there rep counted peer =
      if_both (standings.is_granted (standing st.table rep).state) (is_held (standing st.table rep).counts) (count_of st.pins.bundles rep == 0)
      ∙ (λ i. usable_there rep counted (peer_far rep peer) i && not (held_there stands rep counted i) && pins_there stands rep i == 0)
    where
      if_both : (granted held free : Bool) → ((if granted then not held else false) && free) ≡ (granted && not held && free)
      if_both true held free = refl
      if_both false held free = refl

  -- it is a surrogate, and its last Dirty has its place in the table, which is so many before
  idle_placed : (rep : WireRep) (place : ℕ) → is_counted rep ≡ true → is_peer s n rep.owner ≡ true → last_place rep (dirties (history_of s n D)) ≡ Some place → is_idle s n (history_of s n D) rep ≡ true → (at : ℕ) × (place_of st.table rep ≡ Some at) × (stands.table.passed + at ≡ place)
  idle_placed rep place counted peer at idle =
      let usable : is_usable s n rep D ≡ true = (and_parts _ _ (and_parts _ _ idle).0).0 in
      before (place_of st.table rep) (stands.table.places rep ∙ rw (granted_surrogate (standing st.table rep).state (usable_there rep counted (peer_far rep peer) ∙ usable)) at)
    where
      some_same : (x y : ℕ) → Some x ≡ Some y → x ≡ y
      some_same x y e = cc

      before : (found : Option ℕ) → behind stands.table.passed found ≡ Some place → (at : ℕ) × (found ≡ Some at) × (stands.table.passed + at ≡ place)
      before (Some at) e = (at, refl, some_same (stands.table.passed + at) place e)
      before None e = absurd (none-some place e)

      granted_surrogate : (state : TableState) → standings.is_granted state ≡ true → standings.is_surrogate state ≡ true
      granted_surrogate states.Granted e = refl
      granted_surrogate (_) e = absurd (let bad : false ≡ true = e in cc)

  by_order : AllByRecursion (CanBeAsked s n) (by_last_dirty (history_of s n D))
  by_order = all_last (CanBeAsked s n) (dirties (history_of s n D)) (all_asked s n D)

  -- what has a place in the table was asked for
  placed_among : (rep : WireRep) (place : ℕ) → place_of st.table rep ≡ Some place → list_any (is_same rep) (by_last_dirty (history_of s n D)) ≡ true
  placed_among rep place at = last_stands rep (dirties (history_of s n D)) (placed_stands rep (stands.table.passed + place) (dirties (history_of s n D)) (place_there rep place at))

  -- and can be asked for
  placed_asked : (rep : WireRep) (place : ℕ) → place_of st.table rep ≡ Some place → CanBeAsked s n rep
  placed_asked rep place at = among_has rep (by_last_dirty (history_of s n D)) (placed_among rep place at) by_order
    where
      among_has : (w : WireRep) (reps : List WireRep) → list_any (is_same w) reps ≡ true → AllByRecursion (CanBeAsked s n) reps → CanBeAsked s n w
      among_has w [] there all = let bad : false ≡ true = there in absurd (cc)
      among_has w (x ∷ xs) there all = elim (is_same w x) as (λ b. is_same w x ≡ b → (b || list_any (is_same w) xs) ≡ true → CanBeAsked s n w) [
        | true ↦ λ same _. subst (CanBeAsked s n) (sym (same_is w x same)) all.0
        | false ↦ λ _ later. among_has w xs later all.1
      ] refl there

  pub asked_there : (rep : WireRep) → IsFirstSpare st rep → CanBeAsked s n rep
  asked_there rep first = placed_asked rep first.0 first.1

  -- what is kept from outside is another space's, so it is in transit
  pub pinned_there : ArePinned st
  pinned_there rep place at kept = elim (count_of st.pins.bundles rep == 0) as (λ b. count_of st.pins.bundles rep == 0 ≡ b → b ≡ false) [
    | true ↦ λ none.
        let own = (users_there stands st.table stands.table.kept rep kept ((Decides-eqb (count_of st.pins.bundles rep) 0).0 none)).0 in
        let bad : true ≡ false = sym (subst (λ k. rep.owner == k ≡ true) own (nat_eq_equiv.refl rep.owner)) ∙ peer_far rep (placed_asked rep place at).1 in absurd (cc)
    | false ↦ λ _. refl
  ] refl

  -- it can be given up by the list too
  pub idle_there : (rep : WireRep) → IsFirstSpare st rep → is_idle s n (history_of s n D) rep ≡ true
  idle_there rep first = let asked = asked_there rep first in sym (spare_there rep asked.0 asked.1) ∙ first.2

  -- the first of the table is the first of the list
  pub first_there : (rep : WireRep) → IsFirstSpare st rep → first_idle s n (history_of s n D) ≡ Some rep
  first_there rep first =
      let at : last_place rep (dirties (history_of s n D)) ≡ Some (stands.table.passed + first.0) = place_there rep first.0 first.1 in
      let among : list_any (is_same rep) (by_last_dirty (history_of s n D)) ≡ true = placed_among rep first.0 first.1 in
      first_found (is_idle s n (history_of s n D)) (dirties (history_of s n D)) rep (by_last_dirty (history_of s n D)) (places_rise s n D) among
      (idle_there rep first)
      (all_weaker (CanBeAsked s n) (λ other. IsBefore (last_place other (dirties (history_of s n D))) (last_place rep (dirties (history_of s n D))) → is_idle s n (history_of s n D) other ≡ false)
      (λ other can before. elim (is_idle s n (history_of s n D) other) as (λ b. is_idle s n (history_of s n D) other ≡ b → b ≡ false) [
        | true ↦ λ idle.
            let below = before_place (last_place other (dirties (history_of s n D))) (stands.table.passed + first.0) (subst (IsBefore (last_place other (dirties (history_of s n D)))) at before) in
            let placed = idle_placed other below.0 can.0 can.1 below.1 idle in
            let less = below.2 in
            let same = placed.2 in
            absurd (both_ways (is_spare st other) (first.3 other placed.0 placed.1 (omega (arith, less, same))) (spare_there other can.0 can.1 ∙ idle))
        | false ↦ λ _. refl
      ] refl)
      (by_last_dirty (history_of s n D)) by_order)
    where
      before_place : (found : Option ℕ) (to : ℕ) → IsBefore found (Some to) → (place : ℕ) × (found ≡ Some place) × (place < to)
      before_place (Some place) to less = (place, refl, less)
      before_place None to less = absurd less

  -- where the table has none, there is none
  pub none_there : NoneSpareBelow st st.table.dirties → first_idle s n (history_of s n D) ≡ None
  none_there none =
      none_found (is_idle s n (history_of s n D)) (by_last_dirty (history_of s n D))
      (all_weaker (λ other. CanBeAsked s n other × IsPlacedBelow (length (dirties (history_of s n D))) (last_place other (dirties (history_of s n D)))) (λ other. is_idle s n (history_of s n D) other ≡ false)
      (λ other has. elim (is_idle s n (history_of s n D) other) as (λ b. is_idle s n (history_of s n D) other ≡ b → b ≡ false) [
        | true ↦ λ idle.
            let at = below (last_place other (dirties (history_of s n D))) has.1 in
            let placed = idle_placed other at.0 has.0.0 has.0.1 at.1 idle in
            let less = at.2 in
            let same = placed.2 in
            let all = stands.table.dirties in
            absurd (both_ways (is_spare st other) (none other placed.0 placed.1 (omega (arith, less, same, all))) (spare_there other has.0.0 has.0.1 ∙ idle))
        | false ↦ λ _. refl
      ] refl)
      (by_last_dirty (history_of s n D)) (both_all (CanBeAsked s n) (λ other. IsPlacedBelow (length (dirties (history_of s n D))) (last_place other (dirties (history_of s n D)))) (by_last_dirty (history_of s n D)) by_order (all_last (λ other. IsPlacedBelow (length (dirties (history_of s n D))) (last_place other (dirties (history_of s n D)))) (dirties (history_of s n D)) (all_below (dirties (history_of s n D))))))
    where
      below : (found : Option ℕ) → IsPlacedBelow (length (dirties (history_of s n D))) found → (place : ℕ) × (found ≡ Some place) × (place < length (dirties (history_of s n D)))
      below (Some place) less = (place, refl, less)
      below None less = absurd less

      both_all : (P Q : WireRep → Type 0) (reps : List WireRep) → AllByRecursion P reps → AllByRecursion Q reps → AllByRecursion (λ w. P w × Q w) reps
      both_all P Q [] one two = tt
      both_all P Q (x ∷ xs) one two = ((one.0, two.0), both_all P Q xs one.1 two.1)
