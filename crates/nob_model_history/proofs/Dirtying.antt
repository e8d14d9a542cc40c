-- The Dirties that were sent, their order and their places, by one deed more.
use Rattle.std.proofs.Common.{◌≡◌, ℕ, suc, ◌+◌, ◌<◌, ◌&&◌, ◌||◌, not, Bool, true, false, cond, List, [], ◌∷◌, ◌++◌, length, map, filter, find, filter_map, Option, Some, None, refl, sym, ap, subst, ◌∙◌, arith, ◌⊎◌, inl, inr}
use Rattle.std.specs.Prelude.{◌==◌, ⊤}
use Rattle.std.specs.List.{AllByRecursion, list_any, cons_option}
use Rattle.std.proofs.lemmas.List.Elements.{filter_map-append}
use Rattle.std.proofs.lemmas.Bool.{eqb-true, eqb-false, eq-eqb, ne_eqb, and_parts, or_parts, both_ways}
use Rattle.nob_ids.specs.Names.{is_same}
use Rattle.nob_ids.specs.declared.wire_rep.WireRep.{WireRep}
use Rattle.nob_item.specs.Kinds.{counted_in}
use Rattle.nob_item.specs.declared.item.Item.{Item}
use Rattle.nob_model_types.specs.declared.deed.Deed.{Deed}
use Rattle.nob_model_types.specs.declared.deed.Deed.TheVariants as did
use Rattle.nob_model_types.specs.Sessions.{is_peer, item_at}
use Rattle.nob_model_types.specs.Turns.{wants_dirty, turns}
use Rattle.nob_model_work.specs.declared.gifts.Gift.{Gift}
use Rattle.nob_model_work.specs.declared.work.Outstanding.{Outstanding}
use Rattle.nob_model_work.specs.Work.{work}
use Rattle.nob_model_work.specs.Gifts.{gifts, gifts_of, gifts_of_act, dirties_for, dirty_for, once}
use Rattle.nob_model_history.specs.declared.transit.SentItem.{SentItem}
use Rattle.nob_model_history.specs.Histories.{history_of}
use Rattle.nob_model_history.specs.Transit.{sent, asks_for, dirties, once_last, by_last_dirty, later_place, last_place, is_idle, first_idle}
use Rattle.nob_model_history.proofs.Sending.{new_items, sent_more}

-- ---- which Dirties are sent

-- the references that gifts ask for
abbrev pub asked_in : List Gift → List WireRep
asked_in more = filter_map (λ (gift : Gift). asks_for gift.to gift.item) more

new_asked : (D : List Deed) (more : List Gift) (before : List SentItem) → filter_map (λ (one : SentItem). asks_for one.to one.item) (new_items D before more) ≡ asked_in more
new_asked D [] before = refl
new_asked D (gift ∷ more) before = ap (cons_option (asks_for gift.to gift.item)) (new_asked D more _)

-- the Dirties of a deed stand behind those before
pub dirties_more : (s n : ℕ) (deed : Deed) (D : List Deed) → dirties (history_of s n (deed ∷ D)) ≡ dirties (history_of s n D) ++ asked_in (gifts s n deed D (work s n D))
dirties_more s n deed D =
    ap (filter_map (λ (one : SentItem). asks_for one.to one.item)) (sent_more s n deed D)
    ∙ filter_map-append (λ (one : SentItem). asks_for one.to one.item) (sent (history_of s n D)) (new_items D (sent (history_of s n D)) (gifts s n deed D (work s n D)))
    ∙ ap (λ (reps : List WireRep). dirties (history_of s n D) ++ reps) (new_asked D (gifts s n deed D (work s n D)) (sent (history_of s n D)))

-- Dirties to owners that are peers ask for their references
asked_step : (s n : ℕ) (test : WireRep → Bool) (rep : WireRep) (reps : List WireRep) → (b : Bool) → (b ≡ true → is_peer s n rep.owner ≡ true) → asked_in (filter (λ (gift : Gift). is_peer s n gift.to) (map dirty_for reps)) ≡ reps → asked_in (filter (λ (gift : Gift). is_peer s n gift.to) (map dirty_for (cond b (rep ∷ reps) reps))) ≡ cond b (rep ∷ reps) reps
unfolding dirty_for
asked_step s n test rep reps true peer rest = ap (λ (c : Bool). asked_in (cond c (dirty_for rep ∷ filter (λ (gift : Gift). is_peer s n gift.to) (map dirty_for reps)) (filter (λ (gift : Gift). is_peer s n gift.to) (map dirty_for reps)))) (peer refl) ∙ ap (λ (rs : List WireRep). rep ∷ rs) rest
asked_step s n test rep reps false peer rest = rest

asked_for : (s n : ℕ) (test : WireRep → Bool) → ((rep : WireRep) → test rep ≡ true → is_peer s n rep.owner ≡ true) → (reps : List WireRep) → asked_in (filter (λ (gift : Gift). is_peer s n gift.to) (map dirty_for (filter test reps))) ≡ filter test reps
asked_for s n test peers [] = refl
asked_for s n test peers (rep ∷ reps) = asked_step s n test rep (filter test reps) (test rep) (peers rep) (asked_for s n test peers reps)

wanted_of_peer : (s n : ℕ) (D : List Deed) (rep : WireRep) → wants_dirty s n rep D (turns s n rep D) ≡ true → is_peer s n rep.owner ≡ true
wanted_of_peer s n D rep wanted = (and_parts _ _ (and_parts _ _ wanted).0).0

-- acting on a Call or a Reply asks for those of its references that want a Dirty, each once, in reading order
pub message_asks : (s n p k : ℕ) (item : Item) (D : List Deed) (W : Outstanding) → item_at p k D ≡ Some item → gifts_of_act s n p D (Some item) ≡ dirties_for s n D (counted_in item) → asked_in (gifts s n (did.Act p k) D W) ≡ filter (λ (rep : WireRep). wants_dirty s n rep D (turns s n rep D)) (once (counted_in item))
unfolding gifts gifts_of dirties_for
message_asks s n p k item D W is message =
    ap (λ (found : Option Item). asked_in (filter (λ (gift : Gift). is_peer s n gift.to) (gifts_of_act s n p D found))) is
    ∙ ap (λ (more : List Gift). asked_in (filter (λ (gift : Gift). is_peer s n gift.to) more)) message
    ∙ asked_for s n (λ (rep : WireRep). wants_dirty s n rep D (turns s n rep D)) (wanted_of_peer s n D) (once (counted_in item))

-- ---- the order of last Dirties

or_false : (b : Bool) → (b || false) ≡ b
or_false true = refl
or_false false = refl

or_or : (a b c : Bool) → (a || (b || c)) ≡ ((a || b) || c)
or_or true b c = refl
or_or false b c = refl

any_push : (rep y : WireRep) (xs : List WireRep) → list_any (is_same rep) (xs ++ y ∷ []) ≡ (list_any (is_same rep) xs || is_same rep y)
any_push rep y [] = or_false (is_same rep y)
any_push rep y (x ∷ xs) = ap (λ (b : Bool). is_same rep x || b) (any_push rep y xs) ∙ or_or (is_same rep x) (list_any (is_same rep) xs) (is_same rep y)

flip_test : (a b : ℕ) → (a == b) ≡ (b == a)
flip_test a b =
    elim (a == b) as (λ t. (a == b) ≡ t → t ≡ (b == a)) [
      | true ↦ λ e. sym (eq-eqb b a (sym (eqb-true a b e)))
      | false ↦ λ e. sym (ne_eqb b a (λ same. eqb-false a b e (sym same)))
    ] refl

-- it doesn't matter which of two references stands first
pub same_flip : (a b : WireRep) → is_same a b ≡ is_same b a
same_flip a b = ap (λ (t : Bool). t && a.index == b.index) (flip_test a.owner b.owner) ∙ ap (λ (t : Bool). b.owner == a.owner && t) (flip_test a.index b.index)

-- a reference is the same as itself
pub same_self : (a : WireRep) → is_same a a ≡ true
same_self a = ap (λ (t : Bool). t && a.index == a.index) (eq-eqb a.owner a.owner refl) ∙ eq-eqb a.index a.index refl

last_step : (x y : WireRep) (test : WireRep → Bool) (ordered rest : List WireRep) → rest ≡ filter test ordered ++ y ∷ [] → (a b : Bool) → test x ≡ not b → cond (a || b) rest (x ∷ rest) ≡ filter test (cond a ordered (x ∷ ordered)) ++ y ∷ []
last_step x y test ordered rest are true b is = are
last_step x y test ordered rest are false true is = are ∙ ap (λ (c : Bool). cond c (x ∷ filter test ordered) (filter test ordered) ++ y ∷ []) (sym is)
last_step x y test ordered rest are false false is = ap (λ (rs : List WireRep). x ∷ rs) are ∙ ap (λ (c : Bool). cond c (x ∷ filter test ordered) (filter test ordered) ++ y ∷ []) (sym is)

-- one Dirty more: its reference stands last, and the others as before
pub once_last_push : (y : WireRep) (xs : List WireRep) → once_last (xs ++ y ∷ []) ≡ filter (λ (rep : WireRep). not (is_same y rep)) (once_last xs) ++ y ∷ []
once_last_push y [] = refl
once_last_push y (x ∷ xs) =
    ap (λ (b : Bool). cond b (once_last (xs ++ y ∷ [])) (x ∷ once_last (xs ++ y ∷ []))) (any_push x y xs)
    ∙ last_step x y (λ (rep : WireRep). not (is_same y rep)) (once_last xs) (once_last (xs ++ y ∷ [])) (once_last_push y xs) (list_any (is_same x) xs) (is_same x y) (ap not (same_flip y x))

-- ---- places

place_step : (b here : Bool) (n : ℕ) (found : Option ℕ) → later_place (cond b (Some n) found) here ≡ cond b (Some (suc n)) (later_place found here)
place_step true here n found = ap Some (let same : n + 1 ≡ suc n = omega arith in same)
place_step false here n found = refl

-- the place of a reference after one Dirty more: behind all others for the reference of the Dirty, as before for another
pub place_push : (rep y : WireRep) (xs : List WireRep) → last_place rep (xs ++ y ∷ []) ≡ cond (is_same rep y) (Some (length xs)) (last_place rep xs)
place_push rep y [] = refl
place_push rep y (x ∷ xs) = ap (λ (found : Option ℕ). later_place found (is_same rep x)) (place_push rep y xs) ∙ place_step (is_same rep y) (is_same rep x) (length xs) (last_place rep xs)

-- one place stands before another
abbrev pub IsBefore : Option ℕ → Option ℕ → Type 0
IsBefore (Some a) (Some b) = a < b
IsBefore (Some a) None = ⊥
IsBefore None b = ⊥

-- there is a place
abbrev pub IsPlaced : Option ℕ → Type 0
IsPlaced (Some a) = ⊤
IsPlaced None = ⊥

-- the places of references, by all Dirties, rise
abbrev pub RisesIn : List WireRep → List WireRep → Type 0
RisesIn all [] = ⊤
RisesIn all (rep ∷ reps) = AllByRecursion (λ (other : WireRep). IsBefore (last_place rep all) (last_place other all)) reps × RisesIn all reps

later_placed : (found : Option ℕ) (here : Bool) → IsPlaced found → IsPlaced (later_place found here)
later_placed (Some a) here placed = tt
later_placed None here placed = absurd placed

later_before : (a b : Option ℕ) (here there : Bool) → IsBefore a b → IsBefore (later_place a here) (later_place b there)
later_before (Some a) (Some b) here there before = let less : a + 1 < b + 1 = omega (arith, before) in less
later_before (Some a) None here there before = absurd before
later_before None b here there before = absurd before

first_before : (found : Option ℕ) (here : Bool) → IsPlaced found → IsBefore (Some 0) (later_place found here)
first_before (Some a) here placed = let less : 0 < a + 1 = omega arith in less
first_before None here placed = absurd placed

all_weaker : {X : Type 0} (P Q : X → Type 0) → ((x : X) → P x → Q x) → (xs : List X) → AllByRecursion P xs → AllByRecursion Q xs
all_weaker P Q f [] h = tt
all_weaker P Q f (x ∷ xs) h = (f x h.0, all_weaker P Q f xs h.1)

rises_later : (x : WireRep) (xs reps : List WireRep) → RisesIn xs reps → RisesIn (x ∷ xs) reps
rises_later x xs [] rises = tt
rises_later x xs (rep ∷ reps) rises = (all_weaker _ _ (λ other before. later_before (last_place rep xs) (last_place other xs) (is_same rep x) (is_same other x) before) reps rises.0, rises_later x xs reps rises.1)

pub none_placed : (x : WireRep) (xs : List WireRep) → list_any (is_same x) xs ≡ false → last_place x xs ≡ None
none_placed x [] none = refl
none_placed x (y ∷ xs) none = let parts = or_parts (is_same x y) (list_any (is_same x) xs) none in ap (λ (found : Option ℕ). later_place found (is_same x y)) (none_placed x xs parts.1) ∙ ap (λ (b : Bool). cond b (Some 0) None) parts.0

placed_step : (x : WireRep) (xs reps : List WireRep) → AllByRecursion (λ (other : WireRep). IsPlaced (last_place other xs)) reps → AllByRecursion (λ (other : WireRep). IsPlaced (last_place other (x ∷ xs))) reps
placed_step x xs reps = all_weaker _ _ (λ other placed. later_placed (last_place other xs) (is_same other x) placed) reps

here_placed : (x : WireRep) (xs : List WireRep) → list_any (is_same x) xs ≡ false → last_place x (x ∷ xs) ≡ Some 0
here_placed x xs none = ap (λ (found : Option ℕ). later_place found (is_same x x)) (none_placed x xs none) ∙ ap (λ (b : Bool). cond b (Some 0) None) (same_self x)

-- each reference that was asked for has a place
all_placed : (xs : List WireRep) → AllByRecursion (λ (other : WireRep). IsPlaced (last_place other xs)) (once_last xs)
all_placed [] = tt
all_placed (x ∷ xs) =
    elim (list_any (is_same x) xs) as (λ (b : Bool). list_any (is_same x) xs ≡ b → AllByRecursion (λ (other : WireRep). IsPlaced (last_place other (x ∷ xs))) (cond b (once_last xs) (x ∷ once_last xs))) [
      | true ↦ λ e. placed_step x xs (once_last xs) (all_placed xs)
      | false ↦ λ e. (subst IsPlaced (sym (here_placed x xs e)) tt, placed_step x xs (once_last xs) (all_placed xs))
    ] refl

-- places rise in the order of last Dirties
pub rises : (xs : List WireRep) → RisesIn xs (once_last xs)
rises [] = tt
rises (x ∷ xs) =
    elim (list_any (is_same x) xs) as (λ (b : Bool). list_any (is_same x) xs ≡ b → RisesIn (x ∷ xs) (cond b (once_last xs) (x ∷ once_last xs))) [
      | true ↦ λ e. rises_later x xs (once_last xs) (rises xs)
      | false ↦ λ e. (
        all_weaker _ _ (λ other placed. subst (λ (found : Option ℕ). IsBefore found (later_place (last_place other xs) (is_same other x))) (sym (here_placed x xs e)) (first_before (last_place other xs) (is_same other x) placed)) (once_last xs) (all_placed xs),
        rises_later x xs (once_last xs) (rises xs),
      )
    ] refl

-- so they do in a history
pub places_rise : (s n : ℕ) (D : List Deed) → RisesIn (dirties (history_of s n D)) (by_last_dirty (history_of s n D))
places_rise s n D = rises (dirties (history_of s n D))

-- ---- the first that passes a test

-- each reference that passes has the place of this one or a later one
abbrev pub IsLeast : (WireRep → Bool) → List WireRep → WireRep → List WireRep → Type 0
IsLeast test all rep reps = AllByRecursion (λ (other : WireRep). test other ≡ true → (other ≡ rep) ⊎ IsBefore (last_place rep all) (last_place other all)) reps

least_step : (test : WireRep → Bool) (all : List WireRep) (x rep : WireRep) (reps : List WireRep) → AllByRecursion (λ (other : WireRep). IsBefore (last_place x all) (last_place other all)) reps → (find test reps ≡ Some rep → IsLeast test all rep reps) → (b : Bool) → test x ≡ b → cond b (Some x) (find test reps) ≡ Some rep → IsLeast test all rep (x ∷ reps)
least_step test all x rep reps behind least true is found =
    let same : x ≡ rep = cc in
    (λ passes. inl same, all_weaker _ _ (λ other before passes. inr (subst (λ (r : WireRep). IsBefore (last_place r all) (last_place other all)) same before)) reps behind)
least_step test all x rep reps behind least false is found = (λ passes. absurd (both_ways (test x) is passes), least found)

least_found : (test : WireRep → Bool) (all : List WireRep) (reps : List WireRep) (rep : WireRep) → RisesIn all reps → find test reps ≡ Some rep → IsLeast test all rep reps
least_found test all [] rep rise found = tt
least_found test all (x ∷ reps) rep rise found = least_step test all x rep reps rise.0 (least_found test all reps rep rise.1) (test x) refl found

-- the first surrogate that can be given up has the least place of all that can
pub first_idle_least : (s n : ℕ) (D : List Deed) (rep : WireRep) → first_idle s n (history_of s n D) ≡ Some rep → IsLeast (is_idle s n (history_of s n D)) (dirties (history_of s n D)) rep (by_last_dirty (history_of s n D))
first_idle_least s n D rep found = least_found (is_idle s n (history_of s n D)) (dirties (history_of s n D)) (by_last_dirty (history_of s n D)) rep (places_rise s n D) found
