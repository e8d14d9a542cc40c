-- Each item that was sent stands at the place of its number among those to its receiver; and what was asked for stands
-- among the references in order of their last Dirties.
use Rattle.std.proofs.Common.{◌≡◌, ℕ, ◌+◌, ◌-◌, ◌≤◌, ◌||◌, Bool, true, false, cond, List, [], ◌∷◌, ◌++◌, length, map, filter, filter_map, Option, Some, None, refl, sym, ap, subst, ◌∙◌, arith, ◌⊎◌, inl, inr}
use Rattle.std.specs.Prelude.{◌==◌}
use Rattle.std.specs.List.{AllByRecursion, list_any, slice_get, cons_option}
use Rattle.std.proofs.lemmas.Bool.{eqb-true, eq-eqb, and_parts, and_from, or_cases, or_left, or_right}
use Rattle.std.proofs.lemmas.List.{length-map}
use Rattle.nob_ids.specs.Names.{is_same}
use Rattle.nob_ids.specs.declared.wire_rep.WireRep.{WireRep}
use Rattle.nob_item.specs.declared.item.Item.{Item}
use Rattle.nob_item.specs.declared.item.Item.TheVariants as items
use Rattle.nob_model_types.specs.declared.deed.Deed.{Deed}
use Rattle.nob_model_types.specs.Sessions.{is_peer, number}
use Rattle.nob_model_work.specs.declared.gifts.Gift.{Gift}
use Rattle.nob_model_work.specs.Work.{work}
use Rattle.nob_model_work.specs.Gifts.{gifts_of, gifts}
use Rattle.nob_model_history.specs.declared.transit.SentItem.{SentItem}
use Rattle.nob_model_history.specs.Histories.{history_of}
use Rattle.nob_model_history.specs.Ends.{items_to}
use Rattle.nob_model_history.specs.Transit.{is_sent_to, count_to, next_sent, with_gifts, sent, asks_for, dirties, once_last, by_last_dirty}
use Rattle.nob_model_history.proofs.Numbered.{items_sent_in, gifts_sent_in, gifts_sent_now}
use Rattle.nob_model_history.proofs.Sending.{new_items, sent_more}
use Rattle.nob_model_history.proofs.Turning.{same_ref}
use Rattle.nob_model.proofs.Carrying.{all_push}
use Rattle.nob_model.proofs.Waiting.{all_weaker}
use Rattle.nob_model_invariant.specs.Asking.{ask_in, asks_among, last_or}
use Rattle.nob_model_invariant.proofs.Asked.{asks_of}
use Rattle.nob_model_holdings.proofs.Lists.{all_append, all_pass, place_in_whole}

-- ---- numbers and places

-- an item that was sent stands at its place among those of its session
abbrev pub IsPlaced : List SentItem → SentItem → Type 0
IsPlaced all one = (slice_get (items_sent_in one.to one.session all) (one.number - 1) ≡ Some one.item) × (1 ≤ one.number)

at_end : {X : Type 0} (xs : List X) (x : X) → slice_get (xs ++ x ∷ []) (length xs) ≡ Some x
at_end [] x = refl
at_end (y ∷ xs) x = at_end xs x

one_to : (p : ℕ) (gift : Gift) → (gift.to == p) ≡ true → items_to p (gift ∷ []) ≡ gift.item ∷ []
one_to p gift own = ap (λ (b : Bool). map (λ (one : Gift). one.item) (cond b (gift ∷ []) [])) own

placed_on : (D : List Deed) (before : List SentItem) (gift : Gift) (one : SentItem) → IsPlaced before one → IsPlaced (before ++ next_sent D before gift ∷ []) one
placed_on D before gift one at = (place_in_whole (items_sent_in one.to one.session before) (cond (number one.to D == one.session) (items_to one.to (gift ∷ [])) []) _ (one.number - 1) one.item (sym (gifts_sent_in one.to one.session D (gift ∷ []) before)) at.0, at.1)

placed_new : (D : List Deed) (before : List SentItem) (gift : Gift) → IsPlaced (before ++ next_sent D before gift ∷ []) (next_sent D before gift)
placed_new D before gift = (
  ap (λ (more : List Item). slice_get more ((count_to gift.to k before + 1) - 1)) (gifts_sent_now gift.to D (gift ∷ []) before ∙ ap (λ (more : List Item). items_sent_in gift.to k before ++ more) (one_to gift.to gift (eq-eqb gift.to gift.to refl)))
      ∙ ap (λ (place : ℕ). slice_get (items_sent_in gift.to k before ++ gift.item ∷ []) place) place
      ∙ at_end (items_sent_in gift.to k before) gift.item,
  low,
)
  where
    k : ℕ
    k = number gift.to D

    size : length (items_sent_in gift.to k before) ≡ count_to gift.to k before
    size = length-map (filter (is_sent_to gift.to k) before) (λ (one : SentItem). one.item)

    place : (count_to gift.to k before + 1) - 1 ≡ length (items_sent_in gift.to k before)
    place = omega (arith, size)

    low : 1 ≤ count_to gift.to k before + 1
    low = omega arith

placed_gifts : (D : List Deed) (more : List Gift) (before : List SentItem) → AllByRecursion (IsPlaced before) before → AllByRecursion (IsPlaced (with_gifts D before more)) (with_gifts D before more)
placed_gifts D [] before all = all
placed_gifts D (gift ∷ more) before all =
    placed_gifts D more (before ++ next_sent D before gift ∷ [])
    (all_push (IsPlaced (before ++ next_sent D before gift ∷ [])) before (next_sent D before gift) (all_weaker (IsPlaced before) (IsPlaced (before ++ next_sent D before gift ∷ [])) (placed_on D before gift) before all) (placed_new D before gift))

pub all_placed : (s n : ℕ) (D : List Deed) → AllByRecursion (IsPlaced (sent (history_of s n D))) (sent (history_of s n D))
all_placed s n [] = tt
all_placed s n (deed ∷ D) = placed_gifts D (gifts s n deed D (work s n D)) (sent (history_of s n D)) (all_placed s n D)

-- ---- what was asked for

-- a Dirty among asks
last_asks : (before : Bool) (asks : List Bool) → last_or before asks ≡ true → (before ≡ true) ⊎ (list_any (λ ask. ask) asks ≡ true)
last_asks before [] is = inl is
last_asks before (ask ∷ asks) is = inr (by (last_asks ask asks is))
  where
    by : (ask ≡ true) ⊎ (list_any (λ ask. ask) asks ≡ true) → (ask || list_any (λ ask. ask) asks) ≡ true
    by (inl own) = or_left ask _ own
    by (inr rest) = or_right ask _ rest

dirty_same : (x index : ℕ) (b : Bool) → (index == x) ≡ b → cond b (Some true) None ≡ Some true → (x == index) ≡ true
dirty_same x index true same is = eq-eqb x index (sym (eqb-true index x same))
dirty_same x index false same is = cc

clean_none : (b : Bool) → cond b (Some false) None ≡ Some true → ⊥
clean_none true is = cc
clean_none false is = cc

-- a Dirty that asks for a reference
dirty_asks : (rep : WireRep) (to : ℕ) (item : Item) → (to == rep.owner) ≡ true → ask_in rep.index item ≡ Some true → (other : WireRep) × (asks_for to item ≡ Some other) × (is_same rep other ≡ true)
dirty_asks rep to (items.Dirty index) own is = (record { owner = to; index = index }, refl, and_from _ _ (eq-eqb rep.owner to (sym (eqb-true to rep.owner own))) (dirty_same rep.index index (index == rep.index) refl is))
dirty_asks rep to (items.Clean index) own is = absurd (clean_none (index == rep.index) is)
dirty_asks rep to (items.Call call target method value) own is = cc
dirty_asks rep to (items.Reply call status value) own is = cc
dirty_asks rep to (items.Settle item) own is = cc
dirty_asks rep to (items.DirtyOk index) own is = cc
dirty_asks rep to (items.DirtyNo index) own is = cc

-- what is asked for stands among the references that were asked for
asked_among : (rep : WireRep) (k : ℕ) (all : List SentItem) → list_any (λ ask. ask) (asks_among rep.index (items_sent_in rep.owner k all)) ≡ true → list_any (is_same rep) (filter_map (λ (one : SentItem). asks_for one.to one.item) all) ≡ true
asked_among rep k [] any = cc
asked_among rep k (one ∷ all) any = by (asked_among rep k all) (is_sent_to rep.owner k one) refl any
  where
    rest : List WireRep
    rest = filter_map (λ (o : SentItem). asks_for o.to o.item) all

    behind : (found : Option WireRep) → list_any (is_same rep) rest ≡ true → list_any (is_same rep) (cons_option found rest) ≡ true
    behind None is = is
    behind (Some other) is = or_right (is_same rep other) _ is

    first : (other : WireRep) × (asks_for one.to one.item ≡ Some other) × (is_same rep other ≡ true) → list_any (is_same rep) (cons_option (asks_for one.to one.item) rest) ≡ true
    first its = ap (λ (found : Option WireRep). list_any (is_same rep) (cons_option found rest)) its.1 ∙ or_left (is_same rep its.0) _ its.2

    mine : (list_any (λ ask. ask) (asks_among rep.index (items_sent_in rep.owner k all)) ≡ true → list_any (is_same rep) rest ≡ true) → (asks : Option Bool) → ask_in rep.index one.item ≡ asks → (one.to == rep.owner) ≡ true → list_any (λ ask. ask) (cons_option asks (asks_among rep.index (items_sent_in rep.owner k all))) ≡ true → list_any (is_same rep) (cons_option (asks_for one.to one.item) rest) ≡ true
    mine others None is own any = behind (asks_for one.to one.item) (others any)
    mine others (Some true) is own any = first (dirty_asks rep one.to one.item own is)
    mine others (Some false) is own any = behind (asks_for one.to one.item) (others any)

    by : (list_any (λ ask. ask) (asks_among rep.index (items_sent_in rep.owner k all)) ≡ true → list_any (is_same rep) rest ≡ true) → (own : Bool) → is_sent_to rep.owner k one ≡ own → list_any (λ ask. ask) (asks_among rep.index (map (λ (o : SentItem). o.item) (cond own (one ∷ filter (is_sent_to rep.owner k) all) (filter (is_sent_to rep.owner k) all)))) ≡ true → list_any (is_same rep) (cons_option (asks_for one.to one.item) rest) ≡ true
    by others true own any = mine others (ask_in rep.index one.item) refl (and_parts (one.to == rep.owner) (one.session == k) own).0 any
    by others false own any = behind (asks_for one.to one.item) (others any)

-- each reference stands once, but it stands
once_stands : (rep : WireRep) (reps : List WireRep) → list_any (is_same rep) reps ≡ true → list_any (is_same rep) (once_last reps) ≡ true
once_stands rep [] there = cc
once_stands rep (other ∷ reps) there = by (once_stands rep reps) (list_any (is_same other) reps) refl (or_cases (is_same rep other) (list_any (is_same rep) reps) there)
  where
    by : (list_any (is_same rep) reps ≡ true → list_any (is_same rep) (once_last reps) ≡ true) → (again : Bool) → list_any (is_same other) reps ≡ again → (is_same rep other ≡ true) ⊎ (list_any (is_same rep) reps ≡ true) → list_any (is_same rep) (cond again (once_last reps) (other ∷ once_last reps)) ≡ true
    by others true again (inl same) = others (subst (λ (r : WireRep). list_any (is_same r) reps ≡ true) (sym (same_ref rep other same)) again)
    by others true again (inr rest) = others rest
    by others false again (inl same) = or_left (is_same rep other) _ same
    by others false again (inr rest) = or_right (is_same rep other) _ (others rest)

false_or : (asks : List Bool) → (false ≡ true) ⊎ (list_any (λ ask. ask) asks ≡ true) → list_any (λ ask. ask) asks ≡ true
false_or asks (inl never) = cc
false_or asks (inr any) = any

-- what was asked for last by a Dirty stands among the references in order of their last Dirties
pub stands_last : (s n : ℕ) (rep : WireRep) (D : List Deed) → last_or false (asks_of s n rep D) ≡ true → list_any (is_same rep) (by_last_dirty (history_of s n D)) ≡ true
stands_last s n rep D asks = once_stands rep (dirties (history_of s n D)) (asked_among rep (number rep.owner D) (sent (history_of s n D)) (false_or (asks_of s n rep D) (last_asks false (asks_of s n rep D) asks)))
