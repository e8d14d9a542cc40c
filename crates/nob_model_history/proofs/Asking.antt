-- The surrogates once a Call or a Reply was acted on: those that it asks for stand behind the others.
use Rattle.std.proofs.Common.{◌≡◌, ℕ, ◌&&◌, ◌||◌, not, Bool, true, false, cond, List, [], ◌∷◌, ◌++◌, filter, Option, Some, refl, sym, ap, ◌∙◌, append_assoc}
use Rattle.std.specs.Prelude.{⊤}
use Rattle.std.specs.List.{AllByRecursion, list_any}
use Rattle.std.proofs.lemmas.List.{append-nil}
use Rattle.std.proofs.lemmas.List.Elements.{filter-append}
use Rattle.std.proofs.lemmas.Bool.{and_parts, and_from, and_left, and_right, or_left, or_right}
use Rattle.nob_ids.specs.Names.{is_same}
use Rattle.nob_ids.specs.declared.wire_rep.WireRep.{WireRep}
use Rattle.nob_item.specs.Kinds.{counted_in}
use Rattle.nob_item.specs.declared.item.Item.{Item}
use Rattle.nob_model_types.specs.declared.deed.Deed.{Deed}
use Rattle.nob_model_types.specs.declared.deed.Deed.TheVariants as did
use Rattle.nob_model_types.specs.declared.turns.Turns.{Turns}
use Rattle.nob_model_types.specs.Sessions.{closed, item_at}
use Rattle.nob_model_types.specs.Turns.{turns, turns_after, is_standing, wants_dirty, with_dirty, carries}
use Rattle.nob_model_work.specs.Work.{work}
use Rattle.nob_model_work.specs.Gifts.{gifts_of_act, dirties_for, once}
use Rattle.nob_model_history.specs.Histories.{history_of}
use Rattle.nob_model_history.specs.Premises.{TookTurns}
use Rattle.nob_model_history.specs.Transit.{dirties, once_last, surrogates}
use Rattle.nob_model_history.proofs.Pinning.{filter_and, filter_same}
use Rattle.nob_model_history.proofs.Dirtying.{dirties_more, message_asks, once_last_push, same_flip, same_self}
use Rattle.nob_model_history.proofs.Turning.{same_ref, shapes, after_dirty, wanted_none}
use Rattle.nob_model_history.proofs.Surrogates.{has_surrogate}

-- whether a reference is among some
abbrev pub is_among : List WireRep → WireRep → Bool
is_among reps rep = list_any (λ (other : WireRep). is_same other rep) reps

-- no reference stands twice
abbrev pub AreDistinct : List WireRep → Type 0
AreDistinct [] = ⊤
AreDistinct (rep ∷ reps) = (is_among reps rep ≡ false) × AreDistinct reps

-- ---- who is among them

left_among : (a b w : Bool) → (a ≡ true → w ≡ true) → (a || (b && w)) ≡ ((a || b) && w)
left_among true b w same = sym (same refl)
left_among false b w same = refl

left_out : (a b w : Bool) → (a ≡ true → w ≡ false) → (b && w) ≡ ((a || b) && w)
left_out true b w same = and_right b w (same refl) ∙ sym (same refl)
left_out false b w same = refl

among_step : (test : WireRep → Bool) (rep other : WireRep) (reps kept : List WireRep) → is_among kept rep ≡ (is_among reps rep && test rep) → (b : Bool) → test other ≡ b → is_among (cond b (other ∷ kept) kept) rep ≡ ((is_same other rep || is_among reps rep) && test rep)
among_step test rep other reps kept are true is = ap (λ (c : Bool). is_same other rep || c) are ∙ left_among (is_same other rep) (is_among reps rep) (test rep) (λ same. ap test (sym (same_ref other rep same)) ∙ is)
among_step test rep other reps kept are false is = are ∙ left_out (is_same other rep) (is_among reps rep) (test rep) (λ same. ap test (sym (same_ref other rep same)) ∙ is)

-- among those that pass a test is who is among all and passes it
among_filter : (test : WireRep → Bool) (rep : WireRep) (reps : List WireRep) → is_among (filter test reps) rep ≡ (is_among reps rep && test rep)
among_filter test rep [] = refl
among_filter test rep (other ∷ reps) = among_step test rep other reps (filter test reps) (among_filter test rep reps) (test other) refl

or_not : (a b : Bool) → (a || (b && not a)) ≡ (a || b)
or_not true b = refl
or_not false true = refl
or_not false false = refl

-- each reference once are the same references
among_once : (rep : WireRep) (reps : List WireRep) → is_among (once reps) rep ≡ list_any (is_same rep) reps
among_once rep [] = refl
among_once rep (first ∷ reps) =
    ap (λ (c : Bool). is_same first rep || c) (among_filter (λ (other : WireRep). not (is_same first other)) rep (once reps))
    ∙ or_not (is_same first rep) (is_among (once reps) rep)
    ∙ ap (λ (c : Bool). c || is_among (once reps) rep) (same_flip first rep)
    ∙ ap (λ (c : Bool). is_same rep first || c) (among_once rep reps)

all_weaker : {X : Type 0} (P Q : X → Type 0) → ((x : X) → P x → Q x) → (xs : List X) → AllByRecursion P xs → AllByRecursion Q xs
all_weaker P Q f [] h = tt
all_weaker P Q f (x ∷ xs) h = (f x h.0, all_weaker P Q f xs h.1)

-- each of them is among them
all_among : (reps : List WireRep) → AllByRecursion (λ (rep : WireRep). is_among reps rep ≡ true) reps
all_among [] = tt
all_among (first ∷ reps) = (or_left _ _ (same_self first), all_weaker _ _ (λ rep there. or_right (is_same first rep) (is_among reps rep) there) reps (all_among reps))

filter_whole : (test : WireRep → Bool) (reps : List WireRep) → AllByRecursion (λ (rep : WireRep). test rep ≡ true) reps → filter test reps ≡ reps
filter_whole test [] all = refl
filter_whole test (rep ∷ reps) all = ap (λ (b : Bool). cond b (rep ∷ filter test reps) (filter test reps)) all.0 ∙ ap (λ (rs : List WireRep). rep ∷ rs) (filter_whole test reps all.1)

-- ---- once

distinct_step : (test : WireRep → Bool) (first : WireRep) (reps kept : List WireRep) → is_among kept first ≡ (is_among reps first && test first) → is_among reps first ≡ false → AreDistinct kept → (b : Bool) → AreDistinct (cond b (first ∷ kept) kept)
distinct_step test first reps kept are none distinct true = (are ∙ and_left (is_among reps first) (test first) none, distinct)
distinct_step test first reps kept are none distinct false = distinct

filter_distinct : (test : WireRep → Bool) (reps : List WireRep) → AreDistinct reps → AreDistinct (filter test reps)
filter_distinct test [] distinct = tt
filter_distinct test (first ∷ reps) distinct = distinct_step test first reps (filter test reps) (among_filter test first reps) distinct.0 (filter_distinct test reps distinct.1) (test first)

once_distinct : (reps : List WireRep) → AreDistinct (once reps)
once_distinct [] = tt
once_distinct (first ∷ reps) = (
  among_filter (λ (other : WireRep). not (is_same first other)) first (once reps) ∙ and_right (is_among (once reps) first) (not (is_same first first)) (ap not (same_self first)),
  filter_distinct (λ (other : WireRep). not (is_same first other)) (once reps) (once_distinct reps),
)

-- ---- the order of last Dirties

both_not : (a b : Bool) → (not a && not b) ≡ not (a || b)
both_not true b = refl
both_not false b = refl

keep_all : (reps : List WireRep) → filter (λ (rep : WireRep). true) reps ≡ reps
keep_all [] = refl
keep_all (rep ∷ reps) = ap (λ (rs : List WireRep). rep ∷ rs) (keep_all reps)

-- Dirties for different references: they stand last in their order, and the others as before
pub order_append : (more before : List WireRep) → AreDistinct more → once_last (before ++ more) ≡ filter (λ (rep : WireRep). not (is_among more rep)) (once_last before) ++ more
order_append [] before distinct = ap once_last (append-nil before) ∙ sym (keep_all (once_last before)) ∙ sym (append-nil _)
order_append (first ∷ more) before distinct =
    let others : WireRep → Bool = λ (rep : WireRep). not (is_among more rep) in
    let unlike : WireRep → Bool = λ (rep : WireRep). not (is_same first rep) in
    ap once_last (sym (append_assoc before (first ∷ []) more))
    ∙ order_append more (before ++ first ∷ []) distinct.1
    ∙ ap (λ (reps : List WireRep). filter others reps ++ more) (once_last_push first before)
    ∙ ap (λ (reps : List WireRep). reps ++ more) (filter-append others (filter unlike (once_last before)) (first ∷ []) ∙ ap (λ (b : Bool). filter others (filter unlike (once_last before)) ++ cond b (first ∷ []) []) (ap not distinct.0))
    ∙ append_assoc (filter others (filter unlike (once_last before))) (first ∷ []) more
    ∙ ap (λ (reps : List WireRep). reps ++ first ∷ more) (sym (filter_and unlike others (once_last before)) ∙ filter_same _ _ (λ rep. both_not (is_same first rep) (is_among more rep)) (once_last before))

-- ---- a message

-- how an item changes turns if it is a Call or a Reply
abbrev pub AsksAsMessage : (s n p : ℕ) → Item → List Deed → Type 0
AsksAsMessage s n p item D = (rep : WireRep) → turns_after s n p rep (Some item) D (turns s n rep D) ≡ cond (carries rep item && wants_dirty s n rep D (turns s n rep D)) (with_dirty (turns s n rep D)) (turns s n rep D)

old_kept : (s n : ℕ) (D : List Deed) (rep : WireRep) (b : Bool) → (b ≡ true → is_standing (turns s n rep D) ≡ false) → (not b && (is_standing (cond b (with_dirty (turns s n rep D)) (turns s n rep D)) && not (closed rep.owner D))) ≡ has_surrogate s n D rep
old_kept s n D rep true none = sym (and_left (is_standing (turns s n rep D)) (not (closed rep.owner D)) (none refl))
old_kept s n D rep false none = refl

-- acting on a Call or a Reply puts those that it asks for behind the surrogates
pub surrogates_asked : (s n p k : ℕ) (item : Item) (D : List Deed) → TookTurns s n D → item_at p k D ≡ Some item → gifts_of_act s n p D (Some item) ≡ dirties_for s n D (counted_in item) → AsksAsMessage s n p item D → surrogates s n (history_of s n (did.Act p k ∷ D)) ≡ surrogates s n (history_of s n D) ++ filter (λ (rep : WireRep). wants_dirty s n rep D (turns s n rep D)) (once (counted_in item))
surrogates_asked s n p k item D took is message asks =
    let wants : WireRep → Bool = λ (rep : WireRep). wants_dirty s n rep D (turns s n rep D) in
    let wanted : List WireRep = filter wants (once (counted_in item)) in
    let now : WireRep → Bool = has_surrogate s n (did.Act p k ∷ D) in
    let others : WireRep → Bool = λ (rep : WireRep). not (is_among wanted rep) in
    let among : (rep : WireRep) → is_among wanted rep ≡ (carries rep item && wants rep) = λ rep. among_filter wants rep (once (counted_in item)) ∙ ap (λ (b : Bool). b && wants rep) (among_once rep (counted_in item)) in
    let turned : (rep : WireRep) → turns s n rep (did.Act p k ∷ D) ≡ cond (is_among wanted rep) (with_dirty (turns s n rep D)) (turns s n rep D) = λ rep. ap (λ (found : Option Item). turns_after s n p rep found D (turns s n rep D)) is ∙ asks rep ∙ ap (λ (b : Bool). cond b (with_dirty (turns s n rep D)) (turns s n rep D)) (sym (among rep)) in
    let of_wanted : (rep : WireRep) → is_among wanted rep ≡ true → wants rep ≡ true = λ rep there. (and_parts _ _ (sym (among rep) ∙ there)).1 in
    let kept : (rep : WireRep) → (others rep && now rep) ≡ has_surrogate s n D rep = λ rep.
    ap (λ (t : Turns). others rep && (is_standing t && not (closed rep.owner D))) (turned rep)
    ∙ old_kept s n D rep (is_among wanted rep) (λ there. wanted_none s n rep D (turns s n rep D) (of_wanted rep there)) in
    let new : (rep : WireRep) → is_among wanted rep ≡ true → now rep ≡ true = λ rep there.
    let waits = (after_dirty (turns s n rep D) (shapes s n rep D took) (wanted_none s n rep D (turns s n rep D) (of_wanted rep there))).1 in
    ap (λ (t : Turns). is_standing t && not (closed rep.owner D)) (turned rep ∙ ap (λ (b : Bool). cond b (with_dirty (turns s n rep D)) (turns s n rep D)) there)
    ∙ and_from _ _ (or_left _ _ (or_left _ _ waits.0)) (and_parts _ _ (and_parts _ _ (of_wanted rep there)).0).1 in
    ap (λ (reps : List WireRep). filter now (once_last reps)) (dirties_more s n (did.Act p k) D ∙ ap (λ (reps : List WireRep). dirties (history_of s n D) ++ reps) (message_asks s n p k item D (work s n D) is message))
    ∙ ap (filter now) (order_append wanted (dirties (history_of s n D)) (filter_distinct wants (once (counted_in item)) (once_distinct (counted_in item))))
    ∙ filter-append now (filter others (once_last (dirties (history_of s n D)))) wanted
    ∙ ap (λ (reps : List WireRep). reps ++ filter now wanted) (sym (filter_and others now (once_last (dirties (history_of s n D)))) ∙ filter_same _ _ kept (once_last (dirties (history_of s n D))))
    ∙ ap (λ (reps : List WireRep). surrogates s n (history_of s n D) ++ reps) (filter_whole now wanted (all_weaker _ _ new wanted (all_among wanted)))
