-- Two lists of deeds that are in step: each word is the same that later deeds go on from, but that so many more jobs were claimed in the second. Then they are alike.
use Rattle.std.proofs.Common.{◌≡◌, ℕ, ◌+◌, ◌-◌, ◌≤◌, ◌&&◌, ◌||◌, not, Bool, true, false, cond, List, [], ◌∷◌, ◌++◌, length, map, filter, find, flat_map, Option, Some, None, refl, sym, ap, ◌∙◌, arith, ◌⊎◌, inl, inr, zero, suc}
use Rattle.std.specs.Prelude.{◌==◌, option_and_then}
use Rattle.std.specs.List.{list_any, AllByRecursion}
use Rattle.std.proofs.lemmas.Bool.{and_parts, and_from, or_cases, or_left, or_right, both_ways, eq-eqb}
use Rattle.nob_ids.specs.Names.{is_same, is_counted}
use Rattle.nob_ids.specs.declared.wire_rep.WireRep.{WireRep}
use Rattle.nob_item.specs.Kinds.{counted_in}
use Rattle.nob_item.specs.declared.item.Item.{Item}
use Rattle.nob_item.specs.declared.item.Item.TheVariants as items
use Rattle.nob_model_types.specs.declared.deed.Deed.{Deed}
use Rattle.nob_model_types.specs.declared.deed.Deed.TheVariants as did
use Rattle.nob_model_types.specs.declared.turns.Turns.{Turns}
use Rattle.nob_model_types.specs.declared.turns.OwnerAnswer.{OwnerAnswer}
use Rattle.nob_model_types.specs.declared.turns.OwnerAnswer.TheVariants as said
use Rattle.nob_model_types.specs.Sessions.{closed, number, item_spelt, item_at}
use Rattle.nob_model_types.specs.Objects.{exports, is_exported, is_withdrawn, is_live}
use Rattle.nob_model_types.specs.Turns.{no_turns, turns, turns_after, is_yes, is_no, is_standing, is_granted, wants_dirty, with_dirty, with_answer, with_clean, carries, names}
use Rattle.nob_model_work.specs.declared.work.Outstanding.{Outstanding}
use Rattle.nob_model_work.specs.declared.work.Run.{Run}
use Rattle.nob_model_work.specs.Work.{work}
use Rattle.nob_model_history.specs.declared.transit.SentItem.{SentItem}
use Rattle.nob_model_history.specs.Histories.{history_of}
use Rattle.nob_model_history.specs.Ends.{calls_at}
use Rattle.nob_model_history.specs.Holds.{times, hand, gains, releases, loans_of, lent_in, holds, is_held}
use Rattle.nob_model_history.specs.Transit.{is_settled, bundles, pins, by_last_dirty, surrogates, is_idle, first_idle}
use Rattle.nob_model_history.specs.Listing.{is_entered, is_listed, is_any_listed}
use Rattle.nob_model_history.proofs.Arriving.{payload_is}
use Rattle.nob_model_history.proofs.Listed.{listed_any, any_listed}
use Rattle.nob_model_history.proofs.Turning.{same_ref}
use Rattle.nob_model_holdings.proofs.Holdings.{times_append}
use Rattle.nob_model_holdings.proofs.Lists.{all_pass}
use Rattle.nob_model.proofs.Reopening.{counted_are}
use Rattle.nob_model.specs.Opening.{is_owned_by, holds_any_of, next_number}
use Rattle.nob_model.specs.Right.{calls_made, jobs_made}
use Rattle.nob_model_jobs.specs.Raised.{raised_run, raised_work}
use Rattle.nob_model_jobs.specs.Alike.{AreEndsAlike, AreAlikeButJobs}

-- whether a reference was asked for since it was given up last, on a session that is open here
abbrev pub is_asked : (s n : ℕ) → List Deed → WireRep → Bool
is_asked s n D rep = (turns s n rep D).asks && not (closed rep.owner D)

-- the references that are asked for, in order of their last Dirties
abbrev pub all_asked : (s n : ℕ) → List Deed → List WireRep
all_asked s n D = filter (is_asked s n D) (by_last_dirty (history_of s n D))

-- two lists of deeds of space s among n are in step, but for so many more jobs in the second
pub record AreInStep (s n more : ℕ) (D E : List Deed) : Type 0 where
  -- objects
  pub exported : exports D ≡ exports E
  pub withdrawn : (index : ℕ) → is_withdrawn index D ≡ is_withdrawn index E
  -- holds and pins: as much more came into the hand in one as was released more
  pub balanced : (rep : WireRep) → is_counted rep ≡ true → times rep (gains D) + times rep (releases E) ≡ times rep (gains E) + times rep (releases D)
  pub bundled : bundles (history_of s n D) ≡ bundles (history_of s n E)
  pub settled : (p item : ℕ) → is_settled p item D ≡ is_settled p item E
  pub entered : (index client : ℕ) → is_entered s index client D ≡ is_entered s index client E
  -- sessions
  pub shut : (p : ℕ) → closed p D ≡ closed p E
  pub numbered : (p : ℕ) → number p D ≡ number p E
  pub next : (p : ℕ) → next_number p (history_of s n D) ≡ next_number p (history_of s n E)
  pub ends : (p : ℕ) → AreEndsAlike (calls_at p (history_of s n D)) (calls_at p (history_of s n E))
  -- references
  pub turned : (rep : WireRep) → turns s n rep D ≡ turns s n rep E
  pub asked : all_asked s n D ≡ all_asked s n E
  -- work
  pub outstanding : work s n E ≡ raised_work more (work s n D)
  pub called : calls_made D ≡ calls_made E
  pub claimed : jobs_made E ≡ jobs_made D + more

-- ---- tests

-- two tests of which each gives the other
pub both_tests : (a b : Bool) → (a ≡ true → b ≡ true) → (b ≡ true → a ≡ true) → a ≡ b
both_tests true b there back = sym (there refl)
both_tests false true there back = back refl
both_tests false false there back = refl

-- a reference that stands in a list and passes is some that passes
any_step : (test : WireRep → Bool) (rep other : WireRep) (reps : List WireRep) → test rep ≡ true → (1 ≤ times rep reps → list_any test reps ≡ true) → (b : Bool) → is_same rep other ≡ b → 1 ≤ length (cond b (other ∷ filter (is_same rep) reps) (filter (is_same rep) reps)) → (test other || list_any test reps) ≡ true
any_step test rep other reps is rest true same stands = or_left (test other) (list_any test reps) (ap test (sym (same_ref rep other same)) ∙ is)
any_step test rep other reps is rest false same stands = or_right (test other) (list_any test reps) (rest stands)

any_by : (test : WireRep → Bool) (rep : WireRep) (reps : List WireRep) → test rep ≡ true → 1 ≤ times rep reps → list_any test reps ≡ true
any_by test rep [] is stands = absurd (none_stands 0 refl stands)
  where
    none_stands : (m : ℕ) → m ≡ 0 → 1 ≤ m → ⊥
    none_stands m none some = omega (arith, none, some)
any_by test rep (other ∷ reps) is stands = any_step test rep other reps is (any_by test rep reps is) (is_same rep other) refl stands

-- some element passes where any does
found_any : (test : WireRep → Bool) (reps : List WireRep) → list_any test reps ≡ true → (rep : WireRep) × (test rep ≡ true)
found_any test [] some = cc
found_any test (rep ∷ reps) some = found_step test rep reps (found_any test reps) (or_cases (test rep) (list_any test reps) some)
  where
    found_step : (test : WireRep → Bool) (rep : WireRep) (reps : List WireRep) → (list_any test reps ≡ true → (found : WireRep) × (test found ≡ true)) → (test rep ≡ true) ⊎ (list_any test reps ≡ true) → (found : WireRep) × (test found ≡ true)
    found_step test rep reps rest (inl here) = (rep, here)
    found_step test rep reps rest (inr behind) = rest behind

-- what is held stands among what came into the hand or is lent
held_stands : (gained lent gone all : ℕ) → all ≡ gained + lent → not ((gained + lent) - gone == 0) ≡ true → 1 ≤ all
held_stands gained lent gone zero same held = (let none : (gained + lent) - gone ≡ 0 = omega (arith, same) in absurd (both_ways (not ((gained + lent) - gone == 0)) (ap not (eq-eqb ((gained + lent) - gone) 0 none)) held))
held_stands gained lent gone (suc all) same held = omega arith

-- ---- what is lent by jobs that run is lent under higher numbers, too

lent_raised : (s more : ℕ) (runs : List Run) → flat_map (λ (run : Run). loans_of s run.message) (map (raised_run more) runs) ≡ flat_map (λ (run : Run). loans_of s run.message) runs
lent_raised s more [] = refl
lent_raised s more (run ∷ runs) = ap (λ (reps : List WireRep). loans_of s run.message ++ reps) (lent_raised s more runs)

-- ---- what is asked for is counted

-- what an item carries is counted
carried_counted : (rep : WireRep) (reps : List WireRep) → AllByRecursion (λ (other : WireRep). is_counted other ≡ true) reps → list_any (is_same rep) reps ≡ true → is_counted rep ≡ true
carried_counted rep [] all some = cc
carried_counted rep (other ∷ reps) all some = carried_step (carried_counted rep reps all.1) (or_cases (is_same rep other) (list_any (is_same rep) reps) some)
  where
    carried_step : (list_any (is_same rep) reps ≡ true → is_counted rep ≡ true) → (is_same rep other ≡ true) ⊎ (list_any (is_same rep) reps ≡ true) → is_counted rep ≡ true
    carried_step rest (inl same) = ap is_counted (same_ref rep other same) ∙ all.0
    carried_step rest (inr behind) = rest behind

with_dirty_if : (rep : WireRep) (b wants : Bool) (t : Turns) → (b ≡ true → is_counted rep ≡ true) → (t.asks ≡ true → is_counted rep ≡ true) → (cond (b && wants) (with_dirty t) t).asks ≡ true → is_counted rep ≡ true
with_dirty_if rep true wants t carried before asks = carried refl
with_dirty_if rep false wants t carried before asks = before asks

answer_if : (rep : WireRep) (b : Bool) (answer : OwnerAnswer) (t : Turns) → (t.asks ≡ true → is_counted rep ≡ true) → (cond b (with_answer answer t) t).asks ≡ true → is_counted rep ≡ true
answer_if rep true answer t before asks = before asks
answer_if rep false answer t before asks = before asks

after_counted : (s n p : ℕ) (rep : WireRep) (found : Option Item) (D : List Deed) (t : Turns) → (t.asks ≡ true → is_counted rep ≡ true) → (turns_after s n p rep found D t).asks ≡ true → is_counted rep ≡ true
after_counted s n p rep None D t before asks = before asks
after_counted s n p rep (Some (items.Call call target method value)) D t before asks = with_dirty_if rep (carries rep (items.Call call target method value)) (wants_dirty s n rep D t) t (carried_counted rep (counted_in (items.Call call target method value)) (counted_are (items.Call call target method value))) before asks
after_counted s n p rep (Some (items.Reply call status value)) D t before asks = with_dirty_if rep (carries rep (items.Reply call status value)) (wants_dirty s n rep D t) t (carried_counted rep (counted_in (items.Reply call status value)) (counted_are (items.Reply call status value))) before asks
after_counted s n p rep (Some (items.Settle item)) D t before asks = before asks
after_counted s n p rep (Some (items.Dirty index)) D t before asks = before asks
after_counted s n p rep (Some (items.DirtyOk index)) D t before asks = answer_if rep (names rep p index) said.Granted t before asks
after_counted s n p rep (Some (items.DirtyNo index)) D t before asks = answer_if rep (names rep p index) said.Refused t before asks
after_counted s n p rep (Some (items.Clean index)) D t before asks = before asks

-- a reference that was asked for since it was given up last is counted
pub asks_counted : (s n : ℕ) (rep : WireRep) (D : List Deed) → (turns s n rep D).asks ≡ true → is_counted rep ≡ true
asks_counted s n rep [] asks = cc
asks_counted s n rep (did.Act p k ∷ D) asks = after_counted s n p rep (item_at p k D) D (turns s n rep D) (asks_counted s n rep D) asks
asks_counted s n rep (did.Open q k ∷ D) asks = kept_asks (q == rep.owner) (turns s n rep D) (asks_counted s n rep D) asks
  where
    kept_asks : (b : Bool) (t : Turns) → (t.asks ≡ true → is_counted rep ≡ true) → (cond b no_turns t).asks ≡ true → is_counted rep ≡ true
    kept_asks true t before asks = cc
    kept_asks false t before asks = before asks
asks_counted s n rep (did.Clean other ∷ D) asks = clean_asks (is_same rep other) (turns s n rep D) (asks_counted s n rep D) asks
  where
    clean_asks : (b : Bool) (t : Turns) → (t.asks ≡ true → is_counted rep ≡ true) → (cond b (with_clean t) t).asks ≡ true → is_counted rep ≡ true
    clean_asks true t before asks = cc
    clean_asks false t before asks = before asks
asks_counted s n rep (deed ∷ D) asks = asks_counted s n rep D asks

-- standing means that it is asked for
pub standing_asks : (t : Turns) → is_standing t ≡ true → t.asks ≡ true
standing_asks t stands = stands_if t.asks (t.answers + 1 == t.dirties) (t.answers == t.dirties) (is_yes t.last) (is_no t.last) stands
  where
    stands_if : (asks a b c d : Bool) → ((asks && a) || (asks && b && c) || (asks && b && d)) ≡ true → asks ≡ true
    stands_if true a b c d some = refl
    stands_if false a b c d some = some

granted_asks : (t : Turns) → is_granted t ≡ true → t.asks ≡ true
granted_asks t granted = (and_parts t.asks (t.answers == t.dirties) (and_parts _ _ granted).0).0

-- what a weaker test finds first among all is what the stronger one finds among those that pass the weaker
find_among : {X : Type 0} (weaker test : X → Bool) (xs : List X) → ((x : X) → test x ≡ true → weaker x ≡ true) → find test xs ≡ find test (filter weaker xs)
find_among weaker test [] step = refl
find_among {X = X} weaker test (x ∷ xs) step = find_step (weaker x) (test x) refl (step x) (find_among weaker test xs step)
  where
    find_step : (w t : Bool) → test x ≡ t → (t ≡ true → w ≡ true) → find test xs ≡ find test (filter weaker xs) → cond t (Some x) (find test xs) ≡ find test (cond w (x ∷ filter weaker xs) (filter weaker xs))
    find_step true t is passes rest = (λ i. cond (sym is i) (Some x) (rest i))
    find_step false true is passes rest = absurd (both_ways false refl (passes refl))
    find_step false false is passes rest = rest

pub filter_among : {X : Type 0} (weaker test : X → Bool) (xs : List X) → ((x : X) → test x ≡ true → weaker x ≡ true) → filter test xs ≡ filter test (filter weaker xs)
filter_among weaker test [] step = refl
filter_among {X = X} weaker test (x ∷ xs) step = filter_step (weaker x) (test x) refl (step x) (filter_among weaker test xs step)
  where
    filter_step : (w t : Bool) → test x ≡ t → (t ≡ true → w ≡ true) → filter test xs ≡ filter test (filter weaker xs) → cond t (x ∷ filter test xs) (filter test xs) ≡ filter test (cond w (x ∷ filter weaker xs) (filter weaker xs))
    filter_step true t is passes rest = (λ i. cond (sym is i) (x ∷ rest i) (rest i))
    filter_step false true is passes rest = absurd (both_ways false refl (passes refl))
    filter_step false false is passes rest = rest

find_alike : {X : Type 0} (P : X → Type 0) (f g : X → Bool) (xs : List X) → ((x : X) → P x → f x ≡ g x) → AllByRecursion P xs → find f xs ≡ find g xs
find_alike P f g [] same all = refl
find_alike P f g (x ∷ xs) same all = λ i. cond (same x all.0 i) (Some x) (find_alike P f g xs same all.1 i)

all_weaker : {X : Type 0} (P Q : X → Type 0) → ((x : X) → P x → Q x) → (xs : List X) → AllByRecursion P xs → AllByRecursion Q xs
all_weaker P Q f [] h = tt
all_weaker P Q f (x ∷ xs) h = (f x h.0, all_weaker P Q f xs h.1)

module _ (s n more : ℕ) (D E : List Deed) (its : AreInStep s n more D E) where
  pub alive_same : (index : ℕ) → is_live s index D ≡ is_live s index E
  alive_same index = λ i. list_any (is_same (record { owner = s; index = index })) (its.exported i) && not (its.withdrawn index i)

  pub exported_same : (index : ℕ) → is_exported s index D ≡ is_exported s index E
  exported_same index = λ i. list_any (is_same (record { owner = s; index = index })) (its.exported i)

  -- the items that came from a peer are the same
  pub items_same : (p k : ℕ) → item_at p k D ≡ item_at p k E
  items_same p k = ap (λ (payload : Option (List ℕ)). option_and_then item_spelt payload) (payload_is s n p k D ∙ (its.ends p).came k ∙ sym (payload_is s n p k E))

  pub waits_same : (work s n E).waiting ≡ (work s n D).waiting
  waits_same = ap (λ (W : Outstanding). W.waiting) its.outstanding

  lent_same : lent_in s (work s n E) ≡ lent_in s (work s n D)
  lent_same = ap (lent_in s) its.outstanding ∙ ap (λ (reps : List WireRep). flat_map (loans_of s) (work s n D).waiting ++ (flat_map (loans_of s) (work s n D).ready ++ (reps ++ flat_map (loans_of s) (work s n D).replies))) (lent_raised s more (work s n D).running)

  hands_same : (rep : WireRep) → is_counted rep ≡ true → hand rep D ≡ hand rep E
  hands_same rep counted = (let balance = its.balanced rep counted in same_less (times rep (gains D)) (times rep (releases D)) (times rep (gains E)) (times rep (releases E)) balance)
    where
      same_less : (a b c d : ℕ) → a + d ≡ c + b → a - b ≡ c - d
      same_less a b c d same = omega (arith, same)

  holds_same : (rep : WireRep) → is_counted rep ≡ true → holds s rep (history_of s n D) ≡ holds s rep (history_of s n E)
  holds_same rep counted =
      same_less (times rep (gains D)) (times rep (releases D)) (times rep (gains E)) (times rep (releases E)) (times rep (lent_in s (work s n D))) (its.balanced rep counted)
      ∙ ap (λ (reps : List WireRep). (times rep (gains E) + times rep reps) - times rep (releases E)) (sym lent_same)
    where
      same_less : (a b c d m : ℕ) → a + d ≡ c + b → (a + m) - b ≡ (c + m) - d
      same_less a b c d m same = omega (arith, same)

  held_same : (rep : WireRep) → is_counted rep ≡ true → is_held s rep (history_of s n D) ≡ is_held s rep (history_of s n E)
  held_same rep counted = ap (λ (m : ℕ). not (m == 0)) (holds_same rep counted)

  listed_same : (index client : ℕ) → is_listed s index client D ≡ is_listed s index client E
  listed_same index client = λ i. not (its.shut client i) && its.entered index client i

  any_listed_same : (index : ℕ) → is_any_listed s index D ≡ is_any_listed s index E
  any_listed_same index = both_tests _ _
      (λ some. let client = any_listed s index D some in listed_any s index client.0 E (sym (listed_same index client.0) ∙ client.1))
      (λ some. let client = any_listed s index E some in listed_any s index client.0 D (listed_same index client.0 ∙ client.1))

  pins_same : (rep : WireRep) → pins rep (history_of s n D) ≡ pins rep (history_of s n E)
  pins_same rep = ap (λ (all : List SentItem). times rep (flat_map (λ (one : SentItem). counted_in one.item) all)) its.bundled

  surrogates_same : surrogates s n (history_of s n D) ≡ surrogates s n (history_of s n E)
  surrogates_same =
      filter_among (is_asked s n D) (stands D) (by_last_dirty (history_of s n D)) (λ rep. stands_asked D rep)
      ∙ (λ i. filter (λ (rep : WireRep). is_standing (its.turned rep i) && not (its.shut rep.owner i)) (its.asked i))
      ∙ sym (filter_among (is_asked s n E) (stands E) (by_last_dirty (history_of s n E)) (λ rep. stands_asked E rep))
    where
      stands : List Deed → WireRep → Bool
      stands C rep = is_standing (turns s n rep C) && not (closed rep.owner C)

      stands_asked : (C : List Deed) (rep : WireRep) → stands C rep ≡ true → is_asked s n C rep ≡ true
      stands_asked C rep is = (let parts = and_parts (is_standing (turns s n rep C)) (not (closed rep.owner C)) is in and_from _ _ (standing_asks (turns s n rep C) parts.0) parts.1)

  idle_same : first_idle s n (history_of s n D) ≡ first_idle s n (history_of s n E)
  idle_same =
      find_among (is_asked s n D) (is_idle s n (history_of s n D)) (by_last_dirty (history_of s n D)) (λ rep. idle_asked D rep)
      ∙ ap (find (is_idle s n (history_of s n D))) its.asked
      ∙ find_alike (λ (rep : WireRep). is_counted rep ≡ true) (is_idle s n (history_of s n D)) (is_idle s n (history_of s n E)) (all_asked s n E)
      (λ rep counted i. ((is_granted (its.turned rep i) && not (its.shut rep.owner i)) && not (held_same rep counted i)) && pins_same rep i == 0)
      (all_weaker _ _ (λ rep is. asks_counted s n rep E (and_parts (turns s n rep E).asks (not (closed rep.owner E)) is).0) (all_asked s n E) (all_pass (is_asked s n E) (by_last_dirty (history_of s n E))))
      ∙ sym (find_among (is_asked s n E) (is_idle s n (history_of s n E)) (by_last_dirty (history_of s n E)) (λ rep. idle_asked E rep))
    where
      idle_asked : (C : List Deed) (rep : WireRep) → is_idle s n (history_of s n C) rep ≡ true → is_asked s n C rep ≡ true
      idle_asked C rep is =
          (let parts = and_parts (is_granted (turns s n rep C)) (not (closed rep.owner C)) (and_parts _ (not (is_held s rep (history_of s n C))) (and_parts _ (pins rep (history_of s n C) == 0) is).0).0 in
          and_from _ _ (granted_asks (turns s n rep C) parts.0) parts.1)

  held_of_same : (p : ℕ) → holds_any_of s p (history_of s n D) ≡ holds_any_of s p (history_of s n E)
  held_of_same p = both_tests _ _
      (λ some. held_any p D E (λ rep counted held. sym (held_same rep counted) ∙ held) some)
      (λ some. held_any p E D (λ rep counted held. held_same rep counted ∙ held) some)
    where
      held_any : (p : ℕ) (B C : List Deed) → ((rep : WireRep) → is_counted rep ≡ true → is_held s rep (history_of s n B) ≡ true → is_held s rep (history_of s n C) ≡ true) → holds_any_of s p (history_of s n B) ≡ true → holds_any_of s p (history_of s n C) ≡ true
      held_any p B C over some = (let found = found_any (λ (rep : WireRep). is_owned_by p rep && is_held s rep (history_of s n B)) (gains B ++ lent_in s (work s n B)) some in
          let parts = and_parts (is_owned_by p found.0) (is_held s found.0 (history_of s n B)) found.1 in
          let held = over found.0 (and_parts (found.0.owner == p) (is_counted found.0) parts.0).1 parts.1 in
          any_by (λ (rep : WireRep). is_owned_by p rep && is_held s rep (history_of s n C)) found.0 (gains C ++ lent_in s (work s n C)) (and_from _ _ parts.0 held)
          (held_stands (times found.0 (gains C)) (times found.0 (lent_in s (work s n C))) (times found.0 (releases C)) (times found.0 (gains C ++ lent_in s (work s n C))) (times_append found.0 (gains C) (lent_in s (work s n C))) held))

  -- lists in step are alike
  pub in_step_alike : AreAlikeButJobs s n more (history_of s n D) (history_of s n E)
  in_step_alike = record {
    given = ap length its.exported;
    live_count = λ i. length (filter (λ (rep : WireRep). rep.owner == s && not (its.withdrawn rep.index i)) (its.exported i));
    alive = alive_same;
    exported = exported_same;
    hands = hands_same;
    held = held_same;
    held_of = held_of_same;
    bundled = its.bundled;
    listed = any_listed_same;
    shut = its.shut;
    numbered = its.numbered;
    next = its.next;
    ends = its.ends;
    asked = its.turned;
    standing = surrogates_same;
    idle = idle_same;
    outstanding = its.outstanding;
    called = its.called;
    claimed = its.claimed;
  }
