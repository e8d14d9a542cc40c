-- The tables of what was sent, by one item more.
use Rattle.std.proofs.Common.{◌≡◌, ◌&&◌, ◌||◌, ℕ, ◌+◌, Bool, true, false, cond, List, [], ◌∷◌, ◌++◌, length, Option, Some, None, is_some, slice_get, find, filter, map, refl, sym, ap, subst, true≢false, ◌∙◌, arith}
use Prim.Native.Nat.{suc}
use Rattle.std.specs.Prelude.{◌==◌, option_and_then}
use Rattle.std.specs.List.{list_any}
use Rattle.std.specs.Map.{lookup}
use Rattle.std.specs.Option.{option_map, option_or}
use Rattle.std.proofs.lemmas.Bool.{eqb-true, eq-eqb, and_parts, and_from}
use Rattle.std.proofs.lemmas.List.{length-append}
use Rattle.std.proofs.lemmas.List.Elements.{filter-append}
use Rattle.std.proofs.lemmas.List.Folds.{list_any-append}
use Rattle.indexmap.specs.IndexMap.{insert_entry}
use Rattle.nob_ids.specs.Names.{is_same}
use Rattle.nob_ids.specs.declared.wire_rep.WireRep.{WireRep}
use Rattle.nob_item.specs.Kinds.{counted_in}
use Rattle.nob_model_types.specs.Sessions.{number}
use Rattle.nob_model_types.specs.Turns.{carries}
use Rattle.nob_model_types.specs.declared.deed.Deed.{Deed}
use Rattle.nob_model_work.specs.declared.gifts.Gift.{Gift}
use Rattle.nob_model_history.specs.Transit.{is_sent_to, count_to, owner_sessions, number_at_place, next_sent}
use Rattle.nob_model_history.specs.declared.transit.SentItem.{SentItem}
use Rattle.nob_model_history.proofs.Dirtying.{same_self}
use Rattle.nob_model_history.proofs.Turning.{same_ref}
use Rattle.nob_check_tables.proofs.Looking.{put_at, put_twice}
use Rattle.nob_check_index.specs.ActedSessions.{is_same_session}
use Rattle.nob_check_index.proofs.Keys.{equal_swap}
use Rattle.nob_check_ledgers.specs.Sent.{found_count, count_in, with_count, found_places, places_in, with_places, with_place, new_place, with_all, PlaceTest, place_of, is_same_name, name_of, standing_in, with_standing, is_item, first_place, Tell}
use Rattle.nob_check_ledgers.specs.declared.sent.Place.{Place}
use Rattle.nob_check_ledgers.specs.declared.standing.ItemName.{ItemName}

-- nothing was sent
pub tell_none : Tell [] [] [] []
tell_none = record { counted = λ p k. refl; carried = λ rep test. refl; stand = λ p session k. refl }

-- ---- counts

count_if : (b : Bool) (count : ℕ) (x : Option ℕ) → found_count (cond b (Some count) x) ≡ cond b count (found_count x)
count_if true count x = refl
count_if false count x = refl

same_session : (a b : ℕ × ℕ) → is_same_session a b ≡ true → a ≡ b
same_session a b h =
    let parts = and_parts (a.0 == b.0) (a.1 == b.1) h in
    let one : a.0 ≡ b.0 = eqb-true a.0 b.0 parts.0 in
    let two : a.1 ≡ b.1 = eqb-true a.1 b.1 parts.1 in
    λ i. (one i, two i)

own_session : (a : ℕ × ℕ) → is_same_session a a ≡ true
own_session a = and_from (a.0 == a.0) (a.1 == a.1) (eq-eqb a.0 a.0 refl) (eq-eqb a.1 a.1 refl)

-- the count of a session once that of one is put in
put_count : (p k q j count : ℕ) (counts : List ((ℕ × ℕ) × ℕ)) → count_in p k (with_count q j count counts) ≡ cond (is_same_session (p, k) (q, j)) count (count_in p k counts)
put_count p k q j count counts =
    ap found_count (put_at is_same_session same_session own_session (p, k) (q, j) count counts)
    ∙ count_if (is_same_session (p, k) (q, j)) count (lookup (is_same_session (p, k)) counts)

-- an item to a peer in a session, compared either way
to_swap : (p k : ℕ) (x : SentItem) → is_sent_to p k x ≡ is_same_session (p, k) (x.to, x.session)
to_swap p k x = λ i. equal_swap x.to p i && equal_swap x.session k i

-- how many went there by one more
count_more : (p k : ℕ) (items : List SentItem) (x : SentItem) → count_to p k (items ++ x ∷ []) ≡ cond (is_same_session (p, k) (x.to, x.session)) (count_to p k items + 1) (count_to p k items)
count_more p k items x =
    ap length (filter-append (is_sent_to p k) items (x ∷ []))
    ∙ length-append (filter (is_sent_to p k) items) (filter (is_sent_to p k) (x ∷ []))
    ∙ by (is_sent_to p k x)
    ∙ ap (λ (b : Bool). cond b (count_to p k items + 1) (count_to p k items)) (to_swap p k x)
  where
    by : (a : Bool) → count_to p k items + length (cond a (x ∷ []) []) ≡ cond a (count_to p k items + 1) (count_to p k items)
    by true = refl
    by false = omega arith

counted_more : (p k q j count : ℕ) (counts : List ((ℕ × ℕ) × ℕ)) (items : List SentItem) → count_in p k counts ≡ count_to p k items → count ≡ count_in q j counts + 1 → cond (is_same_session (p, k) (q, j)) count (count_in p k counts) ≡ cond (is_same_session (p, k) (q, j)) (count_to p k items + 1) (count_to p k items)
counted_more p k q j count counts items same one = by (is_same_session (p, k) (q, j)) refl
  where
    by : (b : Bool) → is_same_session (p, k) (q, j) ≡ b → cond b count (count_in p k counts) ≡ cond b (count_to p k items + 1) (count_to p k items)
    by true here =
        one
        ∙ ap (λ (x : ℕ × ℕ). count_in x.0 x.1 counts + 1) (sym (same_session (p, k) (q, j) here))
        ∙ ap (λ (x : ℕ). x + 1) same
    by false other = same

-- ---- places

places_if : (b : Bool) (places : List Place) (x : Option (List Place)) → found_places (cond b (Some places) x) ≡ cond b places (found_places x)
places_if true places x = refl
places_if false places x = refl

-- the places of a reference once those of one are put in
put_places : (r rep : WireRep) (places : List Place) (rows : List (WireRep × List Place)) → places_in r (with_places rep places rows) ≡ cond (is_same r rep) places (places_in r rows)
put_places r rep places rows =
    ap found_places (put_at is_same same_ref same_self r rep places rows)
    ∙ places_if (is_same r rep) places (lookup (is_same r) rows)

-- the places of a reference put in where it had none
pub place_put : (rep : WireRep) (places : List Place) (rows : List (WireRep × List Place)) → with_places rep places (with_places rep [] rows) ≡ with_places rep places rows
place_put rep places rows = put_twice is_same same_self rep [] places rows

or_last : (a b : Bool) → (a || (b || false)) ≡ (b || a)
or_last true true = refl
or_last true false = refl
or_last false true = refl
or_last false false = refl

-- a test of the places of a reference once one has one more
one_place : (r rep : WireRep) (place : Place) (test : PlaceTest) (rows : List (WireRep × List Place)) → list_any test (places_in r (with_place rep place rows)) ≡ ((is_same r rep && test place) || list_any test (places_in r rows))
one_place r rep place test rows =
    ap (list_any test) (put_places r rep (places_in rep rows ++ place ∷ []) rows)
    ∙ by (is_same r rep) refl
  where
    by : (b : Bool) → is_same r rep ≡ b → list_any test (cond (is_same r rep) (places_in rep rows ++ place ∷ []) (places_in r rows)) ≡ ((is_same r rep && test place) || list_any test (places_in r rows))
    by true here =
        ap (λ (b : Bool). list_any test (cond b (places_in rep rows ++ place ∷ []) (places_in r rows))) here
        ∙ list_any-append test (places_in rep rows) (place ∷ [])
        ∙ or_last (list_any test (places_in rep rows)) (test place)
        ∙ ap (λ (x : WireRep). test place || list_any test (places_in x rows)) (sym (same_ref r rep here))
        ∙ sym (ap (λ (b : Bool). (b && test place) || list_any test (places_in r rows)) here)
    by false other =
        ap (λ (b : Bool). list_any test (cond b (places_in rep rows ++ place ∷ []) (places_in r rows))) other
        ∙ sym (ap (λ (b : Bool). (b && test place) || list_any test (places_in r rows)) other)

-- the place of a reference is that of an equal one
own_place : (D : List Deed) (p k : ℕ) (r rep : WireRep) (test : PlaceTest) → (is_same r rep && test (new_place D p k rep)) ≡ (is_same r rep && test (new_place D p k r))
own_place D p k r rep test = by (is_same r rep) refl
  where
    by : (b : Bool) → is_same r rep ≡ b → (b && test (new_place D p k rep)) ≡ (b && test (new_place D p k r))
    by true here = ap (λ (x : WireRep). test (new_place D p k x)) (sym (same_ref r rep here))
    by false other = refl

split_or : (a b t rest : Bool) → ((b && t) || ((a && t) || rest)) ≡ (((a || b) && t) || rest)
split_or true true true rest = refl
split_or true true false rest = refl
split_or true false true rest = refl
split_or true false false rest = refl
split_or false true true rest = refl
split_or false true false rest = refl
split_or false false true rest = refl
split_or false false false rest = refl

-- once each of some references has one more
all_places : (D : List Deed) (p k : ℕ) (r : WireRep) (reps : List WireRep) (test : PlaceTest) (rows : List (WireRep × List Place)) → list_any test (places_in r (with_all D p k reps rows)) ≡ ((list_any (is_same r) reps && test (new_place D p k r)) || list_any test (places_in r rows))
all_places D p k r [] test rows = refl
all_places D p k r (rep ∷ reps) test rows =
    let here = test (new_place D p k r) in
    all_places D p k r reps test (with_place rep (new_place D p k rep) rows)
    ∙ ap (λ (b : Bool). (list_any (is_same r) reps && here) || b) (one_place r rep (new_place D p k rep) test rows ∙ ap (λ (b : Bool). b || list_any test (places_in r rows)) (own_place D p k r rep test))
    ∙ split_or (is_same r rep) (list_any (is_same r) reps) here (list_any test (places_in r rows))

-- the number at the place of a reference that is among these
at_place : (D : List Deed) (r : WireRep) (reps : List WireRep) → list_any (is_same r) reps ≡ true → number_at_place r reps (owner_sessions D reps) ≡ number r.owner D
at_place D r [] some = absurd (true≢false (sym some))
at_place D r (rep ∷ reps) some = by (is_same r rep) refl (at_place D r reps)
  where
    by : (b : Bool) → is_same r rep ≡ b → (list_any (is_same r) reps ≡ true → number_at_place r reps (owner_sessions D reps) ≡ number r.owner D) → cond b (number rep.owner D) (number_at_place r reps (owner_sessions D reps)) ≡ number r.owner D
    by true here rest = ap (λ (x : WireRep). number x.owner D) (sym (same_ref r rep here))
    by false other rest = rest (sym (ap (λ (b : Bool). b || list_any (is_same r) reps) other) ∙ some)

-- a test of where the next item is sent for a reference, if it carries it
next_place : (D : List Deed) (items : List SentItem) (gift : Gift) (rep : WireRep) (test : PlaceTest) → (carries rep gift.item && test (place_of rep (next_sent D items gift))) ≡ (carries rep gift.item && test (new_place D gift.to (count_to gift.to (number gift.to D) items + 1) rep))
next_place D items gift rep test = by (carries rep gift.item) refl
  where
    x : SentItem
    x = next_sent D items gift

    by : (b : Bool) → carries rep gift.item ≡ b → (b && test (place_of rep x)) ≡ (b && test (new_place D gift.to x.number rep))
    by true here = ap (λ (owner : ℕ). test (record { to = gift.to; session = x.session; number = x.number; with_owner = owner })) (at_place D rep (counted_in gift.item) here)
    by false other = refl

-- ---- items by their names

same_name : (a b : ItemName) → is_same_name a b ≡ true → a ≡ b
same_name a b h =
    let first = and_parts (a.to == b.to) ((a.session == b.session) && (a.number == b.number)) h in
    let rest = and_parts (a.session == b.session) (a.number == b.number) first.1 in
    let one : a.to ≡ b.to = eqb-true a.to b.to first.0 in
    let two : a.session ≡ b.session = eqb-true a.session b.session rest.0 in
    let three : a.number ≡ b.number = eqb-true a.number b.number rest.1 in
    λ i. record { to = one i; session = two i; number = three i }

own_name : (a : ItemName) → is_same_name a a ≡ true
own_name a = and_from (a.to == a.to) ((a.session == a.session) && (a.number == a.number)) (eq-eqb a.to a.to refl) (and_from (a.session == a.session) (a.number == a.number) (eq-eqb a.session a.session refl) (eq-eqb a.number a.number refl))

regroup : (a b c : Bool) → ((a && b) && c) ≡ (a && (b && c))
regroup true b c = refl
regroup false b c = refl

-- the name of an item, compared either way
name_swap : (p session k : ℕ) (x : SentItem) → is_item p session k x ≡ is_same_name (name_of p session k) (name_of x.to x.session x.number)
name_swap p session k x = regroup (x.to == p) (x.session == session) (x.number == k) ∙ (λ i. equal_swap x.to p i && (equal_swap x.session session i && equal_swap x.number k i))

-- the first that passes, by one more
first_last : {A : Type 0} (test : A → Bool) (xs : List A) (x : A) → first_place test (xs ++ x ∷ []) ≡ option_or (first_place test xs) (cond (test x) (Some (length xs)) None)
first_last test [] x = refl
first_last test (y ∷ xs) x = by (test y) (test x) (first_last test xs x)
  where
    later : Option ℕ → Option ℕ
    later place = option_map (λ i. 1 + i) place

    joined : (b : Bool) (place : Option ℕ) → later (option_or place (cond b (Some (length xs)) None)) ≡ option_or (later place) (cond b (Some (length (y ∷ xs))) None)
    joined b (Some place) = refl
    joined true None = ap Some (omega arith)
    joined false None = refl

    by : (a b : Bool) → first_place test (xs ++ x ∷ []) ≡ option_or (first_place test xs) (cond (test x) (Some (length xs)) None) → cond {A = Option ℕ} a (Some 0) (later (first_place test (xs ++ x ∷ []))) ≡ option_or (cond {A = Option ℕ} a (Some 0) (later (first_place test xs))) (cond (test x) (Some (length (y ∷ xs))) None)
    by true b rest = refl
    by false b rest = ap later rest ∙ joined (test x) (first_place test xs)

onward : {A : Type 0} (xs : List A) (x : A) (n : ℕ) → slice_get (x ∷ xs) (1 + n) ≡ slice_get xs n
onward xs x n = let e : 1 + n ≡ suc n = omega arith in ap (slice_get (x ∷ xs)) e

-- the first that passes stands at its place
pub find_first : {A : Type 0} (test : A → Bool) (xs : List A) → option_and_then (slice_get xs) (first_place test xs) ≡ find test xs
find_first test [] = refl
find_first test (x ∷ xs) = by (test x) (first_place test xs) (find_first test xs)
  where
    by : (b : Bool) (place : Option ℕ) → option_and_then (slice_get xs) place ≡ find test xs → option_and_then (slice_get (x ∷ xs)) (cond b (Some 0) (option_map (λ i. 1 + i) place)) ≡ cond b (Some x) (find test xs)
    by true place rest = refl
    by false None rest = rest
    by false (Some place) rest = onward xs x place ∙ rest

-- what was put in stands at its name
put_standing : (name other : ItemName) (place : ℕ) (standings : List (ItemName × ℕ)) → standing_in name (with_standing other place standings) ≡ option_or (standing_in name standings) (cond (is_same_name name other) (Some place) None)
put_standing name other place standings = by (is_some (standing_in other standings)) (is_same_name name other) refl refl
  where
    new : List (ItemName × ℕ)
    new = insert_entry is_same_name standings other place

    old : Option ℕ
    old = standing_in name standings

    none_or : (x : Option ℕ) → x ≡ option_or x None
    none_or None = refl
    none_or (Some y) = refl

    some_or : (x y : Option ℕ) → is_some x ≡ true → x ≡ option_or x y
    some_or None y some = absurd (true≢false (sym some))
    some_or (Some x) y some = refl

    or_new : (x : Option ℕ) → is_some x ≡ false → Some place ≡ option_or x (Some place)
    or_new None none = refl
    or_new (Some y) none = absurd (true≢false none)

    by : (a e : Bool) → is_some (standing_in other standings) ≡ a → is_same_name name other ≡ e → standing_in name (cond a standings new) ≡ option_or old (cond e (Some place) None)
    by true true there here = some_or old (Some place) (ap (λ (x : ItemName). is_some (standing_in x standings)) (same_name name other here) ∙ there)
    by true false there apart = none_or old
    by false true none here =
        put_at is_same_name same_name own_name name other place standings
        ∙ ap (λ (b : Bool). cond b (Some place) old) here
        ∙ or_new old (ap (λ (x : ItemName). is_some (standing_in x standings)) (same_name name other here) ∙ none)
    by false false none apart =
        put_at is_same_name same_name own_name name other place standings
        ∙ ap (λ (b : Bool). cond b (Some place) old) apart
        ∙ none_or old

-- ---- one item more

pub tell_more : (D : List Deed) (counts : List ((ℕ × ℕ) × ℕ)) (rows : List (WireRep × List Place)) (standings : List (ItemName × ℕ)) (items : List SentItem) (gift : Gift) (count : ℕ) → Tell counts rows standings items → count ≡ count_in gift.to (number gift.to D) counts + 1
    → Tell (with_count gift.to (number gift.to D) count counts) (with_all D gift.to count (counted_in gift.item) rows) (with_standing (name_of gift.to (number gift.to D) count) (length items) standings) (items ++ next_sent D items gift ∷ [])
tell_more D counts rows standings items gift count so_far one =
    let x = next_sent D items gift in
    let is : count ≡ x.number = one ∙ ap (λ (k : ℕ). k + 1) (so_far.counted gift.to (number gift.to D)) in
    record {
      counted = λ p k. put_count p k gift.to (number gift.to D) count counts ∙ counted_more p k gift.to (number gift.to D) count counts items (so_far.counted p k) one ∙ sym (count_more p k items x);
      carried = λ rep test.
          let holds : SentItem → Bool = λ y. carries rep y.item && test (place_of rep y) in
          ap (λ (k : ℕ). list_any test (places_in rep (with_all D gift.to k (counted_in gift.item) rows))) is
          ∙ all_places D gift.to x.number rep (counted_in gift.item) test rows
          ∙ (λ i. sym (next_place D items gift rep test) i || so_far.carried rep test i)
          ∙ sym (list_any-append holds items (x ∷ []) ∙ or_last (list_any holds items) (holds x));
      stand = λ p session k.
          put_standing (name_of p session k) (name_of gift.to (number gift.to D) count) (length items) standings
          ∙ ap (λ (j : ℕ). option_or (standing_in (name_of p session k) standings) (cond (is_same_name (name_of p session k) (name_of gift.to (number gift.to D) j)) (Some (length items)) None)) is
          ∙ (λ i. option_or (so_far.stand p session k i) (cond (sym (name_swap p session k x) i) (Some (length items)) None))
          ∙ sym (first_last (is_item p session k) items x);
    }
