-- Which marks hold after some deeds, each by what it says.
use Rattle.std.proofs.Common.{◌≡◌, ℕ, Bool, true, false, true≢false, cond, ◌&&◌, ◌||◌, ◌⊎◌, inl, inr, List, [], ◌∷◌, ◌++◌, map, filter, refl, sym, ap, subst, ◌∙◌}
use Rattle.std.specs.Prelude.{◌==◌, not, flat_map}
use Rattle.std.specs.List.{list_any}
use Rattle.std.proofs.lemmas.Bool.{and_parts, or_cases, or_left, or_right, eqb-true, eq-eqb}
use Rattle.std.proofs.lemmas.List.Folds.{list_any-append}
use Rattle.std.proofs.lemmas.Map.Views.{any-filter_same}
use Rattle.nob_ids.specs.Names.{is_same}
use Rattle.nob_ids.specs.declared.wire_rep.WireRep.{WireRep}
use Rattle.nob_item.specs.Kinds.{counted_in}
use Rattle.nob_model_types.specs.Sessions.{closed, number, item_at}
use Rattle.nob_model_types.specs.Objects.{exports, is_withdrawn, live}
use Rattle.nob_model_types.specs.declared.deed.Deed.{Deed}
use Rattle.nob_model_types.specs.declared.deed.Deed.TheVariants.{Act, Open}
use Rattle.nob_model_work.specs.Gifts.{once}
use Rattle.nob_model_history.specs.Listing.{is_entered, is_entered_after, is_listed}
use Rattle.nob_model_history.specs.Transit.{is_settled, is_of_present, is_pinned, is_some_of}
use Rattle.nob_model_history.specs.declared.transit.SentItem.{SentItem}
use Rattle.nob_model_history.proofs.Turning.{same_ref}
use Rattle.nob_model_journal.specs.Tests.{with_space}
use Rattle.nob_drawing_plan.specs.declared.mark.Mark.{Mark}
use Rattle.nob_drawing_plan.specs.declared.mark.Mark.TheVariants.{Live, Listed, Pinned}
use Rattle.nob_drawing_plan.specs.Marks.{same_mark, live_marks, senders_in, clients_of, listed_marks, pins_of}

-- all that holds after these deeds, of what was sent of these items
abbrev pub front : ℕ → List Deed → List SentItem → List Mark
front s D S = live_marks s D ++ (listed_marks s D ++ flat_map pins_of (filter (is_pinned D) S))

-- whether session j with p is the present one and open here, and item k isn't settled
abbrev pub is_open : (p j k : ℕ) → List Deed → Bool
is_open p j k D = j == number p D && not (is_settled p k D) && not (closed p D)

-- whether a mark holds
abbrev pub held : ℕ → List Deed → List SentItem → Mark → Bool
held s D S (Live rep) = (rep.owner == s && not (is_withdrawn rep.index D)) && list_any (is_same rep) (exports D)
held s D S (Listed rep c) = is_listed s rep.index c D && list_any (is_same rep) (exports D)
held s D S (Pinned rep p j k) = is_open p j k D && list_any (same_mark (Pinned rep p j k)) (flat_map pins_of S)

-- ---- tests of lists

any_map : {A B : Type 0} (test : B → Bool) (f : A → B) (xs : List A) → list_any test (map f xs) ≡ list_any (λ x. test (f x)) xs
any_map test f [] = refl
any_map test f (x ∷ xs) = ap (λ (b : Bool). test (f x) || b) (any_map test f xs)

none : {A : Type 0} (xs : List A) → list_any (λ (x : A). false) xs ≡ false
none [] = refl
none (x ∷ xs) = none xs

no_mark : {A : Type 0} (test : Mark → Bool) (f : A → List Mark) → ((x : A) → list_any test (f x) ≡ false) → (xs : List A) → list_any test (flat_map f xs) ≡ false
no_mark test f lacks [] = refl
no_mark test f lacks (x ∷ xs) =
    list_any-append test (f x) (flat_map f xs)
    ∙ ap (λ (b : Bool). b || list_any test (flat_map f xs)) (lacks x)
    ∙ no_mark test f lacks xs

and_none : (a : Bool) → a && false ≡ false
and_none true = refl
and_none false = refl

or_none : (a : Bool) → a || false ≡ a
or_none true = refl
or_none false = refl

-- a test that is the same of all comes last
any_and : {A : Type 0} (test : A → Bool) (b : Bool) (xs : List A) → list_any (λ x. test x && b) xs ≡ (list_any test xs && b)
any_and test b [] = refl
any_and test b (x ∷ xs) = ap (λ (c : Bool). (test x && b) || c) (any_and test b xs) ∙ parted (test x) (list_any test xs) b
  where
    parted : (p q b : Bool) → (p && b) || (q && b) ≡ (p || q) && b
    parted true true true = refl
    parted true true false = refl
    parted true false true = refl
    parted true false false = refl
    parted false q b = refl

-- or first
any_first : {A : Type 0} (test : A → Bool) (b : Bool) (xs : List A) → list_any (λ x. b && test x) xs ≡ (b && list_any test xs)
any_first test true xs = refl
any_first test false xs = none xs

-- ---- live objects

live_in : (s : ℕ) (D : List Deed) (rep : WireRep) → list_any (same_mark (Live rep)) (live_marks s D) ≡ ((rep.owner == s && not (is_withdrawn rep.index D)) && list_any (is_same rep) (exports D))
live_in s D rep =
    any_map (same_mark (Live rep)) Live (live s D)
    ∙ any-filter_same (is_same rep) test (test rep) (λ other same. ap test (sym (same_ref rep other same))) (exports D)
  where
    test : WireRep → Bool
    test other = other.owner == s && not (is_withdrawn other.index D)

-- ---- listed clients

flipped : (c : ℕ) (xs : List ℕ) → list_any (λ (x : ℕ). x == c) xs ≡ true → list_any (λ (x : ℕ). c == x) xs ≡ true
flipped c [] h = h
flipped c (x ∷ xs) h = by (flipped c xs) (or_cases (x == c) (list_any (λ (y : ℕ). y == c) xs) h)
  where
    by : (list_any (λ (y : ℕ). y == c) xs ≡ true → list_any (λ (y : ℕ). c == y) xs ≡ true) → ((x == c) ≡ true) ⊎ (list_any (λ (y : ℕ). y == c) xs ≡ true) → (c == x) || list_any (λ (y : ℕ). c == y) xs ≡ true
    by rest (inl here) = or_left (c == x) _ (eq-eqb c x (sym (eqb-true x c here)))
    by rest (inr behind) = or_right (c == x) _ (rest behind)

more_senders : (c p : ℕ) (xs : List ℕ) → ((p == c) ≡ true) ⊎ (list_any (λ (x : ℕ). c == x) xs ≡ true) → list_any (λ (x : ℕ). c == x) (with_space p xs) ≡ true
more_senders c p xs found = by (list_any (λ (x : ℕ). x == p) xs) refl found
  where
    by : (b : Bool) → list_any (λ (x : ℕ). x == p) xs ≡ b → ((p == c) ≡ true) ⊎ (list_any (λ (x : ℕ). c == x) xs ≡ true) → list_any (λ (x : ℕ). c == x) (cond b xs (p ∷ xs)) ≡ true
    by true there (inl same) = flipped c xs (subst (λ (x : ℕ). list_any (λ (y : ℕ). y == x) xs ≡ true) (eqb-true p c same) there)
    by true there (inr before) = before
    by false there (inl same) = or_left (c == p) _ (eq-eqb c p (sym (eqb-true p c same)))
    by false there (inr before) = or_right (c == p) _ before

-- who is entered sent an item that was acted on
entered_sent : (s i c : ℕ) (D : List Deed) → is_entered s i c D ≡ true → list_any (λ (x : ℕ). c == x) (senders_in D) ≡ true
entered_sent s i c [] h = absurd (true≢false (sym h))
entered_sent s i c (Act p k ∷ D) h = by (entered_sent s i c D) (p == c) refl h
  where
    by : (is_entered s i c D ≡ true → list_any (λ (x : ℕ). c == x) (senders_in D) ≡ true) → (b : Bool) → (p == c) ≡ b → cond b (is_entered_after s i (item_at p k D) D (is_entered s i c D)) (is_entered s i c D) ≡ true → list_any (λ (x : ℕ). c == x) (with_space p (senders_in D)) ≡ true
    by rest true same entered = more_senders c p (senders_in D) (inl same)
    by rest false other entered = more_senders c p (senders_in D) (inr (rest entered))
entered_sent s i c (Open q k ∷ D) h = by (entered_sent s i c D) (q == c) h
  where
    by : (is_entered s i c D ≡ true → list_any (λ (x : ℕ). c == x) (senders_in D) ≡ true) → (b : Bool) → cond b false (is_entered s i c D) ≡ true → list_any (λ (x : ℕ). c == x) (senders_in D) ≡ true
    by rest true never = absurd (true≢false (sym never))
    by rest false before = rest before
entered_sent s i c (deed ∷ D) h = entered_sent s i c D h

listed_sent : (s i c : ℕ) (D : List Deed) → is_listed s i c D ≡ true → list_any (λ (x : ℕ). c == x) (senders_in D) ≡ true
listed_sent s i c D h = entered_sent s i c D (and_parts (not (closed c D)) (is_entered s i c D) h).1

-- the clients that are listed for one object
client_in : (s : ℕ) (D : List Deed) (rep : WireRep) (c : ℕ) (other : WireRep) → list_any (same_mark (Listed rep c)) (clients_of s D other) ≡ (is_listed s rep.index c D && is_same rep other)
client_in s D rep c other =
    any_map (same_mark (Listed rep c)) (Listed other) (filter listed (senders_in D))
    ∙ any-filter_same test listed (is_listed s rep.index c D) same (senders_in D)
    ∙ ap (λ (b : Bool). is_listed s rep.index c D && b) (any_first (λ (x : ℕ). c == x) (is_same rep other) (senders_in D))
    ∙ by (is_listed s rep.index c D) refl
  where
    listed : ℕ → Bool
    listed client = is_listed s other.index client D

    test : ℕ → Bool
    test client = is_same rep other && c == client

    same : (client : ℕ) → test client ≡ true → listed client ≡ is_listed s rep.index c D
    same client h =
        let parts = and_parts (is_same rep other) (c == client) h in
        ap (λ (x : ℕ). is_listed s other.index x D) (sym (eqb-true c client parts.1))
        ∙ ap (λ (r : WireRep). is_listed s r.index c D) (sym (same_ref rep other parts.0))

    and_true : (a : Bool) → a && true ≡ a
    and_true true = refl
    and_true false = refl

    by : (b : Bool) → is_listed s rep.index c D ≡ b → b && (is_same rep other && list_any (λ (x : ℕ). c == x) (senders_in D)) ≡ b && is_same rep other
    by true is = ap (λ (b : Bool). is_same rep other && b) (listed_sent s rep.index c D is) ∙ and_true (is_same rep other)
    by false is = refl

clients_in : (s : ℕ) (D : List Deed) (rep : WireRep) (c : ℕ) (E : List WireRep) → list_any (same_mark (Listed rep c)) (flat_map (clients_of s D) E) ≡ (is_listed s rep.index c D && list_any (is_same rep) E)
clients_in s D rep c [] = sym (and_none (is_listed s rep.index c D))
clients_in s D rep c (other ∷ E) =
    list_any-append (same_mark (Listed rep c)) (clients_of s D other) (flat_map (clients_of s D) E)
    ∙ ap (λ (b : Bool). b || list_any (same_mark (Listed rep c)) (flat_map (clients_of s D) E)) (client_in s D rep c other)
    ∙ ap (λ (b : Bool). (is_listed s rep.index c D && is_same rep other) || b) (clients_in s D rep c E)
    ∙ parted (is_listed s rep.index c D) (is_same rep other) (list_any (is_same rep) E)
  where
    parted : (b p q : Bool) → (b && p) || (b && q) ≡ b && (p || q)
    parted true p q = refl
    parted false p q = refl

-- ---- pins

once_some : (test : WireRep → Bool) (reps : List WireRep) → list_any test (once reps) ≡ true → is_some_of reps ≡ true
once_some test [] h = absurd (true≢false (sym h))
once_some test (rep ∷ reps) h = refl

-- what carries a pinned reference is pinned as long as it is open
carried : (D : List Deed) (rep : WireRep) (p j k : ℕ) (x : SentItem) → list_any (same_mark (Pinned rep p j k)) (pins_of x) ≡ true → is_pinned D x ≡ is_open p j k D
carried D rep p j k x h =
    ap (λ (b : Bool). b && is_of_present D x && not (is_settled x.to x.number D) && not (closed x.to D)) some
    ∙ ap (λ (q : ℕ). x.session == number q D && not (is_settled q x.number D) && not (closed q D)) (sym (eqb-true p x.to three.1))
    ∙ ap (λ (m : ℕ). m == number p D && not (is_settled p x.number D) && not (closed p D)) (sym (eqb-true j x.session two.1))
    ∙ ap (λ (m : ℕ). j == number p D && not (is_settled p m D) && not (closed p D)) (sym (eqb-true k x.number one.1))
  where
    all : List WireRep
    all = once (counted_in x.item)

    tests : ((list_any (is_same rep) all && p == x.to) && j == x.session) && k == x.number ≡ true
    tests =
        ap (λ (b : Bool). (b && j == x.session) && k == x.number) (sym (any_and (is_same rep) (p == x.to) all))
        ∙ ap (λ (b : Bool). b && k == x.number) (sym (any_and (λ (r : WireRep). is_same rep r && p == x.to) (j == x.session) all))
        ∙ sym (any_and (λ (r : WireRep). is_same rep r && p == x.to && j == x.session) (k == x.number) all)
        ∙ sym (any_map (same_mark (Pinned rep p j k)) (λ (r : WireRep). Pinned r x.to x.session x.number) all)
        ∙ h

    one : ((list_any (is_same rep) all && p == x.to) && j == x.session ≡ true) × ((k == x.number) ≡ true)
    one = and_parts ((list_any (is_same rep) all && p == x.to) && j == x.session) (k == x.number) tests

    two : (list_any (is_same rep) all && p == x.to ≡ true) × ((j == x.session) ≡ true)
    two = and_parts (list_any (is_same rep) all && p == x.to) (j == x.session) one.0

    three : (list_any (is_same rep) all ≡ true) × ((p == x.to) ≡ true)
    three = and_parts (list_any (is_same rep) all) (p == x.to) two.0

    some : is_some_of (counted_in x.item) ≡ true
    some = once_some (is_same rep) (counted_in x.item) three.0

pinned_in : (D : List Deed) (rep : WireRep) (p j k : ℕ) (S : List SentItem) → list_any (same_mark (Pinned rep p j k)) (flat_map pins_of (filter (is_pinned D) S)) ≡ (is_open p j k D && list_any (same_mark (Pinned rep p j k)) (flat_map pins_of S))
pinned_in D rep p j k [] = sym (and_none (is_open p j k D))
pinned_in D rep p j k (x ∷ S) =
    by (pinned_in D rep p j k S) (is_pinned D x) refl
    ∙ sym (ap (λ (b : Bool). is_open p j k D && b) (list_any-append test (pins_of x) (flat_map pins_of S)))
  where
    test : Mark → Bool
    test = same_mark (Pinned rep p j k)

    kept : (a q o : Bool) → (a ≡ true → true ≡ o) → a || (o && q) ≡ o && (a || q)
    kept true q true h = refl
    kept true q false h = absurd (true≢false (h refl))
    kept false q o h = refl

    left : (a q o : Bool) → (a ≡ true → false ≡ o) → o && q ≡ o && (a || q)
    left true q true h = absurd (true≢false (sym (h refl)))
    left true q false h = refl
    left false q o h = refl

    by : list_any test (flat_map pins_of (filter (is_pinned D) S)) ≡ (is_open p j k D && list_any test (flat_map pins_of S)) → (b : Bool) → is_pinned D x ≡ b → list_any test (flat_map pins_of (cond b (x ∷ filter (is_pinned D) S) (filter (is_pinned D) S))) ≡ is_open p j k D && (list_any test (pins_of x) || list_any test (flat_map pins_of S))
    by rest true is =
        list_any-append test (pins_of x) (flat_map pins_of (filter (is_pinned D) S))
        ∙ ap (λ (b : Bool). list_any test (pins_of x) || b) rest
        ∙ kept (list_any test (pins_of x)) (list_any test (flat_map pins_of S)) (is_open p j k D) (λ h. sym is ∙ carried D rep p j k x h)
    by rest false is =
        rest
        ∙ left (list_any test (pins_of x)) (list_any test (flat_map pins_of S)) (is_open p j k D) (λ h. sym is ∙ carried D rep p j k x h)

-- ---- all

parts_in : (test : Mark → Bool) (xs ys zs : List Mark) → list_any test (xs ++ (ys ++ zs)) ≡ list_any test xs || (list_any test ys || list_any test zs)
parts_in test xs ys zs = list_any-append test xs (ys ++ zs) ∙ ap (λ (b : Bool). list_any test xs || b) (list_any-append test ys zs)

pub in_front : (s : ℕ) (D : List Deed) (S : List SentItem) (m : Mark) → list_any (same_mark m) (front s D S) ≡ held s D S m
in_front s D S (Live rep) =
    let test = same_mark (Live rep) in
    let pins = flat_map pins_of (filter (is_pinned D) S) in
    parts_in test (live_marks s D) (listed_marks s D) pins
    ∙ ap (λ (b : Bool). list_any test (live_marks s D) || (b || list_any test pins)) (no_mark test (clients_of s D) (λ r. any_map test (Listed r) (filter (λ c. is_listed s r.index c D) (senders_in D)) ∙ none (filter (λ c. is_listed s r.index c D) (senders_in D))) (exports D))
    ∙ ap (λ (b : Bool). list_any test (live_marks s D) || b) (no_mark test pins_of (λ x. any_map test (λ r. Pinned r x.to x.session x.number) (once (counted_in x.item)) ∙ none (once (counted_in x.item))) (filter (is_pinned D) S))
    ∙ or_none (list_any test (live_marks s D))
    ∙ live_in s D rep
in_front s D S (Listed rep c) =
    let test = same_mark (Listed rep c) in
    let pins = flat_map pins_of (filter (is_pinned D) S) in
    parts_in test (live_marks s D) (listed_marks s D) pins
    ∙ ap (λ (b : Bool). b || (list_any test (listed_marks s D) || list_any test pins)) (any_map test Live (live s D) ∙ none (live s D))
    ∙ ap (λ (b : Bool). list_any test (listed_marks s D) || b) (no_mark test pins_of (λ x. any_map test (λ r. Pinned r x.to x.session x.number) (once (counted_in x.item)) ∙ none (once (counted_in x.item))) (filter (is_pinned D) S))
    ∙ or_none (list_any test (listed_marks s D))
    ∙ clients_in s D rep c (exports D)
in_front s D S (Pinned rep p j k) =
    let test = same_mark (Pinned rep p j k) in
    let pins = flat_map pins_of (filter (is_pinned D) S) in
    parts_in test (live_marks s D) (listed_marks s D) pins
    ∙ ap (λ (b : Bool). b || (list_any test (listed_marks s D) || list_any test pins)) (any_map test Live (live s D) ∙ none (live s D))
    ∙ ap (λ (b : Bool). b || list_any test pins) (no_mark test (clients_of s D) (λ r. any_map test (Listed r) (filter (λ c. is_listed s r.index c D) (senders_in D)) ∙ none (filter (λ c. is_listed s r.index c D) (senders_in D))) (exports D))
    ∙ pinned_in D rep p j k S
